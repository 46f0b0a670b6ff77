-- Cuts of the bit lengths of groups into runs of neighbours, of which each run is joined to its last length, and the cut
-- that costs least (this project's choice).
use Rattle.std.specs.Prelude.{ℕ, zero, suc, ◌+◌, ◌-◌, ◌*◌, ◌^◌, ◌<◌, ◌≤◌, ◌==◌, nat_lt, Bool, List, [], ◌∷◌, ◌++◌, map, length, replicate, sum, take, slice_index, slice_index_or, if◌then◌else◌}
use Rattle.std.specs.List.{best_of}
use Rattle.shortest_blocks.specs.declared.cuts.Cut.{Cut}
use Rattle.shortest_blocks.specs.declared.cuts.Run.{Run}
use Rattle.shortest_blocks.specs.Costs.{cost_of_run}

-- the cut of no lengths
abbrev pub no_cut : Cut
no_cut = record { groups = 0; cost = 0; joined = [] }

-- what a cut and the run behind it cost
abbrev pub cost_behind : Run → Cut → ℕ
cost_behind run cut = cut.cost + cost_of_run run.all run.comps (length cut.joined) run.last (run.groups - cut.groups)

-- the cut with the run behind it: all lengths behind the cut become the run's last one
abbrev pub with_run : Run → Cut → Cut
with_run run cut = record {
  groups = run.groups;
  cost = cost_behind run cut;
  joined = cut.joined ++ replicate (run.last + 1 - length cut.joined) run.last;
}

-- whether a cut costs less than another
abbrev pub is_cheaper : Cut → Cut → Bool
is_cheaper a b = nat_lt a.cost b.cost

-- the run behind the cut behind which it costs least, the first such
abbrev pub best_cut : Run → List Cut → Cut
best_cut run [] = no_cut
best_cut run (c ∷ cs) = best_of is_cheaper (with_run run c) (map (with_run run) cs)

-- the run that ends with this length
abbrev pub run_to : List ℕ → ℕ → ℕ → ℕ → Run
run_to counts all comps last = record { all = all; comps = comps; last = last; groups = sum (take (last + 1) counts) }

-- the best cuts up to each of the lengths below this one that occur, the cut of none first; `counts` says how many of all groups
-- have each length
unfoldable pub cuts_below : List ℕ → ℕ → ℕ → ℕ → List Cut
cuts_below counts all comps zero = no_cut ∷ []
cuts_below counts all comps (suc last) = let cuts = cuts_below counts all comps last in
    if slice_index counts last == 0 then cuts else cuts ++ best_cut (run_to counts all comps last) cuts ∷ []

-- what a run asks of the cuts before it
abbrev pub IsBefore : Run → Cut → Type 0
IsBefore run cut = (cut.groups < run.groups) × (length cut.joined ≤ run.last) × (cut.cost ≤ run.last * 2 ^ 43)

abbrev pub AreCuts : Run → List Cut → Type 0
AreCuts run cuts = (i : ℕ) → i < length cuts → IsBefore run (slice_index_or cuts i no_cut)
