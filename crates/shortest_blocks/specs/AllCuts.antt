-- All cuts of the bit lengths that occur, and what they cost.
use Rattle.std.specs.Prelude.{ℕ, ◌<◌, List, [], ◌∷◌, slice_index}
use Rattle.shortest_blocks.specs.declared.cuts.Cut.{Cut}
use Rattle.shortest_blocks.specs.Cuts.{no_cut, run_to, with_run}

-- the cut whose runs end with these lengths, the greatest first
abbrev pub cut_along : List ℕ → ℕ → ℕ → List ℕ → Cut
cut_along counts all comps [] = no_cut
cut_along counts all comps (l ∷ ls) = with_run (run_to counts all comps l) (cut_along counts all comps ls)

-- lengths that occur, the first below a number, and each below the one before it
abbrev pub AreLasts : List ℕ → ℕ → List ℕ → Type 0
AreLasts counts limit [] = Unit {0}
AreLasts counts limit (l ∷ ls) = (l < limit) × (0 < slice_index counts l) × AreLasts counts l ls
