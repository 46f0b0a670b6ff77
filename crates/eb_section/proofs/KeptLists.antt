-- Lists that are kept as bytes are those that were read, and give the same rebuilding.
use Rattle.std.proofs.Common.{◌≡◌, ℕ, zero, suc, min, List, ◌∷◌, length, reverse, sum_by, Result, Ok, Err, refl, sym, ap, subst, ◌∙◌}
use Rattle.drc_base.specs.declared.faults.Fault.{Fault}
use Rattle.drc_base.specs.declared.faults.Refusal.{Refusal}
use Rattle.drc_base.specs.declared.faults.Refusal.TheVariants as refusal
use Rattle.drc_base.specs.Refusals.{Refuses}
use Rattle.drc_base.specs.Steps.{◌>>=◌}
use Rattle.drc_bits.specs.Reading.{Reading, Item, many_at}
use Rattle.drc_bits.proofs.Results.{Ok-injective, err≢ok}
use Rattle.corner_table.specs.declared.symbols.Event.{Event}
use Rattle.corner_table.specs.declared.symbols.Symbol.{Symbol}
use Rattle.rans_binary.specs.Blocks.{Block, bit_of, bit_block_at}
use Rattle.eb_machine.specs.Machine.{Plan, State, start, step, close_all, finish}
use Rattle.eb_valence.specs.declared.context_lists.TheConstants.{CONTEXTS}
use Rattle.eb_valence.specs.Reading.{kept_list, kept_lists}
use Rattle.eb_valence.specs.Contexts.{symbol_at}
use Rattle.eb_valence.proofs.KeptNumbers.{with_kept, symbol_kept, count_kept}
use Rattle.eb_section.specs.declared.opening.Opening.{Opening}
use Rattle.eb_section.specs.Opening.{plan_of}
use Rattle.eb_section.specs.Calls.{lists_behind, symbols_in_lists}
use Rattle.eb_section.specs.Feeding.{fed, rebuilt}
use Rattle.eb_section.specs.Connectivity.{Connectivity, list_at, section_of, valence_behind}
use Rattle.eb_section.specs.KeptLists.{kept_list_at}
use Rattle.eb_section.proofs.Runs.{refuses-then}

-- ---- rebuilding

-- what the machine is fed behind a symbol is the same, if it is in each state behind it
fed_behind : (n left : ℕ) → ((lists : List (List ℕ)) (s : State) → fed symbol_at n left (kept_lists lists) s ≡ fed symbol_at n left lists s) →
    (s : State) (drawn : Result (Symbol × List (List ℕ)) Fault) →
    (with_kept drawn >>= λ x. step n x.0 s >>= fed symbol_at n left x.1) ≡ (drawn >>= λ x. step n x.0 s >>= fed symbol_at n left x.1)
fed_behind n left same s (Err f) = refl
fed_behind n left same s (Ok x) = go (step n x.0 s)
  where
    go : (r : Result State Fault) → (r >>= fed symbol_at n left (kept_lists x.1)) ≡ (r >>= fed symbol_at n left x.1)
    go (Ok t) = same x.1 t
    go (Err f) = refl

fed_kept : (n left : ℕ) (lists : List (List ℕ)) (s : State) → fed symbol_at n left (kept_lists lists) s ≡ fed symbol_at n left lists s
unfolding fed
fed_kept n zero lists s = refl
fed_kept n (suc left) lists s =
    ap (λ (r : Result (Symbol × List (List ℕ)) Fault). r >>= λ x. step n x.0 s >>= fed symbol_at n left x.1) (symbol_kept lists s)
    ∙ fed_behind n left (fed_kept n left) s (symbol_at lists s)

pub rebuilt_kept : (p : Plan) (lists : List (List ℕ)) (starts : Block) (s : State) → rebuilt symbol_at p (kept_lists lists) starts s ≡ rebuilt symbol_at p lists starts s
unfolding rebuilt
rebuilt_kept p lists starts s =
    ap (λ (r : Result State Fault). r >>= λ t. close_all p (bit_of starts) (length t.stack) t >>= finish p) (fed_kept p.symbols p.symbols lists s)

-- ---- reading

-- lists that were read, as a reader keeps them
abbrev pub kept_item : Item (List (List ℕ)) → Item (List (List ℕ))
kept_item item = item >>= λ lists. Ok (kept_lists lists.0, lists.1)

-- lists behind one
behind_one : (numbers : List ℕ) (item : Item (List (List ℕ))) →
    (kept_item item >>= λ xs. Ok (kept_list numbers ∷ xs.0, xs.1)) ≡ kept_item (item >>= λ xs. Ok (numbers ∷ xs.0, xs.1))
behind_one numbers (Ok lists) = refl
behind_one numbers (Err f) = refl

-- a list and those behind it
one_more : (symbols n : ℕ) → ((c : Reading) → many_at (kept_list_at symbols) n c ≡ kept_item (many_at (list_at symbols) n c)) → (item : Item (List ℕ)) →
    ((item >>= λ x. (let kept : Item (List ℕ) = Ok (kept_list x.0, x.1) in kept)) >>= λ x. many_at (kept_list_at symbols) n x.1 >>= λ xs. Ok (x.0 ∷ xs.0, xs.1))
    ≡ kept_item (item >>= λ x. many_at (list_at symbols) n x.1 >>= λ xs. Ok (x.0 ∷ xs.0, xs.1))
one_more symbols n same (Err f) = refl
one_more symbols n same (Ok x) =
    ap (λ (item : Item (List (List ℕ))). item >>= λ xs. Ok (kept_list x.0 ∷ xs.0, xs.1)) (same x.1)
    ∙ behind_one x.0 (many_at (list_at symbols) n x.1)

pub many_kept : (symbols n : ℕ) (c : Reading) → many_at (kept_list_at symbols) n c ≡ kept_item (many_at (list_at symbols) n c)
unfolding many_at kept_list_at
many_kept symbols zero c = refl
many_kept symbols (suc n) c = one_more symbols n (many_kept symbols n) (list_at symbols c)

-- the lists that were read, of those that are kept
pub record ReadAs (symbols n : ℕ) (c d : Reading) (kept : List (List ℕ)) : Type 0 where
  pub lists : List (List ℕ)
  pub read : many_at (list_at symbols) n c ≡ Ok (lists, d)
  pub same : kept_lists lists ≡ kept

pub read_as : (symbols n : ℕ) (c d : Reading) (kept : List (List ℕ)) → many_at (kept_list_at symbols) n c ≡ Ok (kept, d) → ReadAs symbols n c d kept
read_as symbols n c d kept e = go (many_at (list_at symbols) n c) refl (sym (many_kept symbols n c) ∙ e)
  where
    go : (item : Item (List (List ℕ))) → many_at (list_at symbols) n c ≡ item → kept_item item ≡ Ok (kept, d) → ReadAs symbols n c d kept
    go (Err f) q h = absurd (err≢ok h)
    go (Ok x) q h =
        let p = Ok-injective h in record {
          lists = x.0;
          read = q ∙ ap (λ (r : Reading). Ok (x.0, r)) (ap (λ (y : List (List ℕ) × Reading). y.1) p);
          same = ap (λ (y : List (List ℕ) × Reading). y.0) p;
        }

-- a fault of theirs
pub read_fault : (symbols n : ℕ) (c : Reading) (f : Fault) → many_at (kept_list_at symbols) n c ≡ Err f → many_at (list_at symbols) n c ≡ Err f
read_fault symbols n c f e = go (many_at (list_at symbols) n c) (sym (many_kept symbols n c) ∙ e)
  where
    go : (item : Item (List (List ℕ))) → kept_item item ≡ Err f → item ≡ Err f
    go (Err g) h = h
    go (Ok x) h = absurd (err≢ok (sym h))

-- ---- the section

-- the surface of a run, in the section
abbrev pub surface : Opening → List Event → List Block → Reading → Result State Fault → Item Connectivity
surface o events seams d run = run >>= λ s. Ok (section_of o events seams s, d)

-- behind the events there is the surface of the lists as they are kept
pub behind_kept : (o : Opening) (events : List Event) (c c1 c2 d : Reading) (starts : Block) (seams : List Block) (kept : List (List ℕ)) →
    bit_block_at c ≡ Ok (starts, c1) → many_at bit_block_at o.attr_data c1 ≡ Ok (seams, c2) → many_at (kept_list_at o.symbols) CONTEXTS c2 ≡ Ok (kept, d) →
    valence_behind o events c ≡ surface o events seams d (rebuilt symbol_at (plan_of o) kept starts (start (reverse events)))
unfolding valence_behind
behind_kept o events c c1 c2 d starts seams kept first second third =
    let R = read_as o.symbols CONTEXTS c2 d kept third in
    let run : List (List ℕ) → Result State Fault = λ lists. rebuilt symbol_at (plan_of o) lists starts (start (reverse events)) in
    let read : valence_behind o events c ≡ surface o events seams d (run R.lists) = rw (first, second, R.read) refl in
    read ∙ ap (surface o events seams d) (sym (rebuilt_kept (plan_of o) R.lists starts (start (reverse events))) ∙ ap run R.same)

-- a fault of the lists
pub lists_refused : (o : Opening) (events : List Event) (c c1 c2 : Reading) (starts : Block) (seams : List Block) (e : Refusal) →
    bit_block_at c ≡ Ok (starts, c1) → many_at bit_block_at o.attr_data c1 ≡ Ok (seams, c2) → Refuses (many_at (kept_list_at o.symbols) CONTEXTS c2) e →
    Refuses (valence_behind o events c) e
unfolding valence_behind
lists_refused o events c c1 c2 starts seams (refusal.Fault f) first second third = rw (first, second, read_fault o.symbols CONTEXTS c2 f third) refl
lists_refused o events c c1 c2 starts seams refusal.Memory first second third = tt

-- a fault of the rebuilding
pub run_refused : (o : Opening) (events : List Event) (c c1 c2 d : Reading) (starts : Block) (seams : List Block) (kept : List (List ℕ)) (e : Refusal) →
    bit_block_at c ≡ Ok (starts, c1) → many_at bit_block_at o.attr_data c1 ≡ Ok (seams, c2) → many_at (kept_list_at o.symbols) CONTEXTS c2 ≡ Ok (kept, d) →
    Refuses (rebuilt symbol_at (plan_of o) kept starts (start (reverse events))) e → Refuses (valence_behind o events c) e
run_refused o events c c1 c2 d starts seams kept e first second third h =
    subst (λ (item : Item Connectivity). Refuses item e) (sym (behind_kept o events c c1 c2 d starts seams kept first second third))
    (refuses-then (rebuilt symbol_at (plan_of o) kept starts (start (reverse events))) (λ s. Ok (section_of o events seams s, d)) e h)

-- so many symbols can come as are kept, and the first
pub symbols_kept : (o : Opening) (c c1 c2 d : Reading) (starts : Block) (seams : List Block) (kept : List (List ℕ)) →
    bit_block_at c ≡ Ok (starts, c1) → many_at bit_block_at o.attr_data c1 ≡ Ok (seams, c2) → many_at (kept_list_at o.symbols) CONTEXTS c2 ≡ Ok (kept, d) →
    symbols_in_lists o.symbols (lists_behind o c) ≡ min o.symbols (suc (sum_by length kept))
unfolding lists_behind
symbols_kept o c c1 c2 d starts seams kept first second third =
    let R = read_as o.symbols CONTEXTS c2 d kept third in
    let read : lists_behind o c ≡ Ok (R.lists, d) = rw (first, second) R.read in
    ap (symbols_in_lists o.symbols) read
    ∙ ap (λ (n : ℕ). min o.symbols (suc n)) (sym (count_kept R.lists) ∙ ap (λ (l : List (List ℕ)). sum_by length l) R.same)
