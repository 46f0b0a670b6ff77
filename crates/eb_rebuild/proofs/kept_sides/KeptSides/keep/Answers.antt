-- The entry beside the number is written where it is none.
use Rattle.std.proofs.Common.{◌≡◌, ℕ, ◌<◌, List, length, get_or, set, sym, ap, subst, ◌∙◌, rules}
use Rattle.std.proofs.lemmas.List.{get_or_default}
use Rattle.std.specs.List.{Contains}
use Rattle.corner_table.specs.Table.{free_entry}
use Rattle.eb_rebuild.specs.Kept.{KeptValue, AreBeside, spread, Lacks}
use Rattle.eb_rebuild.proofs.Spread.{beside_at, beside_set}
use Rattle.eb_rebuild.proofs.kept_sides.KeptSides.keep.Goals as goal

-- the entry that is read is that of the symbol
read_at : {n : ℕ} {numbers sides : List ℕ} (kept : KeptValue) (i k v : ℕ) → record { sides = spread n numbers sides; numbers = numbers } ≡ kept → AreBeside n numbers sides → i < length numbers → get_or numbers i 0 ≡ k → v ≡ get_or sides i v →
    v ≡ get_or kept.sides k free_entry
read_at kept i k v view B within is e = e ∙ beside_at i k v free_entry B within is ∙ ap (λ (w : KeptValue). get_or w.sides k free_entry) view

-- a symbol that there is room for isn't lacking
has : (numbers : List ℕ) (k : ℕ) → Contains numbers k → Lacks numbers k → ⊥
has numbers k there lacks = lacks there.0 there.1 (get_or_default numbers there.0 0 k there.1 ∙ there.2)

pub returns-in-Some-clause-free : goal.returns-in-Some-clause-free
returns-in-Some-clause-free c =
    let e = read_at c.args.self.now c.in-Some.place c.args.symbol c.index.result.now c.self.view_is c.self.invariant c.in-Some.ensures.there.0 c.in-Some.ensures.there.1 c.index.ensures in
    search (rules, e)

pub returns-in-Some-clause-sides : goal.returns-in-Some-clause-sides
returns-in-Some-clause-sides c =
    beside_set c.in-Some.place c.args.symbol c.args.side c.self.invariant c.in-Some.ensures.there.0 c.in-Some.ensures.there.1
    ∙ ap (λ (v : KeptValue). set v.sides c.args.symbol c.args.side) c.self.view_is

pub returns-in_default-clause-free : goal.returns-in_default-clause-free
returns-in_default-clause-free c =
    let e = read_at c.args.self.now c.in-Some.place c.args.symbol c.index.result.now c.self.view_is c.self.invariant c.in-Some.ensures.there.0 c.in-Some.ensures.there.1 c.index.ensures in
    search (rules, e)

pub returns-in_default-2-clause-free : goal.returns-in_default-2-clause-free
returns-in_default-2-clause-free c =
    absurd (has c.self.inside.numbers.items c.args.symbol (subst (λ (v : KeptValue). Contains v.numbers c.args.symbol) (sym c.self.view_is) c.requires) c.in_default.ensures.none)
