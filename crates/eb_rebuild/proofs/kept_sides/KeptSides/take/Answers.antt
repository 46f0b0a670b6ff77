-- The entry beside the number, or none, which is written there.
use Rattle.std.proofs.Common.{◌≡◌, ℕ, List, get_or, set, sym, ap, ◌∙◌}
use Rattle.std.proofs.lemmas.List.{set-get_or}
use Rattle.corner_table.specs.Table.{free_entry}
use Rattle.eb_rebuild.specs.Kept.{KeptValue}
use Rattle.eb_rebuild.proofs.Spread.{spread_lacks, beside_at, beside_set}
use Rattle.eb_rebuild.proofs.kept_sides.KeptSides.take.Goals as goal

-- none is written over none
none_over : (sides : List ℕ) (k : ℕ) → get_or sides k free_entry ≡ free_entry → sides ≡ set sides k free_entry
none_over sides k e = sym (ap (set sides k) (sym e) ∙ set-get_or sides k free_entry)

pub returns-in-None-clause-side : goal.returns-in-None-clause-side
returns-in-None-clause-side c =
    sym (spread_lacks c.self.inside.symbols c.self.inside.numbers.items c.self.inside.sides.items c.args.symbol c.in-None.ensures.none)
    ∙ ap (λ (v : KeptValue). get_or v.sides c.args.symbol free_entry) c.self.view_is

pub returns-in-None-clause-sides : goal.returns-in-None-clause-sides
returns-in-None-clause-sides c = none_over c.args.self.now.sides c.args.symbol (sym (returns-in-None-clause-side c))

pub returns-in-Some-clause-side : goal.returns-in-Some-clause-side
returns-in-Some-clause-side c =
    c.index-side.ensures
    ∙ beside_at c.in-Some.place c.args.symbol c.index-side.result.now free_entry c.self.invariant c.in-Some.ensures.there.0 c.in-Some.ensures.there.1
    ∙ ap (λ (v : KeptValue). get_or v.sides c.args.symbol free_entry) c.self.view_is

pub returns-in-Some-clause-sides : goal.returns-in-Some-clause-sides
returns-in-Some-clause-sides c =
    beside_set c.in-Some.place c.args.symbol free_entry c.self.invariant c.in-Some.ensures.there.0 c.in-Some.ensures.there.1
    ∙ ap (λ (v : KeptValue). set v.sides c.args.symbol free_entry) c.self.view_is
