use Rattle.std.proofs.Common.{ℕ, ◌≤◌, length, get_or, sym, ◌∙◌, arith}
use Rattle.std.proofs.lemmas.List.{get_or-map, get_or_past, length-map}
use Rattle.corner_table.specs.Ordered.{entries_by}
use Rattle.attr_section.proofs.places.entry_at.Goals as goal

pub returns-then-corner-classes : goal.returns-then-corner-classes
returns-then-corner-classes c =
    let entries = entries_by c.args.classes.now c.args.entry_of_class.now in
    let long = length-map c.args.classes.now (λ (k : ℕ). get_or c.args.entry_of_class.now k 0) in
    let past : length entries ≤ c.args.corner = omega (arith, long, c.if-corner-classes.true) in
    sym (get_or_past entries c.args.corner 0 past)

pub returns : goal.returns
returns c =
    c.number_or_zero.ensures ∙ sym (get_or-map (λ (k : ℕ). get_or c.args.entry_of_class.now k 0) c.args.classes.now c.args.corner 0 0 c.if-corner-classes.false)
