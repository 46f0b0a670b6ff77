use Rattle.std.proofs.Common.{◌≡◌, ◌<◌, ◌∙◌, ℕ, [], ◌∷◌, length, map, get_or, refl, sym, subst, rules}
use Rattle.std.specs.List.{All}
use Rattle.std.proofs.lemmas.List.{length-map}
use Rattle.corner_table.specs.Sides.{side_at}
use Rattle.attr_section.specs.Examples.{example_head, shape_head, shape_positions, shape_values}
use Rattle.predict.specs.Surfaces.{surface}
use Rattle.attr_section.proofs.Corrections.{entries_below}
use Rattle.attr_section.proofs.Examples.{shape-values-pass}
use Rattle.tests_section.proofs.attr_section_shape_tests.shapes_are_written.Goals as goal

pub write_decoder-requires-clause-values : goal.write_decoder-requires-clause-values
write_decoder-requires-clause-values c =
    let on = c.args.on.now in
    let order = on.order.now in
    let four : length order.corner_of_entry ≡ 4 = search rules in
    let count : length (surface on).corners ≡ length order.corner_of_entry = length-map order.corner_of_entry side_at in
    let entries : All (λ (e : ℕ). e < length (surface on).corners) (surface on).entries =
    subst (λ (n : ℕ). All (λ (e : ℕ). e < n) (surface on).entries) (sym count)
    (entries_below (length order.corner_of_entry) on.classes.now.of_corner order.entry_of_class c.requires.over.classes c.requires.within) in
    let heads : c.in_ok-h.h.heads ≡ example_head ∷ shape_head c.args.textured ∷ [] = c.in_ok-h.ensures in
    let given : c.deref.result.now ≡ shape_positions c.args.textured ∷ shape_values c.args.textured ∷ [] =
    c.deref.ensures.value ∙ c.in_ok-given.ensures.items ∙ rw (c.in_ok-positions.ensures, c.in_ok-shape_values.ensures) refl in
    rw (heads, given) (shape-values-pass c.args.textured (surface on) (count ∙ four) entries)
