use Rattle.std.proofs.Common.{◌≡◌, ◌∙◌, [], ◌∷◌, length, rules, ap}
use Rattle.std.proofs.lemmas.List.{length-map}
use Rattle.corner_table.specs.Sides.{side_at}
use Rattle.attr_section.specs.declared.decoder_heads.DecoderHead.{DecoderHead}
use Rattle.attr_section.specs.declared.values.Values.{Values}
use Rattle.predict.specs.Surfaces.{surface}
use Rattle.attr_section.specs.Examples.{example_head, surface_positions}
use Rattle.attr_section.proofs.Examples.{surface-values-pass}
use Rattle.tests_section.proofs.attr_section_walk_writing_tests.values_are_written.Goals as goal

pub write_decoder-requires-clause-values : goal.write_decoder-requires-clause-values
write_decoder-requires-clause-values c =
    let order = c.args.on.now.order.now in
    let four : length order.corner_of_entry ≡ 4 = search rules in
    let heads : c.in_ok-h.h.heads ≡ example_head ∷ [] = ap (λ (d : DecoderHead). d.heads) c.in_ok-h.ensures in
    let given : c.deref.result.now ≡ surface_positions c.args.closed c.args.many ∷ [] =
    c.deref.ensures.value ∙ c.in_ok-given.ensures.items ∙ ap (λ (v : Values). v ∷ []) c.in_ok-positions.ensures in
    rw (heads, given) (surface-values-pass c.args.closed c.args.many (surface c.args.on.now) (length-map order.corner_of_entry side_at ∙ four))
