use Rattle.std.proofs.Common.{◌≡◌, ◌∙◌, [], ◌∷◌, ap, refl}
use Rattle.attr_section.specs.declared.decoder_heads.DecoderHead.{DecoderHead}
use Rattle.attr_section.specs.Examples.{example_head, texture_head, position_values, texture_values, example_prediction}
use Rattle.attr_section.proofs.Examples.{values-pass}
use Rattle.tests_section.proofs.attr_section_tests.values_are_written.Goals as goal

pub write_decoder-requires-clause-values : goal.write_decoder-requires-clause-values
write_decoder-requires-clause-values c =
    let heads : c.in_ok-h.h.heads ≡ example_head ∷ texture_head ∷ [] = ap (λ (d : DecoderHead). d.heads) c.in_ok-h.ensures in
    let given : c.deref.result.now ≡ record { values = position_values; predict = example_prediction c.args.difference; at = 0 } ∷ record { values = texture_values; predict = example_prediction c.args.difference; at = 0 } ∷ [] =
    c.deref.ensures.value ∙ c.in_ok-given.ensures.items ∙ rw (c.in_ok-position_values.ensures, c.in_ok-texture_values.ensures) refl in
    rw (heads, given) (values-pass c.args.difference)
