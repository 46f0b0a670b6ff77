use Rattle.std.proofs.Common.{◌≡◌, ◌∙◌, [], ◌∷◌, ap}
use Rattle.attr_section.specs.declared.values.Values.{Values}
use Rattle.attr_section.specs.Examples.{points_head, points}
use Rattle.attr_section.proofs.Examples.{points-values-pass}
use Rattle.tests_section.proofs.attr_section_shape_tests.points_are_written.Goals as goal

pub write_decoder-requires-clause-values : goal.write_decoder-requires-clause-values
write_decoder-requires-clause-values c =
    let heads : c.in_ok-h.h.heads ≡ points_head ∷ [] = c.in_ok-h.ensures in
    let given : c.deref.result.now ≡ points c.args.corner ∷ [] =
    c.deref.ensures.value ∙ c.in_ok-given.ensures.items ∙ ap (λ (v : Values). v ∷ []) c.in_ok-points.ensures in
    rw (heads, given) (points-values-pass c.args.corner)
