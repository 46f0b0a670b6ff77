use Rattle.std.proofs.Common.{◌≡◌, ◌≤ℤ◌, ◌%◌, ◌∙◌, FitsSigned, w32, length, sym, subst, arith}
use Rattle.std.specs.List.{All}
use Rattle.std.proofs.lemmas.Int.{to_z-of_z}
use Rattle.predict.specs.Wrap.{Range}
use Rattle.predict.specs.Surfaces.{surface}
use Rattle.attr_section.specs.WrittenParts.{range_of}
use Rattle.attr_section.proofs.SpelledIntegers.{range_of-bounds}
use Rattle.attr_section.proofs.SpelledTexture.{texture-made, texture-each}
use Rattle.attr_section.proofs.textured_writing.projected.Goals as goal

pub correct_texture-requires-clause-within : goal.correct_texture-requires-clause-within
correct_texture-requires-clause-within c =
    let low : FitsSigned w32 c.args.low = c.ranges.low in
    let high : FitsSigned w32 c.args.high = c.ranges.high in
    let range : c.wrap_of-wrap.result ≡ range_of c.args.values.now = (simp to_z-of_z at c.wrap_of-wrap.ensures) ∙ sym c.requires.range in
    subst (λ (r : Range). All (λ x. (r.low ≤ℤ x) × (x ≤ℤ r.high)) c.args.values.now) (sym range) (range_of-bounds c.args.values.now)

pub returns-clause-due : goal.returns-clause-due
returns-clause-due c =
    let low : FitsSigned w32 c.args.low = c.ranges.low in
    let high : FitsSigned w32 c.args.high = c.ranges.high in
    let range : c.wrap_of-wrap.result ≡ range_of c.args.values.now = (simp to_z-of_z at c.wrap_of-wrap.ensures) ∙ sym c.requires.range in
    texture-made c.correct_texture.result (λ x. x.0.items) (λ x. x.1.items) (surface c.args.on.now) c.deref.result.now _ c.wrap_of-wrap.result c.args.values.now
    (c.deref.ensures.value ∙ c.in_ok-places.ensures.places) range c.correct_texture.ensures.orientations c.correct_texture.ensures.corrections

pub returns-clause-each : goal.returns-clause-each
returns-clause-each c =
    let even : length c.args.values.now % 2 ≡ 0 = omega (arith, c.requires.whole) in
    texture-each c.correct_texture.result (λ x. x.0.items) (λ x. x.1.items) (surface c.args.on.now) c.deref.result.now c.wrap_of-wrap.result c.args.values.now even c.correct_texture.ensures.corrections
