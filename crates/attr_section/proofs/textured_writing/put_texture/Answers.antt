use Rattle.std.proofs.Common.{◌≡◌, Bool, ℤ, List, Result, Ok, FitsSigned, w32, length, rules, sym, subst}
use Rattle.std.specs.Option.{option_map}
use Rattle.std.proofs.lemmas.Int.{to_z-of_z}
use Rattle.drc_base.specs.declared.kinds.Kind.{Kind}
use Rattle.predict.specs.Wrap.{Range}
use Rattle.predict.specs.Surfaces.{surface_of}
use Rattle.attr_section.specs.TablePositions.{positions_in}
use Rattle.attr_section.specs.WrittenParts.{range_of}
use Rattle.attr_section.specs.WrittenTexture.{projected_on, RestoresOn, TextureCorrected, TextureSpelled}
use Rattle.attr_section.proofs.SpelledValues.{on_ok}
use Rattle.attr_section.proofs.SpelledTexture.{texture-read}
use Rattle.attr_section.proofs.textured_writing.put_texture.Goals as goal

pub returns-in_ok-push-in-Ok-clause-again : goal.returns-in_ok-push-in-Ok-clause-again
returns-in_ok-push-in-Ok-clause-again c =
    let w = surface_of (option_map (λ t. t.now) c.args.on) in
    let ps = option_map (λ p. positions_in p.now) c.args.positions in
    let values = c.args.values.now in
    let corrections : List ℤ = c.in-Ok.corrections.items in
    let orientations : List Bool = c.in-Ok.orientations.items in
    let low : FitsSigned w32 c.range_of-least.result.0 = search rules in
    let high : FitsSigned w32 c.range_of-least.result.1 = search rules in
    let due : projected_on w ps values ≡ Ok (orientations, corrections) = rw c.in-Ok.is at c.in_ok-corrections.ensures.due in
    let restores : RestoresOn w ps (range_of values) orientations corrections values = rw c.in-Ok.is at c.in_ok-corrections.ensures.restores in
    let each : length corrections ≡ length values = rw c.in-Ok.is at c.in_ok-corrections.ensures.each in
    on_ok c.put_texture_corrected.result
    (λ corrected. subst (λ (p : Result (List Bool × List ℤ) Kind). TextureSpelled c.args.plain w ps values p) (sym due)
    (texture-read c.args.plain w ps values orientations corrections each restores
    (subst (λ (r : Range). TextureCorrected c.args.plain r orientations corrections) (sym c.range_of-least.ensures) corrected)))
    (simp to_z-of_z at c.put_texture_corrected.ensures.again)
