-- Over a surface, texture coordinates are read back as they were settled.
use Rattle.std.proofs.Common.{◌≡◌, ℕ, ℤ, true, List, Option, sym, ap, subst}
use Rattle.std.specs.Option.{option_map}
use Rattle.std.specs.List.{list_all}
use Rattle.attr_heads.specs.Bounds.{in_bounds, type_bounds, bounds_under}
use Rattle.predict.specs.Surfaces.{surface_of}
use Rattle.attr_section.specs.Positions.{Positions}
use Rattle.attr_section.specs.TablePositions.{positions_in}
use Rattle.attr_section.specs.WrittenTexture.{projected_on, TextureSpelled}
use Rattle.attr_section.specs.Written.{CanAsk}
use Rattle.attr_section.proofs.SpelledTexture.{texture_there, textured_spelled}
use Rattle.attr_section.proofs.value_writing.put_coordinates.Goals as goal

pub returns-clause-again : goal.returns-clause-again
returns-clause-again c = λ found is.
    let w = surface_of (option_map (λ t. t.now) c.args.on) in
    let ps = option_map (λ p. positions_in p.now) c.args.positions in
    let h = c.args.head.now in
    let v = c.args.v.now in
    let asked = subst (λ (o : Option ℕ). CanAsk w o h.comps v.predict v.values) c.requires.octa c.requires.values.asked in
    let bounded : list_all (in_bounds (type_bounds h.dtype)) v.values ≡ true = subst (λ (o : Option ℕ). list_all (in_bounds (bounds_under h.dtype o)) v.values ≡ true) c.requires.octa c.requires.values.bounded in
    let spelled : TextureSpelled c.args.plain w ps v.values (projected_on w ps v.values) =
    subst (λ (vs : List ℤ). TextureSpelled c.args.plain w ps vs (projected_on w ps vs)) c.as_slice-values.ensures.items c.in_ok-put_texture.ensures.again in
    textured_spelled c.args.plain w found h v (projected_on w ps v.values) c.requires.octa c.requires.texture (texture_there w h.comps v.predict v.values c.requires.texture asked)
    (ap (λ (p : Option Positions). projected_on w p v.values) is) (subst (λ (p : Option Positions). TextureSpelled c.args.plain w p v.values (projected_on w ps v.values)) (sym is) spelled) bounded
