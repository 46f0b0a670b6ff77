use Rattle.std.proofs.Common.{◌<◌, length, None, ap, ◌∙◌, arith}
use Rattle.std.specs.Option.{is_some}
use Rattle.std.proofs.lemmas.List.{get_or_read}
use Rattle.drc_container.proofs.lemmas.surface.AttributeSurfaces.{cut-each, is-cut}
use Rattle.drc_container.proofs.surface.attribute_surfaces.is_cut_at.Goals as goal

pub returns : goal.returns
returns c = λ degree are.
    let s = c.args.s.now in
    let has : c.args.attr < length s.mesh.heads = omega (arith, c.requires, cut-each degree s are) in
    c.is_some.ensures
    ∙ ap is_some (get_or_read s.cut.items c.args.attr c.index.result.now c.requires c.index.ensures None)
    ∙ is-cut degree s c.args.attr are has
