use Rattle.std.proofs.Common.{ℕ, map, refl, ap, ◌∙◌}
use Rattle.std.specs.Prelude.{option_map}
use Rattle.corner_table.specs.Table.{Table, gluing_of}
use Rattle.drc_container.specs.reading.OnSurface.{ordered_by}
use Rattle.drc_container.specs.writing.WrittenOnSurface.{GluedMesh}
use Rattle.drc_container.specs.surface.AttributeSurfaces.{glued_by, order_cut}
use Rattle.drc_container.proofs.lemmas.surface.Flags.{are-attribute-surfaces, cuts-ordered, each-flags}
use Rattle.drc_container.proofs.surface.attribute_surfaces.surfaces_of.Goals as goal

pub cuts_of-requires : goal.cuts_of-requires
cuts_of-requires c = each-flags (glued_by c.args.mesh c.args.sides) c.args.sides c.args.flags.items c.face_count-faces.ensures.gluing c.requires.faces refl c.requires.flags

pub returns-clause-are : goal.returns-clause-are
returns-clause-are c =
    let d = glued_by c.args.mesh c.args.sides in
    let with_table : Table → GluedMesh = λ (t : Table). glued_by c.args.mesh t in
    are-attribute-surfaces c.args.degree _ d (ap with_table c.in_ok-whole.ensures.sides)
    (c.in_ok-whole.ensures.order ∙ ap (λ (n : ℕ). ordered_by c.args.degree n (gluing_of c.args.sides)) c.requires.faces)
    (c.in_ok-cut.ensures ∙ ap (map (option_map (order_cut c.args.sides))) c.requires.flags ∙ cuts-ordered d c.args.sides c.face_count-faces.ensures.gluing c.requires.faces refl)
