-- A mesh with one attribute has no seams.
use Rattle.std.proofs.Common.{length, sym, ap, ◌∙◌}
use Rattle.mesh_model.specs.Renumbering.{renumbered}
use Rattle.drc_container.specs.surface.AttributeSurfaces.{glued_by}
use Rattle.drc_container.proofs.lemmas.surface.Flags.{no-flags}
use Rattle.drc_container.proofs.surface.seam_lists.seams_in.Goals as goal

pub returns-then-heads-eq1-clause-flags : goal.returns-then-heads-eq1-clause-flags
returns-then-heads-eq1-clause-flags c =
    no-flags (glued_by (renumbered c.args.mesh.now c.args.rows.now) c.args.sides.now) c.no_seams.result
    (sym (ap length c.heads.ensures.value) ∙ c.if-heads-eq1.true) c.no_seams.ensures.flags
