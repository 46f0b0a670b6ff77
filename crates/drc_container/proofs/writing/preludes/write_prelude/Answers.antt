use Rattle.std.proofs.Common.{refl}
use Rattle.drc_container.proofs.lemmas.writing.SurfacePreludes.{seamed-surface}
use Rattle.drc_container.proofs.writing.preludes.write_prelude.Goals as goal

pub returns-clause-surface : goal.returns-clause-surface
returns-clause-surface c = seamed-surface c.args.mesh.now c.args.traced _ c.requires c.rows_of-rows.ensures c.requires.faces refl c.in_ok-flags.ensures.flags
