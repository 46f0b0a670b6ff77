-- The seams are flags.
use Rattle.std.proofs.Common.{sym, subst}
use Rattle.corner_table.specs.Table.{gluing_of}
use Rattle.seams.specs.Seams.{AreFlags}
use Rattle.seams.proofs.Values.{seams_are_flags}
use Rattle.seams.proofs.differences.seams_of.Goals as goal

pub returns-clause-flags : goal.returns-clause-flags
returns-clause-flags c =
    subst (AreFlags c.args.t.now.faces (gluing_of c.args.t.now)) (sym c.in_ok-flags.ensures) (seams_are_flags c.args.t.now.faces (gluing_of c.args.t.now) c.args.m.now c.args.attr c.face_count-faces.ensures.gluing)
