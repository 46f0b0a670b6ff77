-- What blocks give is flags.
use Rattle.std.proofs.Common.{sym, subst}
use Rattle.std.specs.List.{All}
use Rattle.corner_table.specs.Table.{gluing_of}
use Rattle.seams.specs.Seams.{AreFlags}
use Rattle.seams.proofs.Filling.{all_flags}
use Rattle.seams.proofs.reading.read_seams.Goals as goal

pub returns-clause-sound : goal.returns-clause-sound
returns-clause-sound c =
    subst (All (AreFlags c.args.t.now.faces (gluing_of c.args.t.now))) (sym c.in_ok-lists.ensures.flags) (all_flags c.args.t.now.faces (gluing_of c.args.t.now) c.face_count-faces.ensures.gluing c.args.blocks.now)
