use Rattle.drc_verify.proofs.RowsDecided.{face_told}
use Rattle.drc_verify.proofs.rows.faces_agree.Goals as goal

pub returns : goal.returns
returns c = face_told c.args.m.now c.args.n.now c.args.i c.args.named c.args.turn c.same_face.result c.same_face.ensures
