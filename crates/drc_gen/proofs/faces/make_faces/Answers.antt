use Rattle.std.proofs.Common.{arith}
use Rattle.drc_gen.proofs.Walks.{faces-more, faces-all}
use Rattle.drc_gen.proofs.faces.make_faces.Goals as goal

pub loop-k-preserved : goal.loop-k-preserved
loop-k-preserved c =
    faces-more c.args.kind c.args.size c.loop-k.k c.loop-k.faces.items _ c.in_ok-put_faces.ensures c.loop-k.invariant

pub returns : goal.returns
returns c = faces-all c.args.kind c.args.size c.loop-k.k c.loop-k.faces.items c.loop-k.invariant (omega arith)
