use Rattle.drc_verify.proofs.HeadsDecided.{heads_told}
use Rattle.drc_verify.proofs.judging.heads_agree.Goals as goal

pub returns : goal.returns
returns c = heads_told c.args.a.now c.args.b.now c.same_heads.result c.same_heads.ensures
