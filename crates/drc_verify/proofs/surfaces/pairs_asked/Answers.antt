use Rattle.drc_verify.proofs.Glued.{pairs-told}
use Rattle.drc_verify.proofs.surfaces.pairs_asked.Goals as goal

pub returns-clause-pairs : goal.returns-clause-pairs
returns-clause-pairs c = pairs-told c.args.m.now c.pair.result c.pair.ensures.pairs c.pair.ensures.degenerate
