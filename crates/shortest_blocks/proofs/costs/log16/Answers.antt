use Rattle.shortest_blocks.proofs.RunCosts.{log16-is}
use Rattle.shortest_blocks.proofs.costs.log16.Goals as goal

pub returns-clause-log : goal.returns-clause-log
returns-clause-log c =
    rw (c.from.ensures, c.from-2.ensures, c.pow.ensures) (log16-is c.args.x c.ilog2-whole.result c.ilog2-whole.ensures.bound c.ilog2-whole.ensures.power_le c.ilog2-whole.ensures.next_power_gt)
