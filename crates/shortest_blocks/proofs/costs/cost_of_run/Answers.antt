use Rattle.std.proofs.Common.{refl}
use Rattle.shortest_blocks.specs.Costs.{cost_of_run}
use Rattle.shortest_blocks.proofs.costs.cost_of_run.Goals as goal

pub returns-clause-cost : goal.returns-clause-cost
unfolding cost_of_run
returns-clause-cost c =
    rw (
      c.from.ensures,
      c.from-2.ensures,
      c.from-3.ensures,
      c.from-4.ensures,
      c.saturating_sub.ensures,
      c.log16.ensures.log,
      c.log16-2.ensures.log,
      c.cost_of_entry.ensures.cost,
      c.cost_of_gap.ensures.cost,
    ) refl
