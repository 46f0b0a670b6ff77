use Rattle.std.proofs.Common.{◌≡◌, ◌+◌, length, arith, ap, ◌∙◌}
use Rattle.symbol_tables.specs.Normal.{greatest_count}
use Rattle.symbol_coding.proofs.Counts.{counts_of-length, symbols-cost}
use Rattle.symbol_coding.proofs.costs.cost_of_symbols.Goals as goal

pub overflow_add-cost : goal.overflow_add-cost
overflow_add-cost c =
    let l : length c.args.counts.now ≡ greatest_count c.args.values.now + 1 = ap length c.requires.counts ∙ counts_of-length c.args.values.now in
    omega (arith, l, c.requires.small, c.loop-count.invariant.1, c.cost_of-cost.ensures.small)

pub overflow_add-result : goal.overflow_add-result
overflow_add-result c =
    let l : length c.args.counts.now ≡ greatest_count c.args.values.now + 1 = ap length c.requires.counts ∙ counts_of-length c.args.values.now in
    omega (arith, l, c.requires.small, c.loop-count.invariant.1)

pub returns : goal.returns
returns c = symbols-cost c.args.values.now c.args.counts.now c.loop-count.cost c.loop-count.count-index c.requires.counts c.loop-count.invariant.0 (omega arith)
