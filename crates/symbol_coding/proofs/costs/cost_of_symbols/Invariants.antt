use Rattle.std.proofs.Common.{◌≡◌, ◌*◌, ◌≤◌, ◌^◌, map, sum, take}
use Rattle.symbol_coding.specs.Block.{cost_of_count}
use Rattle.symbol_coding.proofs.costs.cost_of_symbols.Given as goal

abbrev pub invariant-loop-count : goal.invariant-loop-count
invariant-loop-count l = (l.cost ≡ sum (map (cost_of_count l.n) (take l.count-index l.counts))) × (l.cost ≤ l.count-index * 2 ^ 38)
