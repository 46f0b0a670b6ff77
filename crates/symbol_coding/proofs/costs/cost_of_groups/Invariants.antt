use Rattle.std.proofs.Common.{◌≡◌, ◌*◌, ◌≤◌, ◌^◌, map, sum, take}
use Rattle.symbol_coding.specs.Block.{cost_of_group}
use Rattle.symbol_coding.proofs.costs.cost_of_groups.Given as goal

abbrev pub invariant-loop-length : goal.invariant-loop-length
invariant-loop-length l = (l.cost ≡ sum (map (cost_of_group l.comps) (take l.length-index l.lengths))) × (l.cost ≤ l.length-index * 2 ^ 38)
