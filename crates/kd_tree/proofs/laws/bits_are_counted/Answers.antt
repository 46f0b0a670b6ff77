use Rattle.std.proofs.Common.{◌+◌, arith}
use Rattle.kd_tree.proofs.Counts.{long-at, rest-counted, rest-few, split-counted, split-few}
use Rattle.kd_tree.proofs.laws.bits_are_counted.Goals as goal

pub returns-clause-counted : goal.returns-clause-counted
returns-clause-counted c = λ depth keys all. (split-counted depth 0 keys, rest-counted depth 0 keys (long-at depth (0 + depth) keys (omega arith) all))

pub returns-clause-few : goal.returns-clause-few
returns-clause-few c = λ depth keys small all. (split-few depth 0 keys, rest-few depth 0 keys (long-at depth (0 + depth) keys (omega arith) all))
