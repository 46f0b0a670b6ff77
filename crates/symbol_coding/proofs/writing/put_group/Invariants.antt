use Rattle.std.proofs.Common.{◌≡◌, ◌-◌, ◌++◌, drop, length, replicate}
use Rattle.symbol_coding.specs.Block.{value_bits}
use Rattle.symbol_coding.proofs.writing.put_group.Given as goal

abbrev pub invariant-loop-k : goal.invariant-loop-k
invariant-loop-k l = l.writer ++ value_bits (replicate (length l.group - l.k) l.width) (drop l.k l.group) ≡ l.fn.writer ++ value_bits (replicate (length l.group) l.width) l.group
