-- The bits so far, and the block behind them.
use Rattle.std.proofs.Common.{◌≡◌, ◌++◌}
use Rattle.rans_binary.specs.Blocks.{behind, first_bits}
use Rattle.kd_tree.proofs.reading.append_bits.Given as goal

abbrev pub invariant-loop : goal.invariant-loop
invariant-loop l = record {
  bits : l.out.items ≡ l.fn.out.items ++ first_bits l.counter l.fn.block;
  block : l.block ≡ behind l.counter l.fn.block;
}
