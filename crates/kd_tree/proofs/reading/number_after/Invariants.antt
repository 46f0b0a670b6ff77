-- The number of the bits so far, and the block behind them.
use Rattle.std.proofs.Common.{◌≡◌, ◌++◌}
use Rattle.kd_tree.specs.Reading.{number_behind}
use Rattle.rans_binary.specs.Blocks.{behind, first_bits}
use Rattle.kd_tree.proofs.reading.number_after.Given as goal

abbrev pub invariant-loop : goal.invariant-loop
invariant-loop l = record {
  number : l.number ≡ number_behind 0 (l.front ++ first_bits l.counter l.fn.block);
  ahead : l.ahead ≡ behind l.counter l.fn.block;
}
