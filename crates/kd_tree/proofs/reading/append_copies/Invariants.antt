-- The copies so far.
use Rattle.std.proofs.Common.{◌≡◌, ◌++◌}
use Rattle.std.specs.Prelude.{replicate}
use Rattle.kd_tree.specs.Keys.{KeyRows}
use Rattle.kd_tree.proofs.reading.append_copies.Given as goal

abbrev pub invariant-loop : goal.invariant-loop
invariant-loop l = ◌≡◌ {A = KeyRows} l.out (record { depth = l.fn.out.depth; rows = l.fn.out.rows ++ replicate l.counter l.key })
