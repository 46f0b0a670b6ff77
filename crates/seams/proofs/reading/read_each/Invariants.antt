-- The blocks so far gave their flags, and stand behind them.
use Rattle.std.proofs.Common.{◌≡◌, ◌-◌, ◌*◌, ◌++◌, map, take, drop, length, replicate, true}
use Rattle.corner_table.specs.Table.{gluing_of}
use Rattle.corner_table.specs.Pairs.{bit_sides}
use Rattle.rans_binary.specs.Blocks.{behind}
use Rattle.seams.specs.SeamBits.{flags_of_bits}
use Rattle.seams.proofs.reading.read_each.Given as goal

abbrev pub invariant-loop-k : goal.invariant-loop-k
invariant-loop-k l = record {
  lists : map (λ s. s.items) l.lists.items
      ≡ map (flags_of_bits l.t.faces (gluing_of l.t)) (take l.k l.fn.blocks) ++ replicate (length l.fn.blocks - l.k) (replicate (3 * l.t.faces) true);
  blocks : l.blocks ≡ map (behind (length (bit_sides l.t.faces (gluing_of l.t)))) (take l.k l.fn.blocks) ++ drop l.k l.fn.blocks;
}
