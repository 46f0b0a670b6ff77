use Rattle.std.proofs.Common.{◌≡◌, ◌-◌, ◌^◌, ◌<◌, ◌≤◌, drop, map, reverse, vec_len}
use Rattle.rans_core.specs.Coder.{all_pushed}
use Rattle.rans_binary.specs.Blocks.{bit_interval}
use Rattle.rans_binary.proofs.block_writer.code_bits.Given as goal

abbrev pub invariant-loop-k : goal.invariant-loop-k
invariant-loop-k l = (all_pushed 16 256 (map (bit_interval (256 - l.zeros)) (drop (l.last - l.k) l.bits)) ≡ record { number = l.number; bytes = reverse l.out.items })
    × (4096 ≤ l.number) × (l.number < 2 ^ 20) × (vec_len l.out ≤ l.k)
