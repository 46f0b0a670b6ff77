use Rattle.std.proofs.Common.{◌≡◌, ◌+◌, ◌-◌, ◌*◌, ◌++◌, ◌≤◌, length, take, flat_map, vec_len, vec_capacity}
use Rattle.drc_bits.specs.Bits.{low_bytes}
use Rattle.attr_section.proofs.integer_writing.put_all.Given as goal

abbrev pub invariant-loop-k : goal.invariant-loop-k
invariant-loop-k l = record {
  bytes : l.out.items ≡ l.fn.front.items ++ flat_map (low_bytes l.width) (take l.k l.symbols);
  room : vec_len l.out + l.width * (length l.symbols - l.k) ≤ vec_capacity l.out;
}
