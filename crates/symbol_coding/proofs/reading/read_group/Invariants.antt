use Rattle.std.proofs.Common.{◌≡◌, ℕ, ◌+◌, ◌-◌, ◌*◌, ◌≤◌, List, ◌++◌, length, replicate, vec_len, vec_capacity}
use Rattle.drc_bits.specs.Bits.{bits_left}
use Rattle.symbol_coding.specs.Block.{values_in_groups, with_values}
use Rattle.symbol_coding.proofs.reading.read_group.Given as goal

abbrev pub invariant-loop-k : goal.invariant-loop-k
invariant-loop-k l = record {
  values : (long short : ℕ) (ws : List ℕ) → with_values l.fn.values.items (values_in_groups long short (replicate l.comps l.width ++ ws) (bits_left l.fn.reader))
      ≡ with_values l.values.items (values_in_groups long short (replicate (l.comps - l._k) l.width ++ ws) (bits_left l.reader));
  there : (l.comps - l._k) * l.width ≤ length (bits_left l.reader);
  bytes : l.reader.bytes ≡ l.fn.reader.bytes;
  taken : l.reader.taken ≡ l.fn.reader.taken + l._k * l.width;
  len : vec_len l.values ≡ vec_len l.fn.values + l._k;
  capacity : vec_capacity l.values ≡ vec_capacity l.fn.values;
}
