use Rattle.std.proofs.Common.{◌≡◌, vec_len, vec_capacity}
use Rattle.attr_section.proofs.PlainValues.{AreRead}
use Rattle.attr_section.proofs.integers.values_in.Given as goal

abbrev pub invariant-loop-k : goal.invariant-loop-k
invariant-loop-k l = record {
  values : AreRead l.width l.n l.k l.bytes l.values.items;
  len : vec_len l.values ≡ l.k;
  capacity : vec_capacity l.values ≡ l.n;
}
