use Rattle.std.proofs.Common.{◌≡◌, ◌+◌, ◌++◌, length, vec_len, vec_capacity}
use Rattle.attr_section.proofs.coded_integers.CodedIntegers.into_list.Given as goal

abbrev pub invariant-loop-k : goal.invariant-loop-k
invariant-loop-k l = record {
  integers : l.list.items ++ l.integers ≡ l.fn.self;
  left : l._k + length l.integers ≡ l.n;
  len : vec_len l.list ≡ l._k;
  capacity : vec_capacity l.list ≡ l.n;
}
