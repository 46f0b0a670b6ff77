use Rattle.std.proofs.Common.{◌≡◌, ◌+◌, ◌++◌, length, vec_len, vec_capacity}
use Rattle.symbol_coding.proofs.symbols.CodedSymbols.into_list.Given as goal

abbrev pub invariant-loop-k : goal.invariant-loop-k
invariant-loop-k l = record {
  symbols : l.list.items ++ l.symbols ≡ l.fn.self;
  left : l._k + length l.symbols ≡ l.n;
  len : vec_len l.list ≡ l._k;
  capacity : vec_capacity l.list ≡ l.n;
}
