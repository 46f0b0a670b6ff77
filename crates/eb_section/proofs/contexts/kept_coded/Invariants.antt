-- The numbers that are kept so far, in front of those to come.
use Rattle.std.proofs.Common.{◌≡◌, ◌+◌, ◌++◌, length, vec_len, vec_capacity}
use Rattle.eb_valence.specs.Reading.{kept_list}
use Rattle.eb_section.proofs.contexts.kept_coded.Given as goal

abbrev pub invariant-loop-k : goal.invariant-loop-k
invariant-loop-k l = record {
  kept : l.list.items ++ kept_list l.symbols ≡ kept_list l.fn.symbols;
  left : l._k + length l.symbols ≡ l.n;
  len : vec_len l.list ≡ l._k;
  capacity : vec_capacity l.list ≡ l.n;
}
