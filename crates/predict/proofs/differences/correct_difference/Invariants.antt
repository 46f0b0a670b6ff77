use Rattle.std.proofs.Common.{◌≡◌, ◌≤◌, take, map, length, vec_len, vec_capacity}
use Rattle.predict.specs.Restored.{corrections, entry_before}
use Rattle.predict.specs.Symbols.{zigzag_of}
use Rattle.predict.proofs.differences.correct_difference.Given as goal

abbrev pub invariant-loop-i : goal.invariant-loop-i
invariant-loop-i l = record {
  items : l.symbols.items ≡ map zigzag_of (take l.i (corrections (entry_before l.fn.comps) l.wrap l.v));
  len : vec_len l.symbols ≡ l.i;
  room : length l.v ≤ vec_capacity l.symbols;
}

abbrev pub invariant-loop-k : goal.invariant-loop-k
invariant-loop-k l = record {
  items : l.symbols.items ≡ map zigzag_of (take l.k (corrections (entry_before l.fn.comps) l.wrap l.v));
  len : vec_len l.symbols ≡ l.k;
  room : length l.v ≤ vec_capacity l.symbols;
}
