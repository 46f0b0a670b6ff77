use Rattle.std.proofs.Common.{◌≡◌, ℕ, ◌<◌, length, sum, take, get_or, vec_len, vec_capacity}
use Rattle.symbol_tables.proofs.table.cums_of.Given as goal

abbrev pub invariant-loop-s : goal.invariant-loop-s
invariant-loop-s l = record {
  len : vec_len l.cums ≡ l.s;
  capacity : vec_capacity l.cums ≡ length l.probs;
  cum : l.cum ≡ sum (take l.s l.probs);
  below : (k : ℕ) → k < l.s → get_or l.cums.items k 0 ≡ sum (take k l.probs);
}
