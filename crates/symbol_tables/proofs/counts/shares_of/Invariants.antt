use Rattle.std.proofs.Common.{◌≡◌, length, take, map, vec_len, vec_capacity}
use Rattle.symbol_tables.specs.Normal.{share_of}
use Rattle.symbol_tables.proofs.counts.shares_of.Given as goal

abbrev pub invariant-loop-n : goal.invariant-loop-n
invariant-loop-n l = record {
  given : l.given.items ≡ map (share_of l.others l.all) (take l.n-index l.counts);
  len : vec_len l.given ≡ l.n-index;
  capacity : vec_capacity l.given ≡ length l.counts;
}
