use Rattle.std.proofs.Common.{◌≡◌, length, map, take, get_or, vec_len, vec_capacity}
use Rattle.shortest_blocks.proofs.joining.join.Given as goal

abbrev pub invariant-loop-length : goal.invariant-loop-length
invariant-loop-length l = record {
  all : l.all.items ≡ map (λ n. get_or l.joined n 0) (take l.length-index l.lengths);
  len : vec_len l.all ≡ l.length-index;
  capacity : vec_capacity l.all ≡ length l.lengths;
}
