use Rattle.std.proofs.Common.{◌≡◌, ◌-◌, ◌*◌, ◌/◌, ◌++◌, length, map, drop, vec_len, vec_capacity}
use Rattle.symbol_coding.specs.Block.{groups_of, length_of, lengths_of}
use Rattle.symbol_coding.proofs.costs.lengths_in.Given as goal

abbrev pub invariant-loop-g : goal.invariant-loop-g
invariant-loop-g l = record {
  groups : l.lengths.items ++ map length_of (groups_of (length l.values / l.comps - l.g) l.comps (drop (l.g * l.comps) l.values)) ≡ lengths_of l.comps l.values;
  len : vec_len l.lengths ≡ l.g;
  capacity : vec_capacity l.lengths ≡ length l.values / l.comps;
}
