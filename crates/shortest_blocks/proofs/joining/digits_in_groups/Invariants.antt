use Rattle.std.proofs.Common.{◌≡◌, ◌-◌, ◌*◌, ◌/◌, ◌++◌, length, map, drop, vec_len, vec_capacity}
use Rattle.symbol_coding.specs.Block.{groups_of}
use Rattle.shortest_blocks.specs.Joined.{digits_of_group, digits_of_groups}
use Rattle.shortest_blocks.proofs.joining.digits_in_groups.Given as goal

abbrev pub invariant-loop-g : goal.invariant-loop-g
invariant-loop-g l = record {
  groups : l.lengths.items ++ map digits_of_group (groups_of (length l.values / l.comps - l.g) l.comps (drop (l.g * l.comps) l.values)) ≡ digits_of_groups l.comps l.values;
  len : vec_len l.lengths ≡ l.g;
  capacity : vec_capacity l.lengths ≡ length l.values / l.comps;
}
