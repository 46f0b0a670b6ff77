use Rattle.std.proofs.Common.{◌≡◌, ◌≤◌, vec_len, vec_capacity}
use Rattle.attr_section.proofs.FlagBits.{AreTaken}
use Rattle.attr_section.proofs.flag_lists.bits_of.Given as goal

abbrev pub invariant-loop-number : goal.invariant-loop-number
invariant-loop-number l = record {
  bits : AreTaken l.count l.fn.block l._number l.block l.bits.items;
  len : vec_len l.bits ≡ l._number;
  room : l.count ≤ vec_capacity l.bits;
}
