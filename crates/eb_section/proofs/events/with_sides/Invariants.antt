-- The events so far stand in front of those to come; a bit is left for each of these.
use Rattle.std.proofs.Common.{◌≡◌, ◌≤◌, ◌+◌, ◌++◌, length, drop, vec_len}
use Rattle.drc_bits.specs.Bits.{bits_left, bits_of}
use Rattle.eb_section.specs.Events.{events_of}
use Rattle.eb_section.proofs.events.with_sides.Given as goal

abbrev pub invariant-loop-k : goal.invariant-loop-k
invariant-loop-k l = record {
  told : l.events.items ++ events_of (drop l.k l.numbers) (bits_left l.sides) ≡ events_of l.numbers (bits_of l.bytes);
  left : length l.numbers ≤ length (bits_left l.sides) + l.k;
  len : vec_len l.events ≡ l.k;
}
