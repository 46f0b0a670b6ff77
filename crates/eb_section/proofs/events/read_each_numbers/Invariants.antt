-- What was read so far stands in front of what is still to come.
use Rattle.std.proofs.Common.{◌≡◌, ◌-◌, All, vec_len}
use Rattle.drc_bits.specs.Reading.{chain_at}
use Rattle.drc_bits.proofs.Many.{with_front}
use Rattle.eb_section.specs.Events.{no_numbers, numbers_at, AreNumbersOf}
use Rattle.eb_section.proofs.events.read_each_numbers.Given as goal

abbrev pub invariant-loop-k : goal.invariant-loop-k
invariant-loop-k l = record {
  told : with_front l.numbers.items (chain_at (numbers_at l.symbols) (l.count - l._k) l.before l.c) ≡ chain_at (numbers_at l.symbols) l.count no_numbers l.fn.c;
  within : All (AreNumbersOf l.symbols) l.numbers.items;
  len : vec_len l.numbers ≡ l._k;
}
