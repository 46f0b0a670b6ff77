-- What a run of neighbouring bit lengths costs that are joined to the last of them, in sixteenths of a bit (this project's
-- choice). It is an estimate, which chooses between lengths; which coding is written is told by its bytes.
use Rattle.std.specs.Prelude.{ℕ, ◌+◌, ◌-◌, ◌*◌, ◌/◌, ◌^◌, nat_lt, nat_le, if◌then◌else◌}
use Rattle.drc_bits.specs.Digits.{digits}

-- sixteen times the binary logarithm of a number above 0: exact at powers of 2, and along a chord between two of them
abbrev pub log16 : ℕ → ℕ
log16 x = 16 * (digits x - 1) + 16 * x / 2 ^ (digits x - 1) - 16

-- what a table pays for a symbol that so many of all are: two bytes where they are a 64th at least, else one
abbrev pub cost_of_entry : ℕ → ℕ → ℕ
cost_of_entry all count = if nat_le all (64 * count) then 256 else 128

-- what a table pays for the symbols from the first one up to below the other, which aren't used: a byte where there are any
abbrev pub cost_of_gap : ℕ → ℕ → ℕ
cost_of_gap first symbol = if nat_lt first symbol then 128 else 0

-- what so many of all groups cost at the bit length `last`, where no length from `first` up to below it is used: the bits of
-- their values, those of their lengths, and what the table of lengths has for them
unfoldable pub cost_of_run : ℕ → ℕ → ℕ → ℕ → ℕ → ℕ
cost_of_run all comps first last count =
    16 * (count * comps * last) + count * (log16 all - log16 count) + cost_of_entry all count + cost_of_gap first last
