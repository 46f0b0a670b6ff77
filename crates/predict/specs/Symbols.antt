-- The symbols of integers: zigzag, so that small numbers of either sign have small symbols (Draco Bitstream Specification 2.2, section
-- "Sequential Attributes").
use Rattle.std.specs.Prelude.{ℕ, ◌+◌, ◌*◌, ℤ, pos, negsuc}

-- the symbol of an integer: 0, 1, 2, 3 for 0, -1, 1, -2 and so on
abbrev pub zigzag_of : ℤ → ℕ
zigzag_of (pos n) = 2 * n
zigzag_of (negsuc n) = 2 * n + 1
