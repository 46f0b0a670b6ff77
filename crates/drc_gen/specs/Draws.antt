-- Draws from a seed: a linear congruential generator modulo 2^64 of which the upper ten bits are taken (this project's choice;
-- the multiplier stands in Knuth, The Art of Computer Programming, volume 2, section 3.3.4).
use Rattle.std.specs.Prelude.{ℕ, zero, suc, ◌+◌, ◌*◌, ◌/◌, ◌%◌, ◌^◌}

-- the state behind a state
abbrev pub state_behind : ℕ → ℕ
state_behind x = (x * 6364136223846793005 + 1442695040888963407) % 2 ^ 64

-- the state after as many draws from a seed
unfoldable pub state_after : ℕ → ℕ → ℕ
state_after seed zero = seed
state_after seed (suc count) = state_behind (state_after seed count)

-- draw k, from 0 on, of a seed: a number below 1024
unfoldable pub draw : ℕ → ℕ → ℕ
draw seed k = state_after seed (k + 1) / 2 ^ 54
