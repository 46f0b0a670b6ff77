-- Looks at the entries of a table (this project's own count).
use Rattle.std.specs.Prelude.{ℕ}

-- how many looks one step has: gluing takes the most, one at each of the four neighbours of its two sides
abbrev pub looks_of_a_step : ℕ
looks_of_a_step = 4
