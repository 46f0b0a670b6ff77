-- The degree of a vertex by names: the code's own way to count it; what a degree is stands in Degree.
use Rattle.std.specs.Prelude.{ℕ, ◌+◌, ◌==◌, cond}
use Rattle.eb_machine.specs.Named.{Triangle}

-- how many corners of a triangle have a name
abbrev pub times_in : ℕ → Triangle → ℕ
times_in v t = cond (v == t.0) 1 0 + cond (v == t.1) 1 0 + cond (v == t.2) 1 0
