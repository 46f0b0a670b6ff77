-- The events of S that a stream lists (Draco Bitstream Specification 2.2, Edgebreaker), by the numbers of their symbols.
use Rattle.std.specs.Prelude.{ℕ, ◌<◌, ◌≤◌}
use Rattle.corner_table.specs.declared.symbols.Event.{Event}

-- events of symbols below a number, each with a split of at most its source
abbrev pub IsEventOf : ℕ → Event → Type 0
IsEventOf symbols e = (e.source < symbols) × (e.split ≤ e.source)
