-- A table with names as a state of the machine that has names.
use Rattle.std.proofs.Common.{◌≡◌, Some, None, []}
use Rattle.corner_table.specs.Table.{gluing_of}
use Rattle.eb_machine.specs.Named.{NamedState}
use Rattle.eb_machine.proofs.NamedLaw.{Stands}
use Rattle.eb_rebuild.specs.NamedTables.{NamedTable, IsNamedTable}

-- the machine's state of a table, by itself
abbrev pub alone : NamedTable → NamedState
alone v = record { triangles = v.triangles; rows = v.rows; glued = gluing_of v.table; stack = []; reserved = λ k. None; events = []; made = v.made; closes = 0 }

pub stands_alone : (v : NamedTable) → IsNamedTable v → Stands (alone v)
stands_alone v I = record { names = I.names; waiting = tt; kept = λ k a e. absurd (let no : None ≡ Some a = e in cc) }
