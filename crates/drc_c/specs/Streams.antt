-- Maps as C has them (this project's choice).
use Rattle.std.specs.Prelude.{ℕ, min}
use Rattle.drc_c.specs.declared.streams.DrcRow.{DrcRow}

-- a row as C has it: a number, and a turn
abbrev pub row_told : ℕ × ℕ → DrcRow
row_told row = record { number = row.0; turn = row.1 }

-- the row that a row of C means; no turn above 2 is one, so all above 255 are 255
abbrev pub row_meant : DrcRow → ℕ × ℕ
row_meant row = (row.number, min row.turn 255)
