use Rattle.std.proofs.Common.{◌≡◌, map, take}
use Rattle.drc_c.specs.Streams.{row_told}
use Rattle.drc_c.proofs.streams.rows_told.Given as goal

abbrev pub invariant-loop-row : goal.invariant-loop-row
invariant-loop-row l = l.told.items ≡ map row_told (take l.row-index l.rows)
