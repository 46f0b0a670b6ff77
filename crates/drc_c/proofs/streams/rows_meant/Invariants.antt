use Rattle.std.proofs.Common.{◌≡◌, map, take}
use Rattle.drc_c.specs.Streams.{row_meant}
use Rattle.drc_c.proofs.streams.rows_meant.Given as goal

abbrev pub invariant-loop-row : goal.invariant-loop-row
invariant-loop-row l = l.rows.items ≡ map row_meant (take l.row-index l.told)
