use Rattle.std.proofs.Common.{◌≡◌, ◌+◌, ◌-◌, ◌*◌, ◌≤◌, map, take, length, vec_len, vec_capacity}
use Rattle.std.specs.List.{flat_map}
use Rattle.corner_table.specs.Sides.{side_at}
use Rattle.seams.specs.Values.{piece}
use Rattle.drc_container.proofs.writing.surface_values.column_at.Given as goal

abbrev pub invariant-loop-corner : goal.invariant-loop-corner
invariant-loop-corner l = record {
  items : l.column.items ≡ flat_map (piece l.mesh l.attr) (map side_at (take l.corner-index l.corners));
  room : vec_len l.column + l.comps * (length l.corners - l.corner-index) ≤ vec_capacity l.column;
}
