use Rattle.std.proofs.Common.{◌≡◌, ◌+◌, ◌-◌, ◌*◌, ◌≤◌, ℤ, List, take, drop, vec_len, vec_capacity}
use Rattle.std.specs.List.{flat_map}
use Rattle.mesh_model.specs.Contents.{points_in}
use Rattle.drc_container.proofs.writing.coded_values.column_of.Given as goal

abbrev pub invariant-loop-i : goal.invariant-loop-i
invariant-loop-i l = record {
  items : l.column.items ≡ flat_map (λ (row : List ℤ). take l.comps (drop l.start row)) (take l.i (points_in l.g));
  room : vec_len l.column + l.comps * (l.count - l.i) ≤ vec_capacity l.column;
}
