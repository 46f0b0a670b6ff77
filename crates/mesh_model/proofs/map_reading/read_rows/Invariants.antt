use Rattle.std.proofs.Common.{◌≡◌, ◌≤◌, ◌+◌, ◌-◌, length, drop}
use Rattle.mesh_model.specs.MapRead.{rows_at}
use Rattle.mesh_model.proofs.MapReads.{with_front}
use Rattle.mesh_model.proofs.map_reading.read_rows.Given as goal

-- the rows so far, in front of those that the rest of the text gives
abbrev pub invariant-loop-i : goal.invariant-loop-i
invariant-loop-i l = record {
  inside : l.at ≤ length l.bytes;
  same : with_front l.rows.items (rows_at (l.count - l.i) (l.i + 2) (drop l.at l.bytes)) ≡ rows_at l.count 2 (drop l.start l.bytes);
}
