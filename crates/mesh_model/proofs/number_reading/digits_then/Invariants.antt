use Rattle.std.proofs.Common.{◌≡◌, ◌<◌, ◌^◌, drop}
use Rattle.mesh_model.specs.NumberText.{digits_then}
use Rattle.mesh_model.proofs.number_reading.digits_then.Given as goal

-- the digits so far are those of a number below 2^32, and the others follow them
abbrev pub invariant-loop-i : goal.invariant-loop-i
invariant-loop-i l = record {
  small : l.value < 2 ^ 32;
  same : digits_then l.end l.value (drop l.i l.bytes) ≡ digits_then l.end 0 (drop l.at l.bytes);
}
