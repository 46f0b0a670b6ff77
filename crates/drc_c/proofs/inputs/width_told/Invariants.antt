use Rattle.std.proofs.Common.{◌≡◌, ◌*◌, ◌≤◌, take}
use Rattle.drc_c.specs.Inputs.{width_told}
use Rattle.drc_c.proofs.inputs.width_told.Given as goal

abbrev pub invariant-loop-head : goal.invariant-loop-head
invariant-loop-head l = record {
  sum : l.width ≡ width_told (take l.head-index l.heads);
  few : l.width ≤ 255 * l.head-index;
}
