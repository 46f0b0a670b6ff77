use Rattle.std.proofs.Common.{◌≡◌, drop}
use Rattle.std.specs.List.{list_any}
use Rattle.ply_mesh.specs.Text.{takes_names}
use Rattle.ply_mesh.proofs.property_writer.any_takes_names.Given as goal

-- it depends on the heads that are left
abbrev pub invariant-loop-j : goal.invariant-loop-j
invariant-loop-j l = list_any (takes_names l.usage) (drop l.j l.heads) ≡ list_any (takes_names l.usage) l.heads
