use Rattle.std.proofs.Common.{◌≡◌}
use Rattle.mesh_model.specs.Renumbering.{plain}
use Rattle.drc_container.proofs.writing.encoding.plain_rows.Given as goal

abbrev pub invariant-loop-i : goal.invariant-loop-i
invariant-loop-i l = l.rows.items ≡ plain l.i
