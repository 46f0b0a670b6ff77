use Rattle.std.proofs.Common.{◌≡◌, take}
use Rattle.mesh_model.specs.Renumbering.{composed}
use Rattle.drc_recode.proofs.composing.compose.Given as goal

-- the rows so far, renamed
abbrev pub invariant-loop-row : goal.invariant-loop-row
invariant-loop-row l = l.rows.items ≡ composed l.a.rows (take l.row-index l.b.rows)
