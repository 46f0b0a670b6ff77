use Rattle.std.proofs.Common.{sym, ◌∙◌, subst}
use Rattle.corner_table.specs.Carried.{IsRenumbering}
use Rattle.drc_verify.proofs.Glued.{right-renumbers}
use Rattle.drc_verify.proofs.surfaces.judge_glued.Goals as goal

pub judge_pairs-requires : goal.judge_pairs-requires
judge_pairs-requires c =
    subst (λ faces. IsRenumbering faces c.args.rows.now) (sym c.requires)
    (right-renumbers c.args.cloud c.args.m.now c.args.n.now c.args.rows.now (sym c.in_ok-judge_mesh.ensures ∙ c.in-Same.is))
