use Rattle.std.proofs.Common.{◌≡◌, Ok, rules}
use Rattle.drc_container.specs.reading.Meaning.{told_by}
use Rattle.drc_verify.specs.Checked.{surface_verdict}
use Rattle.drc_verify.proofs.Glued.{surface-same}
use Rattle.drc_verify.proofs.surfaces.judge_surface.Goals as goal

pub returns-clause-same : goal.returns-clause-same
unfolding surface_verdict
returns-clause-same c =
    let n = told_by c.args.n in
    let due : surface_verdict c.args.cloud c.args.rows.now c.args.g.now n ≡ Ok c.in_ok-verdict.verdict = search rules in
    λ has. surface-same c.args.cloud c.args.rows.now c.args.g.now n c.in_ok-sides.sides c.in_ok-verdict.verdict has
    c.in_ok-sides.ensures.table c.in_ok-sides.ensures.gluing due
