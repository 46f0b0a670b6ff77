-- no row is looked at but the front, which doesn't fit either
use Rattle.std.proofs.lemmas.Result.{err_from_is_err_and}
use Rattle.drc_base.specs.Profile.{profile_numbered}
use Rattle.drc_c.proofs.UnfitRows.{counted_refusal, counted_same}
use Rattle.drc_c.proofs.verifying.verify_unfit.Goals as goal

pub returns-in_err-verdict-clause-verdict : goal.returns-in_err-verdict-clause-verdict
returns-in_err-verdict-clause-verdict c =
    let p = err_from_is_err_and c.from_residual-in_err-verdict.result c.from_residual-in_err-verdict.ensures.1 in
    rw (p.1, p.2)
    (counted_refusal (profile_numbered c.args.profile.number) c.args.surface c.args.cloud c.args.rows.now c.unfit_front-front.result.now
    c.args.g.now c.args.bytes.now c.in_err-verdict.field-0.0 c.requires (rw c.count_of.ensures at c.unfit_front-front.ensures)
    (rw (c.in_ok-map.ensures.kind, c.in_ok-map.ensures.rows) at c.in_err-verdict.ensures.verdict))

pub returns-clause-same : goal.returns-clause-same
returns-clause-same c = λ n means.
    rw c.with_count.ensures
    (counted_same c.args.surface c.args.cloud c.args.rows.now c.unfit_front-front.result.now c.args.g.now n c.in_ok-verdict.verdict
    c.a_yes_is_the_same.ensures.yes c.requires (rw c.count_of.ensures at c.unfit_front-front.ensures)
    (rw (c.in_ok-map.ensures.kind, c.in_ok-map.ensures.rows) at (c.in_ok-verdict.ensures.same n means)))
