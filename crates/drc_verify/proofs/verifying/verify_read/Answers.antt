use Rattle.std.proofs.Common.{◌≡◌, ◌↔◌, Bool, IfOk, sym, subst}
use Rattle.drc_verify.specs.Checked.{IsSame}
use Rattle.drc_verify.specs.declared.verdicts.Verdict.TheVariants as verdict
use Rattle.drc_verify.proofs.verifying.verify_read.Goals as goal

pub returns-else-surface-clause-same : goal.returns-else-surface-clause-same
returns-else-surface-clause-same c = λ n means.
    let P : Bool → Type 0 = λ surface.
    IfOk c.check_rows.result (λ v. (v ≡ verdict.Same) ↔ IsSame surface c.args.map.now.cloud c.args.map.now.rows.rows c.args.g.now n) in
    subst P (sym c.if-surface.false) (c.check_rows.ensures.same n means)
