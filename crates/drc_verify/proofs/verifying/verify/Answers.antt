-- What is said of the geometry that was read is said of each that the text means, since that is the one.
use Rattle.std.proofs.Common.{◌≡◌, ◌↔◌, IfOk, sym, ◌∙◌, subst}
use Rattle.drc_bits.proofs.Results.{Ok-injective}
use Rattle.mesh_model.specs.declared.geometries.Geometry.{Geometry}
use Rattle.drc_verify.specs.Checked.{IsSame}
use Rattle.drc_verify.specs.declared.verdicts.Verdict.TheVariants as verdict
use Rattle.drc_verify.proofs.verifying.verify.Goals as goal

pub returns-clause-same : goal.returns-clause-same
returns-clause-same c = λ g n read means.
    let P : Geometry → Type 0 = λ h.
    IfOk c.verify_read.result (λ v. (v ≡ verdict.Same) ↔ IsSame c.args.surface c.args.map.now.cloud c.args.map.now.rows.rows h n) in
    subst P (Ok-injective (sym c.in_ok-g.ensures.geometry ∙ read)) (c.verify_read.ensures.same n means)
