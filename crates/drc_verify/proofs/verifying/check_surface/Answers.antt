-- What is said of the geometry that was decoded is said of each that the stream means, since that is the one.
use Rattle.drc_base.specs.Profile.{profile_numbered}
use Rattle.std.proofs.Common.{◌≡◌, ◌↔◌, true, IfOk, sym, ◌∙◌, subst}
use Rattle.drc_bits.proofs.Results.{Ok-injective}
use Rattle.mesh_model.specs.Same.{Rows}
use Rattle.drc_container.specs.reading.Meaning.{Meaning, told_by}
use Rattle.drc_verify.specs.Checked.{IsSame}
use Rattle.drc_verify.specs.declared.verdicts.Verdict.TheVariants as verdict
use Rattle.drc_verify.proofs.verifying.check_surface.Goals as goal

pub returns-clause-same : goal.returns-clause-same
returns-clause-same c =
    let P : Rows → Meaning → Type 0 = λ rows n.
    IfOk c.judge_surface.result (λ v. (v ≡ verdict.Same) ↔ IsSame true c.args.map.now.cloud rows c.args.g.now n) in
    let read = told_by c.in_ok-n.n in
    let told : P c.as_slice.result.now read =
    c.judge_surface.ensures.same (c.a_surface_has_the_faces.ensures (profile_numbered c.args.profile.number) c.args.stream.now read c.in_ok-n.ensures.stream) in
    λ n means. subst (P c.args.map.now.rows.rows) (Ok-injective (sym c.in_ok-n.ensures.stream ∙ means))
    (subst (λ rows. P rows read) c.as_slice.ensures.items told)
