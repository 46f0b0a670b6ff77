-- Entry after entry is corrected.
use Rattle.std.proofs.Common.{◌*◌, ◌≤◌, ◌≤ℤ◌, FitsSigned, w32, ℤ, length, ap, ◌∙◌, sym, subst, arith}
use Rattle.std.specs.List.{All}
use Rattle.std.proofs.lemmas.List.Elements.{All-same}
use Rattle.corner_table.specs.Ordered.{AreFaces}
use Rattle.predict.specs.Surfaces.{surface}
use Rattle.predict.specs.Parallelogram.{parallelogram}
use Rattle.predict.specs.Wrap.{least_correction, greatest_correction}
use Rattle.predict.specs.Restored.{restored, corrections}
use Rattle.predict.proofs.Entries.{corrected_on, corrected_end, all_entries}
use Rattle.predict.proofs.Faces.{face_before, face_foretells, faces_long}
use Rattle.predict.proofs.Restoring.{fit_within, restored-corrections, small-corrections}
use Rattle.predict.proofs.single.correct_entries.Goals as goal

pub correct_by_one-requires-clause-below : goal.correct_by_one-requires-clause-below
correct_by_one-requires-clause-below c =
    let w = surface c.args.on.now in
    let kept = c.requires.over.faces in
    let faces : AreFaces w c.as_slice-faces.result.now = subst (AreFaces w) (sym c.as_slice-faces.ensures.items) kept in
    face_before w c.as_slice-faces.result.now faces c.loop-e.e c.loop-e-test.true _

pub loop-e-preserved : goal.loop-e-preserved
loop-e-preserved c =
    let w = surface c.args.on.now in
    let kept = c.requires.over.faces in
    let faces : AreFaces w c.as_slice-faces.result.now = subst (AreFaces w) (sym c.as_slice-faces.ensures.items) kept in
    let f = parallelogram w c.args.comps in
    corrected_on f c.args.w.now c.args.v.now c.correct_by_one.new.out c.args.comps c.loop-e.e
    (c.correct_by_one.ensures f (face_foretells w c.as_slice-faces.result.now faces c.loop-e.e c.loop-e-test.true _ c.args.comps) c.loop-e.invariant)

pub returns-clause-corrections : goal.returns-clause-corrections
returns-clause-corrections c =
    let on = c.args.on.now in
    let long = faces_long on.sides.now on.classes.now.of_corner on.order.now c.requires.over in
    let done : length c.args.v.now ≤ c.loop-e.e * c.args.comps =
    all_entries (length on.order.now.corner_of_entry) c.loop-e.e c.args.comps (length c.args.v.now) (omega (arith, c.loop-e-test.false, c.as_slice-faces.ensures.len, long)) c.requires.whole in
    corrected_end (parallelogram (surface on) c.args.comps) c.args.w.now c.args.v.now c.loop-e.out (c.loop-e.e * c.args.comps) (c.loop-e.auto.out ∙ c.requires.room) done c.loop-e.invariant

pub returns-clause-restores : goal.returns-clause-restores
returns-clause-restores c =
    let fits : All (FitsSigned w32) c.args.v.now = fit_within c.args.w.now c.args.v.now c.requires.ends c.requires.range in
    let f = parallelogram (surface c.args.on.now) c.args.comps in
    ap (restored f c.args.w.now) (returns-clause-corrections c) ∙ restored-corrections f c.args.w.now c.args.v.now c.requires.can_wrap c.requires.range fits

pub returns-clause-small : goal.returns-clause-small
returns-clause-small c =
    let f = parallelogram (surface c.args.on.now) c.args.comps in
    All-same (λ (x : ℤ). (least_correction c.args.w.now ≤ℤ x) × (x ≤ℤ greatest_correction c.args.w.now)) c.loop-e.out (corrections f c.args.w.now c.args.v.now)
    (returns-clause-corrections c) (small-corrections f c.args.w.now c.args.v.now c.requires.can_wrap c.requires.range)
