-- Entry after entry is corrected, and its flags are put.
use Rattle.std.proofs.Common.{◌≡◌, ◌≤◌, ◌*◌, ℕ, Bool, List, length, map, ap, ◌∙◌, sym, subst, arith, add-one}
use Rattle.std.proofs.lemmas.List.Elements.{All-same}
use Rattle.corner_table.specs.declared.corner_lists.FaceAcross.{FaceAcross}
use Rattle.corner_table.specs.Ordered.{IsBelow}
use Rattle.predict.specs.Gathered.{gathered}
use Rattle.predict.specs.Multi.{by_many, kept, marks, is_left_out, AreMarked}
use Rattle.predict.specs.Entry.{Foretells, flags_put}
use Rattle.predict.specs.Stored.{ordered_in}
use Rattle.predict.proofs.Entries.{corrected_start, corrected_on, corrected_end, all_entries}
use Rattle.predict.proofs.Kept.{marked_none, marked_more}
use Rattle.predict.proofs.multi.correct_entries.Goals as goal

pub loop-e-init : goal.loop-e-init
loop-e-init c = record {
  long = c.requires.four;
  marked = marked_none (ordered_in c.args.surface.now) c.args.comps c.args.v.now c.args.lists.now c.requires.none;
  corrected = λ f foretells. corrected_start f c.args.w.now c.args.v.now c.args.out.now c.args.comps;
}

pub correct_entry-requires-clause-below : goal.correct_entry-requires-clause-below
correct_entry-requires-clause-below c =
    All-same (IsBelow c.loop-e.e) c.as_slice-in-loop-e-4.result.now c.keep-faces.result.items c.as_slice-in-loop-e-4.ensures.value
    (c.keep-faces.ensures.below c.loop-e.e (All-same (IsBelow c.loop-e.e) c.as_slice-in-loop-e-2.result.now c.gather-found.result.items c.as_slice-in-loop-e-2.ensures.value c.gather-found.ensures.below))

pub loop-e-preserved : goal.loop-e-preserved
loop-e-preserved c =
    let w = ordered_in c.args.surface.now in
    let e = c.loop-e.e in
    let comps = c.args.comps in
    let v = c.args.v.now in
    let is : c.as_slice.result.now ≡ gathered w e = c.as_slice.ensures.value ∙ c.gather-found.ensures.faces in
    let again : c.as_slice-in-loop-e-2.result.now ≡ gathered w e = c.as_slice-in-loop-e-2.ensures.value ∙ c.gather-found.ensures.faces in
    let marks_are : c.marks_of-marks.result.items ≡ marks w comps v e = c.marks_of-marks.ensures ∙ ap (λ (l : List FaceAcross). map (is_left_out comps v e) l) is in
    let put_are : c.as_slice-in-loop-e.result.now ≡ marks w comps v e = c.as_slice-in-loop-e.ensures.value ∙ marks_are in
    let kept_by : c.as_slice-in-loop-e-3.result.now ≡ marks w comps v e = c.as_slice-in-loop-e-3.ensures.value ∙ marks_are in
    let faces : c.as_slice-in-loop-e-4.result.now ≡ kept (marks w comps v e) (gathered w e) =
    c.as_slice-in-loop-e-4.ensures.value ∙ c.keep-faces.ensures.faces ∙ ap (λ (l : List Bool). kept l c.as_slice-in-loop-e-2.result.now) kept_by ∙ ap (kept (marks w comps v e)) again in
    record {
      long = c.in_ok-put_marks.ensures.long;
      marked = subst (λ (n : ℕ). AreMarked w comps v c.put_marks.new.lists n) (sym (add-one e))
          (marked_more w comps v c.loop-e.lists c.put_marks.new.lists e c.loop-e.invariant.long
          (c.in_ok-put_marks.ensures.put ∙ ap (λ (m : List Bool). flags_put m c.loop-e.lists) put_are) c.loop-e.invariant.marked);
      corrected = λ f foretells. corrected_on f c.args.w.now v c.correct_entry.new.out comps e
          (c.correct_entry.ensures f (subst (λ (l : List FaceAcross). Foretells f comps e (by_many comps l)) (sym faces) (foretells e (omega arith)))
          (c.loop-e.invariant.corrected f (λ i h. foretells i (omega arith))));
    }

pub returns-clause-corrections : goal.returns-clause-corrections
returns-clause-corrections c = λ f foretells.
    let done : length c.args.v.now ≤ c.loop-e.e * c.args.comps =
    all_entries (length c.args.surface.now.corners.now) c.loop-e.e c.args.comps (length c.args.v.now) c.loop-e-test.false c.requires.whole in
    corrected_end f c.args.w.now c.args.v.now c.loop-e.out (c.loop-e.e * c.args.comps) (c.loop-e.auto.out ∙ c.requires.room) done
    (c.loop-e.invariant.corrected f (λ i h. foretells i (omega (arith, h, c.loop-e.auto.e-end))))
