-- Entry after entry is put, with its flags.
use Rattle.std.proofs.Common.{◌≡◌, ◌<◌, ◌≤◌, ◌+◌, ◌*◌, ℕ, List, length, map, ap, ◌∙◌, sym, subst, refl, arith, add-one}
use Rattle.std.proofs.lemmas.List.{length-map, get_or-replicate}
use Rattle.std.proofs.lemmas.List.Elements.{All-same}
use Rattle.corner_table.specs.Sides.{side_at}
use Rattle.corner_table.specs.declared.corner_lists.FaceAcross.{FaceAcross}
use Rattle.predict.specs.Wrap.{Range}
use Rattle.predict.specs.Restored.{restored, restored_behind}
use Rattle.corner_table.specs.Ordered.{Ordered, IsBelow}
use Rattle.predict.specs.Surfaces.{surface}
use Rattle.predict.specs.Gathered.{gathered}
use Rattle.predict.specs.Multi.{by_many, kept, flags_for, multi}
use Rattle.predict.specs.Entry.{Foretells, AreUsed}
use Rattle.predict.proofs.Puts.{behind_end}
use Rattle.predict.proofs.Entries.{entry_below}
use Rattle.predict.proofs.Kept.{used_none, foretells_many, lacks_flags}
use Rattle.predict.proofs.multi_from_source.by_multi.Goals as goal

pub loop-e-init : goal.loop-e-init
loop-e-init g c =
    let f = multi (surface c.args.on.now) c.args.comps c.args.flags.now.lists in
    record {
      long = refl;
      used = used_none (surface c.args.on.now) c.args.flags.now.lists _ (λ k h. get_or-replicate 4 k 0 0 h);
      values = ap (λ v. restored_behind f c.copy-wrap.result v (g.C.CorrectionSource.left c.args.source)) c.in_ok-values.ensures.items
          ∙ ap (λ (r : Range). restored f r (g.C.CorrectionSource.left c.args.source)) c.copy-wrap.ensures.same;
      left = omega (arith, c.len-n.ensures);
      len = omega (arith, c.in_ok-values.ensures.len);
      capacity = c.in_ok-values.ensures.exact;
      ahead = λ h. c.gather_ahead-ahead.ensures.faces (omega (arith, h, c.surface_of-surface.ensures.count)) ∙ ap (λ (x : Ordered). gathered x 0) c.surface_of-surface.ensures.ordered;
      below = c.gather_ahead-ahead.ensures.below;
      few = c.gather_ahead-ahead.ensures.few;
    }

pub returns-in-None-clause-flags : goal.returns-in-None-clause-flags
returns-in-None-clause-flags g c =
    let w = surface c.args.on.now in
    let e = c.loop-e.e in
    let is : c.as_slice.result.now ≡ gathered w e =
    c.as_slice.ensures.value ∙ c.loop-e.invariant.ahead (omega (arith, c.loop-e-test.true, c.surface_of-surface.ensures.count)) in
    let has : e < length (map side_at c.args.on.now.order.now.corner_of_entry) =
    omega (arith, length-map c.args.on.now.order.now.corner_of_entry side_at, c.loop-e-test.true, c.surface_of-surface.ensures.count) in
    (refl, lacks_flags w c.args.flags.now.lists e has (c.in-None.ensures.faces w e is c.loop-e.invariant.used))

pub put_by_many-requires : goal.put_by_many-requires
put_by_many-requires g c =
    let e = c.loop-e.e in
    let n = length c.args.on.now.order.now.corner_of_entry in
    let more : e * c.args.comps + c.args.comps ≤ n * c.args.comps = entry_below e n c.args.comps (omega (arith, c.loop-e-test.true, c.surface_of-surface.ensures.count)) in
    record {
      some = c.requires.some;
      below = All-same (IsBelow e) c.as_slice-in-Some.result.now c.in-Some.faces.items c.as_slice-in-Some.ensures.value
          (c.in-Some.ensures.below e (All-same (IsBelow e) c.as_slice.result.now c.loop-e.ahead.items c.as_slice.ensures.value c.loop-e.invariant.below));
      few = omega (arith, ap length c.as_slice-in-Some.ensures.value, c.in-Some.ensures.few);
      here = c.loop-e.invariant.len;
      room = omega (arith, more, c.requires.whole, c.len-n.ensures, c.loop-e.invariant.len, c.loop-e.invariant.capacity);
      enough = omega (arith, more, c.requires.whole, c.len-n.ensures, c.loop-e.invariant.left);
    }

pub loop-e-preserved : goal.loop-e-preserved
loop-e-preserved g c =
    let w = surface c.args.on.now in
    let lists = c.args.flags.now.lists in
    let e = c.loop-e.e in
    let f = multi w c.args.comps lists in
    let is : c.as_slice.result.now ≡ gathered w e =
    c.as_slice.ensures.value ∙ c.loop-e.invariant.ahead (omega (arith, c.loop-e-test.true, c.surface_of-surface.ensures.count)) in
    let told = c.in-Some.ensures.faces w e is c.loop-e.invariant.used in
    let faces : c.as_slice-in-Some.result.now ≡ kept (flags_for w lists e) (gathered w e) = c.as_slice-in-Some.ensures.value ∙ told.0 ∙ ap (kept (flags_for w lists e)) is in
    record {
      long = c.in-Some.ensures.long;
      used = subst (λ (n : ℕ). AreUsed w lists n c.take_flags.new.used) (sym (add-one e)) told.1;
      values = c.put_by_many.ensures.values f (subst (λ (l : List FaceAcross). Foretells f c.args.comps e (by_many c.args.comps l)) (sym faces) (foretells_many w c.args.comps lists e))
          ∙ c.loop-e.invariant.values;
      left = omega (arith, c.loop-e.invariant.left, c.put_by_many.ensures.left);
      len = omega (arith, c.loop-e.invariant.len, c.put_by_many.ensures.len);
      capacity = c.put_by_many.ensures.capacity ∙ c.loop-e.invariant.capacity;
      ahead = λ h. c.gather_ahead-ahead-in-loop-e.ensures.faces (omega (arith, h, c.surface_of-surface.ensures.count)) ∙ ap (λ (x : Ordered). gathered x (e + 1)) c.surface_of-surface.ensures.ordered;
      below = c.gather_ahead-ahead-in-loop-e.ensures.below;
      few = c.gather_ahead-ahead-in-loop-e.ensures.few;
    }

pub returns-clause-values : goal.returns-clause-values
returns-clause-values g c =
    let all : c.loop-e.e ≡ length c.args.on.now.order.now.corner_of_entry = omega (arith, c.loop-e-test.false, c.loop-e.auto, c.surface_of-surface.ensures.count) in
    let done : c.loop-e.e * c.args.comps ≡ length c.args.on.now.order.now.corner_of_entry * c.args.comps = ap (λ k. k * c.args.comps) all in
    let none : length (g.C.CorrectionSource.left c.loop-e.source) ≡ 0 = omega (arith, done, c.requires.whole, c.len-n.ensures, c.loop-e.invariant.left) in
    behind_end (multi (surface c.args.on.now) c.args.comps c.args.flags.now.lists) c.copy-wrap.result c.loop-e.values.items (g.C.CorrectionSource.left c.loop-e.source) _ none c.loop-e.invariant.values
