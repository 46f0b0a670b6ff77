-- Entry after entry is put.
use Rattle.std.proofs.Common.{◌≡◌, ◌+◌, ◌*◌, ◌≤◌, [], List, length, ap, sym, subst, ◌∙◌, arith}
use Rattle.std.proofs.lemmas.List.{length-map}
use Rattle.corner_table.specs.declared.corner_lists.FaceAcross.{FaceAcross}
use Rattle.corner_table.specs.Sides.{side_at}
use Rattle.corner_table.specs.Ordered.{AreFaces}
use Rattle.predict.specs.Parallelogram.{parallelogram}
use Rattle.predict.specs.Surfaces.{surface}
use Rattle.predict.proofs.Puts.{behind_end, length_behind}
use Rattle.predict.proofs.Faces.{face_before, face_foretells}
use Rattle.predict.proofs.Entries.{entry_below}
use Rattle.predict.proofs.from_source.by_parallelogram.Goals as goal

pub put_entry-requires : goal.put_entry-requires
put_entry-requires g c =
    let w = surface c.args.on.now in
    let e = c.loop-e.e in
    let faces = c.as_slice-faces.result.now in
    let are : AreFaces w faces = subst (λ (fs : List FaceAcross). AreFaces w fs) (sym c.as_slice-faces.ensures.items) c.requires.over.faces in
    let count : length faces ≡ length c.args.on.now.order.now.corner_of_entry = are.each_entry ∙ length-map c.args.on.now.order.now.corner_of_entry side_at in
    let more : e * c.args.comps + c.args.comps ≤ length faces * c.args.comps = entry_below e (length faces) c.args.comps c.loop-e-test.true in
    let whole : length faces * c.args.comps ≡ length (g.C.CorrectionSource.left c.args.source) = ap (λ k. k * c.args.comps) count ∙ sym c.requires.whole in
    record {
      some = c.requires.some;
      below = face_before w faces are e c.loop-e-test.true _;
      here = c.loop-e.invariant.len;
      room = omega (arith, more, whole, c.len-n.ensures, c.loop-e.invariant.len, c.loop-e.invariant.capacity);
      enough = omega (arith, more, whole, c.len-n.ensures, c.loop-e.invariant.left);
    }

pub loop-e-preserved : goal.loop-e-preserved
loop-e-preserved g c =
    let w = surface c.args.on.now in
    let e = c.loop-e.e in
    let faces = c.as_slice-faces.result.now in
    let are : AreFaces w faces = subst (λ (fs : List FaceAcross). AreFaces w fs) (sym c.as_slice-faces.ensures.items) c.requires.over.faces in
    record {
      values = c.put_entry.ensures.values (parallelogram w c.args.comps) (face_foretells w faces are e c.loop-e-test.true _ c.args.comps) ∙ c.loop-e.invariant.values;
      left = omega (arith, c.loop-e.invariant.left, c.put_entry.ensures.left);
      len = omega (arith, c.loop-e.invariant.len, c.put_entry.ensures.len);
      capacity = c.put_entry.ensures.capacity ∙ c.loop-e.invariant.capacity;
    }

pub returns-clause-values : goal.returns-clause-values
returns-clause-values g c =
    let w = surface c.args.on.now in
    let faces = c.as_slice-faces.result.now in
    let are : AreFaces w faces = subst (λ (fs : List FaceAcross). AreFaces w fs) (sym c.as_slice-faces.ensures.items) c.requires.over.faces in
    let count : length faces ≡ length c.args.on.now.order.now.corner_of_entry = are.each_entry ∙ length-map c.args.on.now.order.now.corner_of_entry side_at in
    let whole : length faces * c.args.comps ≡ length (g.C.CorrectionSource.left c.args.source) = ap (λ k. k * c.args.comps) count ∙ sym c.requires.whole in
    let all : c.loop-e.e ≡ length faces = omega (arith, c.loop-e-test.false, c.loop-e.auto) in
    let done : c.loop-e.e * c.args.comps ≡ length faces * c.args.comps = ap (λ k. k * c.args.comps) all in
    let none : length (g.C.CorrectionSource.left c.loop-e.source) ≡ 0 = omega (arith, done, whole, c.len-n.ensures, c.loop-e.invariant.left) in
    behind_end (parallelogram w c.args.comps) c.copy-wrap.result c.loop-e.values.items (g.C.CorrectionSource.left c.loop-e.source) _ none c.loop-e.invariant.values

pub returns-clause-len : goal.returns-clause-len
returns-clause-len g c =
    let w = surface c.args.on.now in
    let faces = c.as_slice-faces.result.now in
    let are : AreFaces w faces = subst (λ (fs : List FaceAcross). AreFaces w fs) (sym c.as_slice-faces.ensures.items) c.requires.over.faces in
    let count : length faces ≡ length c.args.on.now.order.now.corner_of_entry = are.each_entry ∙ length-map c.args.on.now.order.now.corner_of_entry side_at in
    let whole : length faces * c.args.comps ≡ length (g.C.CorrectionSource.left c.args.source) = ap (λ k. k * c.args.comps) count ∙ sym c.requires.whole in
    let all : c.loop-e.e ≡ length faces = omega (arith, c.loop-e-test.false, c.loop-e.auto) in
    let done : c.loop-e.e * c.args.comps ≡ length faces * c.args.comps = ap (λ k. k * c.args.comps) all in
    let none : length (g.C.CorrectionSource.left c.loop-e.source) ≡ 0 = omega (arith, done, whole, c.len-n.ensures, c.loop-e.invariant.left) in
    ap (λ xs. length xs) (behind_end (parallelogram w c.args.comps) c.copy-wrap.result c.loop-e.values.items (g.C.CorrectionSource.left c.loop-e.source) _ none c.loop-e.invariant.values)
    ∙ length_behind (parallelogram w c.args.comps) c.args.w.now [] (g.C.CorrectionSource.left c.args.source) ∙ omega arith
