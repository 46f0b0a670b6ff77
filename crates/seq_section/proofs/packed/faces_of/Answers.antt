use Rattle.std.proofs.Common.{◌*◌, ◌+◌, ◌<◌, ◌≤◌, length, arith, sym, ◌∙◌, get_or, pos}
use Rattle.std.proofs.lemmas.Result.{err_from_is_err_and}
use Rattle.seq_section.specs.Packed.{points_after}
use Rattle.seq_section.proofs.Symbols.{with_faces-nil, faces-next, faces-fault, faces-end, last-below}
use Rattle.seq_section.proofs.packed.faces_of.Goals as goal

pub loop-k-init : goal.loop-k-init
loop-k-init c = record {
  told = rw c.new-faces.ensures.items (with_faces-nil (points_after c.args.outside c.args.points (pos 0) c.args.symbols.now));
  bound = omega arith;
}

pub returns-in_err-face : goal.returns-in_err-face
returns-in_err-face c =
    let p = err_from_is_err_and c.from_residual.result c.from_residual.ensures.1 in
    let fits : 3 * c.loop-k.k + 2 < length c.args.symbols.now = omega (arith, c.loop-k-test.true) in
    rw (p.1, p.2) (faces-fault c.args.outside c.args.points c.loop-k.last c.loop-k.k c.args.symbols.now _ _ _ fits (sym c.face_after.ensures ∙ c.in_err-face.was) c.loop-k.invariant.told)

pub loop-k-preserved : goal.loop-k-preserved
loop-k-preserved c =
    let fits : 3 * c.loop-k.k + 2 < length c.args.symbols.now = omega (arith, c.loop-k-test.true) in
    let read = sym c.face_after.ensures ∙ c.in_ok-face.was in
    let below = last-below c.args.outside c.args.points c.loop-k.last (get_or c.args.symbols.now (3 * c.loop-k.k) 0) (get_or c.args.symbols.now (3 * c.loop-k.k + 1) 0)
    (get_or c.args.symbols.now (3 * c.loop-k.k + 2) 0) c.in_ok-face.face read in
    record {
      told = rw c.in_ok-push.ensures.items (faces-next c.args.outside c.args.points c.loop-k.last c.loop-k.k c.args.symbols.now _ _ _ fits read c.loop-k.invariant.told);
      bound = (let b : get_or c.in_ok-face.face 2 0 < c.args.points = below in omega (arith, b, c.requires.few_points));
    }

pub returns : goal.returns
returns c =
    let done : length c.args.symbols.now ≤ 3 * c.loop-k.k = omega (arith, c.loop-k-test.false, c.requires.threes) in
    faces-end c.args.outside c.args.points c.loop-k.last c.loop-k.k c.args.symbols.now _ _ done c.loop-k.invariant.told
