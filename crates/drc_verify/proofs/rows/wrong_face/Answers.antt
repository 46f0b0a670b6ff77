use Rattle.std.proofs.Common.{◌<◌, length, sym, ◌∙◌, arith}
use Rattle.drc_verify.specs.RowTests.{face_is_right}
use Rattle.drc_verify.proofs.FirstsFound.{first_failing-all, first_failing-at}
use Rattle.drc_verify.proofs.rows.wrong_face.Goals as goal

pub returns-then-not-is_right_face : goal.returns-then-not-is_right_face
returns-then-not-is_right_face c =
    let rows = c.args.rows.now in
    let right = face_is_right c.args.m.now c.args.n.now rows in
    let i = c.loop-i.i in
    let inside : i < length rows = omega (arith, c.requires, c.face_count-i-end.ensures.value, c.loop-i-test.true) in
    sym (first_failing-at right (length rows) i inside c.loop-i.invariant.right
    (sym c.is_right_face.ensures.right ∙ c.if-not-is_right_face.true))

pub returns : goal.returns
returns c =
    let rows = c.args.rows.now in
    let right = face_is_right c.args.m.now c.args.n.now rows in
    sym (first_failing-all right (length rows) (λ i below.
    c.loop-i.invariant.right i (omega (arith, c.requires, c.face_count-i-end.ensures.value, c.loop-i-test.false))))
