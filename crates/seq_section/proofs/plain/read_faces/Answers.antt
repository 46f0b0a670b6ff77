use Rattle.std.proofs.Common.{◌≡◌, ◌-◌, arith}
use Rattle.std.proofs.lemmas.Result.{err_from_is_err_and}
use Rattle.drc_bits.specs.Reading.{many_at}
use Rattle.drc_bits.proofs.Many.{with_front-nil, many_at-next, many_at-fault, many_at-end}
use Rattle.seq_section.specs.Indices.{face_at}
use Rattle.seq_section.proofs.plain.read_faces.Goals as goal

pub loop-init : goal.loop-init
loop-init c =
    let whole : c.args.faces - 0 ≡ c.args.faces = omega arith in
    rw (c.in_ok-read.ensures.items, whole) (with_front-nil (many_at (face_at c.args.points) c.args.faces c.args.c.now))

pub returns-in_err-face : goal.returns-in_err-face
returns-in_err-face c =
    let p = err_from_is_err_and c.from_residual-in_err-face.result c.from_residual-in_err-face.ensures.1 in
    rw (p.1, p.2) (many_at-fault (face_at c.args.points) c.args.faces c.loop.counter _ _ _ _ c.loop.invariant c.loop-test.true c.in_err-face.ensures)

pub loop-preserved : goal.loop-preserved
loop-preserved c =
    rw c.in_ok-push.ensures.items (many_at-next (face_at c.args.points) c.args.faces c.loop.counter _ _ _ _ _ c.loop.invariant c.loop-test.true c.in_ok-face.ensures)

pub returns : goal.returns
returns c = many_at-end (face_at c.args.points) c.args.faces c.loop.counter _ _ _ c.loop.invariant c.loop-test.false
