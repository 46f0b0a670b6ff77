use Rattle.std.proofs.Common.{sym, ◌∙◌, ap, drop, arith}
use Rattle.drc_bits.specs.Reading.{advanced}
use Rattle.seq_section.proofs.Faces.{face-quick, behind-short}
use Rattle.seq_section.proofs.quick.quick_face.Goals as goal

pub returns-clause-face : goal.returns-clause-face
returns-clause-face c =
    face-quick c.args.points c.in_ok-first.first c.in_ok-second.second c.in_ok-third.third c.in_ok-first.a c.in_ok-second.b c.in_ok-third.d c.args.bytes.now
    c.in_ok-first.ensures.index
    (λ r here. c.in_ok-second.ensures.index r (here ∙ sym c.behind-rest.ensures))
    (λ r here. c.in_ok-third.ensures.index r (here ∙ ap (drop c.in_ok-second.b) (sym c.behind-rest.ensures) ∙ sym c.behind-last.ensures))

pub returns-in_err-first-clause-seen : goal.returns-in_err-first-clause-seen
returns-in_err-first-clause-seen c = λ has few r here f.
    rw c.from_residual.ensures (c.in_err-first.ensures.seen (omega (arith, has)) few r here f.i f.first)

pub returns-in_err-second-clause-seen : goal.returns-in_err-second-clause-seen
returns-in_err-second-clause-seen c = λ has few r here f.
    let one = behind-short c.args.points c.in_ok-first.first c.in_ok-first.a f.i c.args.bytes.now c.behind-rest.result.now r here c.behind-rest.ensures
    (c.in_ok-first.ensures.index r here) f.first in
    rw c.from_residual-in_err-second.ensures (c.in_err-second.ensures.seen (omega (arith, has, one.1)) few (advanced f.i r) one.0 f.j f.second)

pub returns-in_err-third-clause-seen : goal.returns-in_err-third-clause-seen
returns-in_err-third-clause-seen c = λ has few r here f.
    let one = behind-short c.args.points c.in_ok-first.first c.in_ok-first.a f.i c.args.bytes.now c.behind-rest.result.now r here c.behind-rest.ensures
    (c.in_ok-first.ensures.index r here) f.first in
    let two = behind-short c.args.points c.in_ok-second.second c.in_ok-second.b f.j c.behind-rest.result.now c.behind-last.result.now (advanced f.i r) one.0
    c.behind-last.ensures (c.in_ok-second.ensures.index (advanced f.i r) one.0) f.second in
    rw c.from_residual-in_err-third.ensures
    (c.in_err-third.ensures.seen (omega (arith, has, one.1, two.1)) few (advanced f.j (advanced f.i r)) two.0 f.k f.third)
