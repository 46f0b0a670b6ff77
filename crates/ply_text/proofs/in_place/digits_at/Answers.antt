use Rattle.std.proofs.Common.{◌≡◌, ◌+◌, ◌-◌, ◌*◌, ◌∙◌, false, get_or, sym, ap, refl, arith}
use Rattle.ply_text.specs.Tokens.{is_blank}
use Rattle.ply_text.specs.Numbers.{is_digit}
use Rattle.ply_text.proofs.InPlace.{no_digits, more_digits}
use Rattle.ply_text.proofs.NoNumber.{low_other, high_other, other_first, other_next, past_most, nothing_at_end}
use Rattle.ply_text.proofs.in_place.digits_at.Goals as goal
use Rattle.ply_text.proofs.in_place.digits_at.Goals.{then-byte-lt48-via-then-byte-lt48, then-byte-lt48-via-else-byte-lt48+then-byte-gt57, then-i-start-via-then-i-start, then-i-start-via-else-i-start+then-not-is_blank}

pub loop-i-init : goal.loop-i-init
loop-i-init c = (no_digits c.args.line.now c.args.start, omega arith, refl)

pub loop-i-preserved : goal.loop-i-preserved
loop-i-preserved c = (
  more_digits c.args.line.now c.args.start c.loop-i.i c.loop-i.value c.loop-i.auto.i c.loop-i-test.true c.if-byte-lt48.false c.if-byte-gt57.false c.loop-i.invariant.0,
  omega arith,
  refl,
)

pub returns-then-i-start-clause-none : goal.returns-then-i-start-clause-none
returns-then-i-start-clause-none c =
    let line = c.args.line.now in
    let i = c.loop-i.i in
    let other : is_digit (get_or line i 0) ≡ false = elim c.then-byte-lt48.branch [
      | then-byte-lt48-via-then-byte-lt48 w ↦ low_other (get_or line i 0) w.if-byte-lt48.true
      | then-byte-lt48-via-else-byte-lt48+then-byte-gt57 w ↦ high_other (get_or line i 0) w.if-byte-gt57.true
    ] in
    elim c.then-i-start.branch [
      | then-i-start-via-then-i-start w ↦
          other_first line c.args.start c.args.most (omega arith) (ap (λ k. is_digit (get_or line k 0)) (sym w.if-i-start.true) ∙ other)
      | then-i-start-via-else-i-start+then-not-is_blank w ↦
          let solid : is_blank (get_or line i 0) ≡ false = cc in
          other_next line c.args.start i c.loop-i.value c.args.most c.loop-i.auto.i c.loop-i-test.true c.loop-i.invariant.0 other solid
    ]

pub returns-then-next-limit-clause-none : goal.returns-then-next-limit-clause-none
returns-then-next-limit-clause-none c =
    let line = c.args.line.now in
    let i = c.loop-i.i in
    let next = more_digits line c.args.start i c.loop-i.value c.loop-i.auto.i c.loop-i-test.true c.if-byte-lt48.false c.if-byte-gt57.false c.loop-i.invariant.0 in
    past_most line c.args.start (i + 1) (c.loop-i.value * 10 + (get_or line i 0 - 48)) c.args.most (omega arith) (omega arith) next (omega arith)

pub returns-then-start-line-clause-none : goal.returns-then-start-line-clause-none
returns-then-start-line-clause-none c = nothing_at_end c.args.line.now c.args.start c.args.most (omega arith)
