use Rattle.std.proofs.Common.{◌<◌, ◌+◌, ◌*◌, sym, ap, ◌∙◌, drop, arith}
use Rattle.std.specs.Prelude.{option_and_then}
use Rattle.std.proofs.lemmas.List.{at_drop_more}
use Rattle.ply_text.specs.Numbers.{hex_after}
use Rattle.ply_text.proofs.Patterns.{hex_step, hex_fits}
use Rattle.ply_text.proofs.bit_patterns.pattern_of.Goals as goal

pub overflow_mul-value : goal.overflow_mul-value
overflow_mul-value c =
    let lt : c.loop-i.i < 8 = omega arith in
    omega (arith, hex_fits c.loop-i.value c.loop-i.i c.loop-i.invariant.1 lt)

pub overflow_add-value : goal.overflow_add-value
overflow_add-value c =
    let lt : c.loop-i.i < 8 = omega arith in
    omega (arith, hex_fits c.loop-i.value c.loop-i.i c.loop-i.invariant.1 lt, c.in_ok-digit.ensures.small)

pub loop-i-preserved : goal.loop-i-preserved
loop-i-preserved c =
    let step = at_drop_more (hex_after c.loop-i.value) c.args.token.now c.loop-i.i 0 c.loop-i-test.true in
    let read = ap (option_and_then (λ d. hex_after (c.loop-i.value * 16 + d) (drop (c.loop-i.i + 1) c.args.token.now))) c.in_ok-digit.ensures.value in
    (read ∙ sym step ∙ c.loop-i.invariant.0, hex_step c.loop-i.value c.loop-i.i c.in_ok-digit.digit c.loop-i.invariant.1 c.in_ok-digit.ensures.small)
