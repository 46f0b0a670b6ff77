use Rattle.std.proofs.Common.{◌+◌, ◌<◌, drop, sym, ap, ◌∙◌, arith}
use Rattle.std.specs.Prelude.{option_map}
use Rattle.mesh_model.proofs.NumberTexts.{digits-more_at, digits-stop_at, digits-end_at, digits-wide, byte-at, byte-other_at}
use Rattle.mesh_model.proofs.number_reading.digits_then.Goals as goal

pub returns-then-byte-end : goal.returns-then-byte-end
returns-then-byte-end c =
    let inside : c.loop-i.i < _ = c.loop-i-test.true in (
      sym c.loop-i.invariant.same
          ∙ digits-stop_at c.args.end c.loop-i.value c.loop-i.i c.args.bytes.now inside (sym c.if-not-is_digit.ensures) c.loop-i.invariant.small
          ∙ ap (option_map (λ rest. (c.loop-i.value, rest))) (byte-at c.args.end c.loop-i.i c.args.bytes.now inside c.if-byte-end.true),
      omega arith,
    )

pub returns-else-byte-end : goal.returns-else-byte-end
returns-else-byte-end c =
    sym c.loop-i.invariant.same
    ∙ digits-stop_at c.args.end c.loop-i.value c.loop-i.i c.args.bytes.now c.loop-i-test.true (sym c.if-not-is_digit.ensures) c.loop-i.invariant.small
    ∙ ap (option_map (λ rest. (c.loop-i.value, rest))) (byte-other_at c.args.end c.loop-i.i c.args.bytes.now c.loop-i-test.true c.if-byte-end.false)

pub returns-then-value : goal.returns-then-value
returns-then-value c =
    sym c.loop-i.invariant.same
    ∙ digits-more_at c.args.end c.loop-i.value c.loop-i.i c.args.bytes.now c.loop-i-test.true (sym c.if-not-is_digit.ensures)
    ∙ digits-wide c.args.end _ (drop (c.loop-i.i + 1) c.args.bytes.now) (omega arith)

pub loop-i-preserved : goal.loop-i-preserved
loop-i-preserved c = record {
  small = omega arith;
  same =
      sym (digits-more_at c.args.end c.loop-i.value c.loop-i.i c.args.bytes.now c.loop-i-test.true (sym c.if-not-is_digit.ensures))
      ∙ c.loop-i.invariant.same;
}

pub returns : goal.returns
returns c =
    sym c.loop-i.invariant.same ∙ digits-end_at c.args.end c.loop-i.value c.loop-i.i c.args.bytes.now (omega arith)
