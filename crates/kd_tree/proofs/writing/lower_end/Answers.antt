use Rattle.std.proofs.Common.{◌≡◌, ℕ, ◌+◌, ◌-◌, ◌/◌, ◌<◌, ◌≤◌, true, false, sym, ap, ◌∙◌, arith}
use Rattle.kd_tree.specs.Keys.{bit_at, key_at}
use Rattle.kd_tree.specs.Walk.{part}
use Rattle.kd_tree.proofs.Boxes.{high-at, key-part, length-part, length-parts, low-at}
use Rattle.kd_tree.proofs.writing.lower_end.Goals as goal

pub loop-low-init : goal.loop-low-init
loop-low-init c =
    let all = length-parts c.args.depth (part c.args.begin c.args.end c.args.keys.now.rows) in
    let long = length-part c.args.begin c.args.end c.args.keys.now.rows c.requires.begin c.requires.end in
    record { begin = omega arith; end = omega arith; above = omega arith; below = omega (arith, all, long, c.requires.begin) }

pub loop-low-preserved-then-bit : goal.loop-low-preserved-then-bit
loop-low-preserved-then-bit c =
    let middle : ℕ = c.loop-low.low + (c.loop-low.high - c.loop-low.low) / 2 in
    let box = part c.args.begin c.args.end c.args.keys.now.rows in
    let from : c.args.begin ≤ middle = omega (arith, c.loop-low.invariant.begin) in
    let to : middle < c.args.end = omega (arith, c.loop-low.invariant.end, c.loop-low-test.true) in
    let at : bit_at c.args.depth (key_at box (middle - c.args.begin)) ≡ true = ap (bit_at c.args.depth) (key-part c.args.begin c.args.end c.args.keys.now.rows middle from to) ∙ sym c.bit.ensures ∙ c.if-bit.true in
    let most = high-at c.args.depth box (middle - c.args.begin) c.requires.parted at in
    record {
      begin = c.loop-low.invariant.begin;
      end = omega (arith, to);
      above = c.loop-low.invariant.above;
      below = omega (arith, most, from);
    }

pub loop-low-preserved : goal.loop-low-preserved
loop-low-preserved c =
    let middle : ℕ = c.loop-low.low + (c.loop-low.high - c.loop-low.low) / 2 in
    let box = part c.args.begin c.args.end c.args.keys.now.rows in
    let long = length-part c.args.begin c.args.end c.args.keys.now.rows c.requires.begin c.requires.end in
    let from : c.args.begin ≤ middle = omega (arith, c.loop-low.invariant.begin) in
    let to : middle < c.args.end = omega (arith, c.loop-low.invariant.end, c.loop-low-test.true) in
    let at : bit_at c.args.depth (key_at box (middle - c.args.begin)) ≡ false = ap (bit_at c.args.depth) (key-part c.args.begin c.args.end c.args.keys.now.rows middle from to) ∙ sym c.bit.ensures ∙ c.if-bit.false in
    let least = low-at c.args.depth box (middle - c.args.begin) c.requires.parted (omega (arith, long, from, to)) at in
    record {
      begin = omega (arith, from);
      end = c.loop-low.invariant.end;
      above = omega (arith, least, from);
      below = c.loop-low.invariant.below;
    }
