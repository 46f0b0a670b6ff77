use Rattle.std.proofs.Common.{◌<◌, ◌≤◌, length, get_or, false, refl, arith}
use Rattle.std.specs.Bool.{beq}
use Rattle.std.proofs.Math.Numerals.{add-one}
use Rattle.texture_prediction.proofs.Turning.{said-more, said-all}
use Rattle.texture_prediction.proofs.orientations.orientations_to_bits.Goals as goal

pub loop-i-preserved : goal.loop-i-preserved
loop-i-preserved c =
    let has : c.loop-i.i < length c.loop-i.flags = omega (arith, c.loop-i.invariant.same) in
    rw (add-one c.loop-i.i) (said-more c.args.flags.now c.loop-i.flags c.loop-i.i c.loop-i.before (get_or c.loop-i.flags c.loop-i.i false)
    (beq (get_or c.loop-i.flags c.loop-i.i false) c.loop-i.before) c.loop-i.invariant has refl refl)

pub returns : goal.returns
returns c =
    let done : length c.loop-i.flags ≤ c.loop-i.i = omega (arith, c.loop-i.invariant.same) in
    said-all c.args.flags.now c.loop-i.flags c.loop-i.i c.loop-i.before c.loop-i.invariant done
