use Rattle.std.proofs.Common.{◌<◌, ◌≤◌, length, get_or, false, refl, arith}
use Rattle.std.proofs.Math.Numerals.{add-one}
use Rattle.texture_prediction.proofs.Turning.{oriented-more, oriented-all}
use Rattle.texture_prediction.proofs.orientations.bits_to_orientations.Goals as goal

pub loop-i-preserved : goal.loop-i-preserved
loop-i-preserved c =
    let has : c.loop-i.i < length c.loop-i.flags = omega (arith, c.loop-i.invariant.same) in
    rw (add-one c.loop-i.i) (oriented-more c.args.flags.now c.loop-i.flags c.loop-i.i c.loop-i.before (get_or c.loop-i.flags c.loop-i.i false) c.kept-before.result
    c.loop-i.invariant has refl c.kept-before.ensures)

pub returns : goal.returns
returns c =
    let done : length c.loop-i.flags ≤ c.loop-i.i = omega (arith, c.loop-i.invariant.same) in
    oriented-all c.args.flags.now c.loop-i.flags c.loop-i.i c.loop-i.before c.loop-i.invariant done
