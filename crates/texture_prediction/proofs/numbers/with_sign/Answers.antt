use Rattle.std.proofs.Common.{rules, ◌∙◌, ◌^◌, ◌<◌, FitsSigned}
use Rattle.std.specs.Int.{w64}
use Rattle.std.proofs.lemmas.Int.{to_z-of_z}
use Rattle.wrapped_vectors.proofs.Reducing.{signed-from}
use Rattle.texture_prediction.proofs.numbers.with_sign.Goals as goal

pub returns : goal.returns
returns c =
    let fits : FitsSigned w64 c.cast_signed.result = search rules in
    let small : c.args.n < 2 ^ 64 = c.ranges.n.fits in
    simp to_z-of_z (c.cast_signed.ensures ∙ signed-from c.args.n small)
