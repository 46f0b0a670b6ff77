use Rattle.std.proofs.Common.{rules, FitsSigned}
use Rattle.std.specs.Int.{w32, w64}
use Rattle.std.proofs.lemmas.Int.{to_z-of_z}
use Rattle.texture_prediction.proofs.Projecting.{low_bits-is}
use Rattle.texture_prediction.proofs.numbers.low_bits.Goals as goal

pub returns : goal.returns
returns c =
    let fits : FitsSigned w32 c.cast_signed.result = search rules in
    let n : FitsSigned w64 c.args.n = c.ranges.n in
    simp to_z-of_z (low_bits-is c.args.n c.cast_unsigned.result c.cast_signed.result n (simp to_z-of_z at c.cast_unsigned.ensures) c.cast_signed.ensures)
