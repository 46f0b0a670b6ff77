use Rattle.std.proofs.Common.{rules, FitsSigned}
use Rattle.std.specs.Int.{w32, w64}
use Rattle.std.proofs.lemmas.Int.{to_z-of_z}
use Rattle.texture_prediction.proofs.Projecting.{along-is}
use Rattle.texture_prediction.proofs.across.along_at.Goals as goal

pub returns : goal.returns
returns c =
    let a : FitsSigned w32 c.args.a = c.ranges.a in
    let b : FitsSigned w32 c.args.b = c.ranges.b in
    let wide : FitsSigned w64 c.args.a = search rules in
    let along : FitsSigned w64 c.args.along = c.ranges.along in
    let square : FitsSigned w64 c.args.square = c.ranges.square in
    let from : FitsSigned w64 c.product-from.result = search rules in
    let step : FitsSigned w64 c.difference_of.result = search rules in
    let p : FitsSigned w64 c.product.result = search rules in
    let r : FitsSigned w64 c.sum.result = search rules in
    simp to_z-of_z (along-is c.args.a c.args.b c.args.along c.args.square c.product-from.result c.difference_of.result c.product.result c.sum.result
    (simp to_z-of_z at c.product-from.ensures) (simp to_z-of_z at c.difference_of.ensures) (simp to_z-of_z at c.product.ensures) (simp to_z-of_z at c.sum.ensures))
