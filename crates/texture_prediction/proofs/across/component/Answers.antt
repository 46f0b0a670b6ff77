use Rattle.std.proofs.Common.{rules, FitsSigned}
use Rattle.std.specs.Int.{w32, w64}
use Rattle.std.proofs.lemmas.Int.{to_z-of_z}
use Rattle.texture_prediction.proofs.Projecting.{component-is}
use Rattle.texture_prediction.proofs.across.component.Goals as goal

pub returns : goal.returns
returns c =
    let tip : FitsSigned w32 c.args.tip = c.ranges.tip in
    let n : FitsSigned w32 c.args.n = c.ranges.n in
    let along : FitsSigned w64 c.args.along = c.ranges.along in
    let d : FitsSigned w64 c.args.d = c.ranges.d in
    let square : FitsSigned w64 c.args.square = c.ranges.square in
    let p : FitsSigned w64 c.product.result = search rules in
    let q : FitsSigned w64 c.quotient-forward.result = search rules in
    let way : FitsSigned w64 c.difference_of.result = search rules in
    let r : FitsSigned w64 c.difference.result = search rules in
    simp to_z-of_z (component-is c.args.tip c.args.n c.args.along c.args.d c.args.square c.quotient-forward.result c.product.result c.difference_of.result c.difference.result
    (simp to_z-of_z at c.product.ensures) (simp to_z-of_z at c.quotient-forward.ensures) (simp to_z-of_z at c.difference_of.ensures) (simp to_z-of_z at c.difference.ensures))
