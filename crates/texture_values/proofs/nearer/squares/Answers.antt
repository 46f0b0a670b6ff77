use Rattle.std.proofs.Common.{rules, FitsSigned}
use Rattle.std.specs.Int.{w64}
use Rattle.std.proofs.lemmas.Int.{to_z-of_z}
use Rattle.texture_values.proofs.Distances.{squares-are}
use Rattle.texture_values.proofs.nearer.squares.Goals as goal

pub returns : goal.returns
returns c =
    let a : FitsSigned w64 c.args.a = c.ranges.a in
    let b : FitsSigned w64 c.args.b = c.ranges.b in
    let p : FitsSigned w64 c.product.result = search rules in
    let q : FitsSigned w64 c.product-2.result = search rules in
    let r : FitsSigned w64 c.sum.result = search rules in
    simp to_z-of_z (squares-are c.args.a c.args.b c.product.result c.product-2.result c.sum.result
    (simp to_z-of_z at c.product.ensures) (simp to_z-of_z at c.product-2.ensures) (simp to_z-of_z at c.sum.ensures))
