use Rattle.std.proofs.Common.{rules, ◌*ℤ◌, FitsSigned}
use Rattle.std.specs.Int.{w64}
use Rattle.std.proofs.lemmas.Int.{to_z-of_z}
use Rattle.wrapped_vectors.proofs.Reducing.{three}
use Rattle.wrapped_vectors.proofs.vectors.dot.Goals as goal

pub returns : goal.returns
returns c =
    let ax : FitsSigned w64 c.args.a.x = search rules in
    let ay : FitsSigned w64 c.args.a.y = search rules in
    let az : FitsSigned w64 c.args.a.z = search rules in
    let bx : FitsSigned w64 c.args.b.x = search rules in
    let by : FitsSigned w64 c.args.b.y = search rules in
    let bz : FitsSigned w64 c.args.b.z = search rules in
    let x : FitsSigned w64 c.product.result = search rules in
    let y : FitsSigned w64 c.product-2.result = search rules in
    let z : FitsSigned w64 c.product-3.result = search rules in
    let xy : FitsSigned w64 c.sum-xy.result = search rules in
    let r : FitsSigned w64 c.sum.result = search rules in
    simp to_z-of_z (three (c.args.a.x *ℤ c.args.b.x) (c.args.a.y *ℤ c.args.b.y) (c.args.a.z *ℤ c.args.b.z)
    c.product.result c.product-2.result c.product-3.result c.sum-xy.result c.sum.result
    (simp to_z-of_z at c.product.ensures) (simp to_z-of_z at c.product-2.ensures) (simp to_z-of_z at c.product-3.ensures)
    (simp to_z-of_z at c.sum-xy.ensures) (simp to_z-of_z at c.sum.ensures))
