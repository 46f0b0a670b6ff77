use Rattle.std.proofs.Common.{rules, ◌*ℤ◌, FitsSigned}
use Rattle.std.specs.Int.{w64}
use Rattle.std.proofs.lemmas.Int.{to_z-of_z}
use Rattle.wrapped_vectors.proofs.Reducing.{products-apart}
use Rattle.wrapped_vectors.proofs.vectors.difference_of_products.Goals as goal

pub returns : goal.returns
returns c =
    let fa : FitsSigned w64 c.args.a = c.ranges.a in
    let fb : FitsSigned w64 c.args.b = c.ranges.b in
    let fc : FitsSigned w64 c.args.c = c.ranges.c in
    let fd : FitsSigned w64 c.args.d = c.ranges.d in
    let x : FitsSigned w64 c.product.result = search rules in
    let y : FitsSigned w64 c.product-2.result = search rules in
    let r : FitsSigned w64 c.difference.result = search rules in
    simp to_z-of_z (products-apart (c.args.a *ℤ c.args.b) (c.args.c *ℤ c.args.d) c.product.result c.product-2.result c.difference.result
    (simp to_z-of_z at c.product.ensures) (simp to_z-of_z at c.product-2.ensures) (simp to_z-of_z at c.difference.ensures))
