use Rattle.std.proofs.Common.{rules, ◌≡◌, ◌*ℤ◌, ◌∙◌, ◌^◌, ◌<◌, pos, int_div, unsigned_abs, ◌≤◌, refl, FitsSigned, arith}
use Rattle.std.specs.Int.{w32, w64}
use Rattle.std.proofs.lemmas.Int.{to_z-of_z, ints, fits_signed_from_abs}
use Rattle.normal_prediction.proofs.Scaling.{part-within}
use Rattle.normal_prediction.proofs.directions.part.Goals as goal
use Rattle.normal_prediction.proofs.directions.part.Goals.{After-divided_by}

is : (c : After-divided_by) → c.divided_by.result ≡ int_div (c.args.n *ℤ c.args.c) (pos c.args.s)
is c =
    let n : FitsSigned w64 c.args.n = c.ranges.n in
    let centre : FitsSigned w32 c.args.c = c.ranges.c in
    let p : FitsSigned w64 c.times.result = search rules in
    let times = simp to_z-of_z at c.times.ensures in
    let quotient = simp to_z-of_z at c.divided_by.ensures in
    quotient ∙ rw times refl

fits : (c : After-divided_by) → FitsSigned w32 c.divided_by.result
fits c =
    let within : unsigned_abs (int_div (c.args.n *ℤ c.args.c) (pos c.args.s)) ≤ unsigned_abs c.args.c = part-within c.args.n c.args.c c.args.s c.requires.some c.requires.within in
    let small : unsigned_abs c.args.c < 2 ^ 29 = omega (arith, ints) in
    rw (is c) (fits_signed_from_abs w32 (int_div (c.args.n *ℤ c.args.c) (pos c.args.s)) (omega arith))

pub overflow_cast-result : goal.overflow_cast-result
overflow_cast-result c =
    let q : FitsSigned w64 c.divided_by.result = search rules in
    simp to_z-of_z (fits c)

pub returns : goal.returns
returns c =
    let q : FitsSigned w64 c.divided_by.result = search rules in
    let small : FitsSigned w32 c.divided_by.result = fits c in
    simp to_z-of_z (is c)
