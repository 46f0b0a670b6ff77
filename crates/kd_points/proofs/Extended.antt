-- Least and greatest integers of a component.
use Rattle.std.proofs.Common.{ℤ, pos, ◌≤ℤ◌, List, get_or, fold, refl, arith}
use Rattle.std.specs.Int.{int_min, int_max}
use Rattle.std.specs.List.{All}
use Rattle.std.proofs.lemmas.Int.{ints, fold-int_min_bounds, fold-int_max_bounds}
use Rattle.kd_points.specs.Extents.{least_in, greatest_in}

-- the least is at most each, and the greatest at least each
pub least-most : (values : List ℤ) → All (λ v. least_in values ≤ℤ v) values
least-most values = (fold-int_min_bounds (get_or values 0 (pos 0)) values (least_in values) refl).1

pub greatest-least : (values : List ℤ) → All (λ v. v ≤ℤ greatest_in values) values
greatest-least values = (fold-int_max_bounds (get_or values 0 (pos 0)) values (greatest_in values) refl).1

-- the least is at most the greatest
pub least_below_greatest : (values : List ℤ) → least_in values ≤ℤ greatest_in values
least_below_greatest values =
    let low = (fold-int_min_bounds (get_or values 0 (pos 0)) values (least_in values) refl).0 in
    let high = (fold-int_max_bounds (get_or values 0 (pos 0)) values (greatest_in values) refl).0 in
    omega (arith, ints, low, high)

-- the least of some is at most the greatest of others, where both begin with the same
pub between : (a : ℤ) (xs ys : List ℤ) → fold int_min a xs ≤ℤ fold int_max a ys
between a xs ys =
    let low = (fold-int_min_bounds a xs (fold int_min a xs) refl).0 in
    let high = (fold-int_max_bounds a ys (fold int_max a ys) refl).0 in
    omega (arith, ints, low, high)
