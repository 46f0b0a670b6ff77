-- Whole lists: points of an even number of integers are as good as these.
use Rattle.std.proofs.Common.{◌≡◌, ℕ, suc, ◌*◌, ◌%◌, ℤ, List, [], ◌∷◌, length, Bool, Result, Ok, ◌∙◌, ap, refl, arith}
use Rattle.std.proofs.lemmas.List.Elements.{All-nil, All-cons, All-head, All-tail}
use Rattle.drc_base.specs.declared.kinds.Kind.{Kind}
use Rattle.octahedron.specs.declared.points.Point.{Point}
use Rattle.octahedron.specs.Square.{point, IsValue}
use Rattle.octahedron.specs.Corrections.{restored_value, correction_of}
use Rattle.octahedron.specs.Pairs.{pairs_of, IsCoordinate, AreCoordinates, AreValues}
use Rattle.predict.specs.Stepping.{Step, restored_by, corrected_by}
use Rattle.octahedral_values.specs.Integers.{integers_of}
use Rattle.octahedral_values.specs.Steps.{as_integers, restored_integers, corrected_integers}

pub integers-pairs : (xs : List ℤ) → length xs % 2 ≡ 0 → integers_of (pairs_of xs) ≡ xs
unfolding integers_of pairs_of
integers-pairs [] even = refl
integers-pairs (s ∷ []) even = absurd (omega arith)
integers-pairs (s ∷ t ∷ xs) even = ap (λ (ys : List ℤ). s ∷ t ∷ ys) (integers-pairs xs (omega arith))

-- points that are values have integers from 0 to 2c
pub coordinates-values : (c : ℤ) (xs : List ℤ) → length xs % 2 ≡ 0 → AreValues c xs → AreCoordinates c xs
unfolding pairs_of
coordinates-values c [] even h = All-nil (IsCoordinate c)
coordinates-values c (s ∷ []) even h = absurd (omega arith)
coordinates-values c (s ∷ t ∷ xs) even h =
    let first = All-head (IsValue c) (point s t) (pairs_of xs) h in
    All-cons (IsCoordinate c) s (t ∷ xs) (first.s_least, first.s_greatest)
    (All-cons (IsCoordinate c) t xs (first.t_least, first.t_greatest)
    (coordinates-values c xs (omega arith) (All-tail (IsValue c) (point s t) (pairs_of xs) h)))

abbrev whole : List ℤ → Result (List ℤ) Kind
whole xs = Ok xs

-- what is restored, and what is corrected, in integers
pub restored-whole : (step : Step Point (List Bool) Kind) (c : ℤ) (flips : List Bool) (old new : List ℤ) → length new % 2 ≡ 0
    → restored_by step (restored_value c) [] flips (pairs_of old) ≡ Ok (pairs_of new) → restored_integers step c flips old ≡ Ok new
unfolding restored_integers
restored-whole step c flips old new even is = ap as_integers is ∙ ap whole (integers-pairs new even)

pub corrected-whole : (step : Step Point (List Bool) Kind) (c : ℤ) (flips : List Bool) (old new : List ℤ) → length new % 2 ≡ 0
    → corrected_by step (correction_of c) [] flips (pairs_of old) ≡ Ok (pairs_of new) → corrected_integers step c flips old ≡ Ok new
unfolding corrected_integers
corrected-whole step c flips old new even is = ap as_integers is ∙ ap whole (integers-pairs new even)

pub pairs-integers : (ps : List Point) → pairs_of (integers_of ps) ≡ ps
unfolding integers_of pairs_of
pairs-integers [] = refl
pairs-integers (p ∷ ps) = ap (λ (qs : List Point). p ∷ qs) (pairs-integers ps)

pub length-integers : (ps : List Point) → length (integers_of ps) ≡ 2 * length ps
unfolding integers_of
length-integers [] = refl
length-integers (p ∷ ps) = ap (λ (n : ℕ). suc (suc n)) (length-integers ps) ∙ omega arith
