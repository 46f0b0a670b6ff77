-- Values that are restored two by two: as many as their corrections.
use Rattle.std.proofs.Common.{◌≡◌, ℕ, ◌*◌, ◌/◌, ◌%◌, Bool, true, false, ℤ, List, [], ◌∷◌, length, map, Option, Result, Ok, Err, refl, ap, sym, ◌∙◌, arith}
use Rattle.std.specs.Prelude.{reverse, if◌then◌else◌}
use Rattle.std.specs.List.{list_all}
use Rattle.std.proofs.lemmas.List.{length-map}
use Rattle.std.proofs.lemmas.Nat.{div-add-mod'}
use Rattle.drc_base.specs.declared.kinds.Kind.{Kind}
use Rattle.drc_base.specs.Steps.{◌>>=◌}
use Rattle.drc_bits.proofs.Results.{Ok-injective, err≢ok}
use Rattle.wrapped_vectors.specs.declared.places.Place.{Place}
use Rattle.texture_prediction.specs.declared.pairs.Pair.{Pair}
use Rattle.texture_values.specs.Pairs.{pairs_of as texture_pairs, flat_of}
use Rattle.texture_values.specs.Foretold.{texture_step}
use Rattle.texture_values.specs.Restored.{restored_texture, restored_pair, flattened}
use Rattle.texture_values.proofs.Listed.{length-pairs as length-texture_pairs}
use Rattle.octahedron.specs.declared.points.Point.{Point}
use Rattle.octahedron.specs.Pairs.{pairs_of}
use Rattle.octahedron.specs.Corrections.{restored_value}
use Rattle.octahedron.proofs.Listed.{length-pairs}
use Rattle.octahedral_values.specs.Integers.{integers_of}
use Rattle.octahedral_values.specs.Steps.{restored_integers}
use Rattle.corner_table.specs.Ordered.{Ordered}
use Rattle.predict.specs.Wrap.{Range}
use Rattle.predict.specs.Stepping.{Step, restored_by}
use Rattle.predict.proofs.Steps.{length-restored_by}
use Rattle.attr_section.specs.declared.square_predictions.SquarePrediction.{SquarePrediction}
use Rattle.attr_section.specs.Positions.{Positions}
use Rattle.attr_section.specs.Squared.{square_step, centre_of, greatest_coordinate, is_correction, correction_of, squared}

-- what was restored before others, and though a test could refuse it
taken : {A B E : Type 0} (first : Result A E) (next : A → Result B E) (y : B) → (first >>= next) ≡ Ok y → (x : A) × (first ≡ Ok x) × (next x ≡ Ok y)
taken (Ok x) next y is = (x, refl, is)
taken (Err e) next y is = absurd (err≢ok is)

tested : {A E : Type 0} (b : Bool) (e : E) (r : Result A E) (y : A) → (if b then r else Err e) ≡ Ok y → r ≡ Ok y
tested true e r y is = is
tested false e r y is = absurd (err≢ok is)

length-flat : (pairs : List Pair) → length (flat_of pairs) ≡ 2 * length pairs
unfolding flat_of
length-flat [] = refl
length-flat (x ∷ pairs) = let rest = length-flat pairs in omega (arith, rest)

length-integers : (points : List Point) → length (integers_of points) ≡ 2 * length points
unfolding integers_of
length-integers [] = refl
length-integers (p ∷ points) = let rest = length-integers points in omega (arith, rest)

-- half of a number twice
halves : (n : ℕ) → n % 2 ≡ 0 → 2 * (n / 2) ≡ n
halves n even = omega (arith, even, div-add-mod' n 2)

-- texture coordinates
pub length-texture : (w : Ordered) (places : List Place) (r : Range) (orientations : List Bool) (corrections vs : List ℤ) → length corrections % 2 ≡ 0
    → restored_texture w places r orientations corrections ≡ Ok vs → length vs ≡ length corrections
unfolding restored_texture
length-texture w places r orientations corrections vs even is =
    let p = taken (restored_by (texture_step w places) (restored_pair r) [] (reverse orientations) (texture_pairs corrections)) flattened vs is in
    let long = length-restored_by (texture_step w places) (restored_pair r) [] (reverse orientations) (texture_pairs corrections) p.0 p.1 in
    ap (λ (l : List ℤ). length l) (sym (Ok-injective p.2))
    ∙ length-flat p.0
    ∙ omega (arith, long, length-texture_pairs corrections, halves (length corrections) even)

-- coordinates of a square
length-square : (step : Step Point (List Bool) Kind) (c : ℤ) (flips : List Bool) (corrections vs : List ℤ) → length corrections % 2 ≡ 0
    → restored_integers step c flips corrections ≡ Ok vs → length vs ≡ length corrections
unfolding restored_integers
length-square step c flips corrections vs even is =
    let p = taken (restored_by step (restored_value c) [] flips (pairs_of corrections)) (λ ps. Ok (integers_of ps)) vs is in
    let long = length-restored_by step (restored_value c) [] flips (pairs_of corrections) p.0 p.1 in
    ap (λ (l : List ℤ). length l) (sym (Ok-injective p.2))
    ∙ length-integers p.0
    ∙ omega (arith, long, length-pairs corrections, halves (length corrections) even)

pub length-squared : (q : SquarePrediction) (w : Option Ordered) (ps : Option Positions) (bits : ℕ) (flips : List Bool) (integers vs : List ℤ) → length integers % 2 ≡ 0
    → squared q w ps bits flips integers ≡ Ok vs → length vs ≡ length integers
unfolding squared
length-squared q w ps bits flips integers vs even is =
    let t = tested (list_all (is_correction (greatest_coordinate bits)) integers) _ _ vs is in
    let same : length (map correction_of integers) ≡ length integers = length-map integers correction_of in
    length-square (square_step q w ps (centre_of bits)) (centre_of bits) flips (map correction_of integers) vs (rw same even) t ∙ same
