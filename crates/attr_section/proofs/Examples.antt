-- The values of the tests are accepted.
use Rattle.std.proofs.Common.{Bool, true, false, ℤ, List, [], ◌∷◌, ℕ, ◌≡◌, ◌*◌, ◌<◌, length, None, Some, refl, sym, ap, arith, lit<, lit≤}
use Rattle.std.proofs.lemmas.Bool.{false≢true}
use Rattle.std.proofs.lemmas.Int.{ints}
use Rattle.std.proofs.lemmas.List.Elements.{All-nil, All-cons}
use Rattle.attr_heads.specs.Bounds.{in_bounds}
use Rattle.attr_heads.specs.declared.heads.Head.{Head}
use Rattle.predict.specs.Wrap.{CanWrap}
use Rattle.corner_table.specs.Ordered.{Ordered}
use Rattle.predict.specs.declared.schemes.Prediction.TheVariants as prediction
use Rattle.attr_section.specs.declared.values.Values.{Values}
use Rattle.attr_section.specs.Examples.{example_head, texture_head, position_values, texture_values, example_prediction, surface_values, surface_positions, points_head, points, shape_head, shape_positions, shape_values}
use Rattle.attr_section.specs.declared.square_predictions.SquarePrediction.TheVariants as square
use Rattle.std.specs.List.{All}
use Rattle.attr_section.specs.WrittenParts.{range_of, CanPredict}
use Rattle.attr_section.specs.Written.{ValuesPass, DecoderValuesPass, HasEnd}

positions-wrap : CanWrap (range_of position_values)
positions-wrap = record { ordered = omega (arith, ints); narrow = omega (arith, ints) }

texture-wraps : CanWrap (range_of texture_values)
texture-wraps = record { ordered = omega (arith, ints); narrow = omega (arith, ints) }

-- values by difference, and by no prediction, stand anywhere
by_wrap : {comps : ℕ} {values : List ℤ} → CanWrap (range_of values) → CanPredict None comps values prediction.Difference
by_wrap can = record { wrap = λ _. can; stand = record { stand = λ needs. absurd (false≢true needs) } }

by_none : {comps : ℕ} {values : List ℤ} → CanPredict None comps values prediction.Off
by_none = record { wrap = λ corrects. absurd (false≢true corrects); stand = record { stand = λ needs. absurd (false≢true needs) } }

positions-pass : (difference : Bool) → ValuesPass None example_head (record { values = position_values; predict = example_prediction difference; at = 0 })
unfolding in_bounds
positions-pass true = record { comps = lit< tt; some = lit< tt; few = lit≤ tt; whole = refl; bounded = refl; asked = (prediction.Difference, refl, by_wrap positions-wrap) }
positions-pass false = record { comps = lit< tt; some = lit< tt; few = lit≤ tt; whole = refl; bounded = refl; asked = (prediction.Off, refl, by_none) }

texture-passes : (difference : Bool) → ValuesPass None texture_head (record { values = texture_values; predict = example_prediction difference; at = 0 })
unfolding in_bounds
texture-passes true = record { comps = lit< tt; some = lit< tt; few = lit≤ tt; whole = refl; bounded = refl; asked = (prediction.Difference, refl, by_wrap texture-wraps) }
texture-passes false = record { comps = lit< tt; some = lit< tt; few = lit≤ tt; whole = refl; bounded = refl; asked = (prediction.Off, refl, by_none) }

pub values-pass : (difference : Bool) → DecoderValuesPass None (example_head ∷ texture_head ∷ [])
    (record { values = position_values; predict = example_prediction difference; at = 0 } ∷ record { values = texture_values; predict = example_prediction difference; at = 0 } ∷ [])
values-pass difference =
    let positions : Values = record { values = position_values; predict = example_prediction difference; at = 0 } in
    let texture : Values = record { values = texture_values; predict = example_prediction difference; at = 0 } in
    record {
      each_head = refl;
      ends = All-cons (λ (h : Head). HasEnd h h.octa) example_head (texture_head ∷ []) refl
          (All-cons (λ (h : Head). HasEnd h h.octa) texture_head [] (refl, refl, lit≤ tt, lit≤ tt) (All-nil (λ (h : Head). HasEnd h h.octa)));
      each = All-cons (λ (h, v). ValuesPass None h v) (example_head, positions) ((texture_head, texture) ∷ []) (positions-pass difference)
          (All-cons (λ (h, v). ValuesPass None h v) (texture_head, texture) [] (texture-passes difference) (All-nil (λ (h, v). ValuesPass None h v)));
    }

surfaces-wrap : (closed : Bool) → CanWrap (range_of (surface_values closed))
surfaces-wrap true = record { ordered = omega (arith, ints); narrow = omega (arith, ints) }
surfaces-wrap false = record { ordered = omega (arith, ints); narrow = omega (arith, ints) }

-- positions over a surface of four entries
surface-passes : (closed many : Bool) (w : Ordered) → length w.corners ≡ 4 → ValuesPass (Some w) example_head (surface_positions closed many)
unfolding in_bounds
surface-passes true true w four = record { comps = lit< tt; some = lit< tt; few = lit≤ tt; whole = refl; bounded = refl; asked = (prediction.Multi, refl, record { wrap = λ _. surfaces-wrap true; stand = record { stand = λ _. ap (λ n. n * 3) (sym four) } }) }
surface-passes true false w four = record { comps = lit< tt; some = lit< tt; few = lit≤ tt; whole = refl; bounded = refl; asked = (prediction.Parallelogram, refl, record { wrap = λ _. surfaces-wrap true; stand = record { stand = λ _. ap (λ n. n * 3) (sym four) } }) }
surface-passes false true w four = record { comps = lit< tt; some = lit< tt; few = lit≤ tt; whole = refl; bounded = refl; asked = (prediction.Multi, refl, record { wrap = λ _. surfaces-wrap false; stand = record { stand = λ _. ap (λ n. n * 3) (sym four) } }) }
surface-passes false false w four = record { comps = lit< tt; some = lit< tt; few = lit≤ tt; whole = refl; bounded = refl; asked = (prediction.Parallelogram, refl, record { wrap = λ _. surfaces-wrap false; stand = record { stand = λ _. ap (λ n. n * 3) (sym four) } }) }

pub surface-values-pass : (closed many : Bool) (w : Ordered) → length w.corners ≡ 4 → DecoderValuesPass (Some w) (example_head ∷ []) (surface_positions closed many ∷ [])
surface-values-pass closed many w four = record {
  each_head = refl;
  ends = All-cons (λ (h : Head). HasEnd h h.octa) example_head [] refl (All-nil (λ (h : Head). HasEnd h h.octa));
  each = All-cons (λ (h, v). ValuesPass (Some w) h v) (example_head, surface_positions closed many) [] (surface-passes closed many w four) (All-nil (λ (h, v). ValuesPass (Some w) h v));
}

-- octahedral points in a sequential stream
points-pass : (corner : Bool) → ValuesPass None points_head (points corner)
unfolding in_bounds
points-pass true = record { comps = lit< tt; some = lit< tt; few = lit≤ tt; whole = refl; bounded = refl; asked = (square.Normals, refl, record { square = refl; coordinates = refl; points = λ _. tt }) }
points-pass false = record { comps = lit< tt; some = lit< tt; few = lit≤ tt; whole = refl; bounded = refl; asked = (square.Normals, refl, record { square = refl; coordinates = refl; points = λ _. tt }) }

pub points-values-pass : (corner : Bool) → DecoderValuesPass None (points_head ∷ []) (points corner ∷ [])
points-values-pass corner = record {
  each_head = refl;
  ends = All-cons (λ (h : Head). HasEnd h h.octa) points_head [] (refl, refl) (All-nil (λ (h : Head). HasEnd h h.octa));
  each = All-cons (λ (h, v). ValuesPass None h v) (points_head, points corner) [] (points-pass corner) (All-nil (λ (h, v). ValuesPass None h v));
}

-- positions over a surface of four entries, and what is predicted from them
shape-positions-pass : (textured : Bool) (w : Ordered) → length w.corners ≡ 4 → ValuesPass (Some w) example_head (shape_positions textured)
unfolding in_bounds
shape-positions-pass true w four = record {
  comps = lit< tt;
  some = lit< tt;
  few = lit≤ tt;
  whole = refl;
  bounded = refl;
  asked = (prediction.Parallelogram, refl, record { wrap = λ _. record { ordered = omega (arith, ints); narrow = omega (arith, ints) }; stand = record { stand = λ _. ap (λ n. n * 3) (sym four) } });
}
shape-positions-pass false w four = record {
  comps = lit< tt;
  some = lit< tt;
  few = lit≤ tt;
  whole = refl;
  bounded = refl;
  asked = (prediction.Parallelogram, refl, record { wrap = λ _. record { ordered = omega (arith, ints); narrow = omega (arith, ints) }; stand = record { stand = λ _. ap (λ n. n * 3) (sym four) } });
}

shape-passes : (textured : Bool) (w : Ordered) → length w.corners ≡ 4 → All (λ (e : ℕ). e < length w.corners) w.entries → ValuesPass (Some w) (shape_head textured) (shape_values textured)
unfolding in_bounds
shape-passes true w four entries = record {
  comps = lit< tt;
  some = lit< tt;
  few = lit≤ tt;
  whole = refl;
  bounded = refl;
  asked = (prediction.Parallelogram, refl, record { wrap = λ _. record { ordered = omega (arith, ints); narrow = omega (arith, ints) }; stand = record { stand = λ _. ap (λ n. n * 2) (sym four) } });
}
shape-passes false w four entries = record {
  comps = lit< tt;
  some = lit< tt;
  few = lit≤ tt;
  whole = refl;
  bounded = refl;
  asked = (square.Normals, refl, record { square = refl; coordinates = refl; points = λ _. (ap (λ n. n * 2) (sym four), entries) });
}

shape-end : (textured : Bool) → HasEnd (shape_head textured) (shape_head textured).octa
shape-end true = refl
shape-end false = (refl, refl)

pub shape-values-pass : (textured : Bool) (w : Ordered) → length w.corners ≡ 4 → All (λ (e : ℕ). e < length w.corners) w.entries
    → DecoderValuesPass (Some w) (example_head ∷ shape_head textured ∷ []) (shape_positions textured ∷ shape_values textured ∷ [])
shape-values-pass textured w four entries = record {
  each_head = refl;
  ends = All-cons (λ (h : Head). HasEnd h h.octa) example_head (shape_head textured ∷ []) refl
      (All-cons (λ (h : Head). HasEnd h h.octa) (shape_head textured) [] (shape-end textured) (All-nil (λ (h : Head). HasEnd h h.octa)));
  each = All-cons (λ (h, v). ValuesPass (Some w) h v) (example_head, shape_positions textured) ((shape_head textured, shape_values textured) ∷ []) (shape-positions-pass textured w four)
      (All-cons (λ (h, v). ValuesPass (Some w) h v) (shape_head textured, shape_values textured) [] (shape-passes textured w four entries) (All-nil (λ (h, v). ValuesPass (Some w) h v)));
}
