-- Which predictions values are read by.
use Rattle.std.proofs.Common.{◌≡◌, ◌<◌, ◌≤◌, ℕ, ◌+◌, ◌*◌, Bool, true, false, ◌==◌, ℤ, pos, List, is_some, Option, None, Some, Result, Ok, Err, refl, sym, ◌∙◌, ap, inl, inr, arith}
use Rattle.std.specs.Prelude.{if◌then◌else◌, nat_le}
use Rattle.std.specs.List.{list_all}
use Rattle.std.proofs.lemmas.Bool.{leb-true, cases_Bool, cond-true, cond-false, and_parts, false≢true}
use Rattle.std.specs.Int.{w8, cast_signed}
use Rattle.drc_base.specs.declared.faults.Fault.{Fault}
use Rattle.drc_base.specs.Profile.{Profile, profile}
use Rattle.drc_base.specs.Steps.{◌>>=◌}
use Rattle.drc_bits.specs.Reading.{Reading, Item}
use Rattle.drc_bits.specs.Numbers.{number_at}
use Rattle.drc_bits.proofs.Results.{Ok-injective, err≢ok}
use Rattle.attr_heads.specs.declared.heads.Head.{Head}
use Rattle.attr_heads.specs.Bounds.{in_bounds, type_bounds}
use Rattle.corner_table.specs.Ordered.{Ordered}
use Rattle.predict.specs.declared.schemes.Prediction.{Prediction}
use Rattle.predict.specs.declared.schemes.Prediction.TheVariants as prediction
use Rattle.predict.specs.Schemes.{facts, code_of, prediction_of, prediction_coded}
use Rattle.predict.proofs.Named.{by_number}
use Rattle.predict.proofs.Foretold.{surfaces_correct}
use Rattle.attr_section.specs.declared.values.Values.{Values}
use Rattle.attr_section.specs.Values.{tested_prediction, prediction_at, predicted_at}
use Rattle.attr_section.specs.Attributes.{plain_typed_at, textured_typed_at, squared_typed_at, unsquared_typed_at, typed_values_at, values_at}
use Rattle.attr_section.specs.declared.square_predictions.SquarePrediction.{SquarePrediction}
use Rattle.attr_section.specs.declared.square_predictions.SquarePrediction.TheVariants as square
use Rattle.attr_section.specs.Positions.{PositionsRead}
use Rattle.attr_section.specs.Textured.{is_textured, textured_at}
use Rattle.attr_section.specs.Squared.{square_facts, square_prediction_of, is_square_prediction, tested_square_prediction, square_prediction_at, square_predicted_at}
use Rattle.attr_section.specs.ValueLaws.{PredictionsAreAccepted}

-- the first of two parts, and the other behind it
parts : {A B : Type 0} (first : Result A Fault) (next : A → Result B Fault) (y : B) → (first >>= next) ≡ Ok y
    → (x : A) × (first ≡ Ok x) × (next x ≡ Ok y)
parts (Ok x) next y is = (x, refl, is)
parts (Err f) next y is = absurd (err≢ok is)

-- what was read though a test could refuse it
passed : {A : Type 0} (b : Bool) (f : Fault) (r : Result A Fault) (y : A) → (if b then r else Err f) ≡ Ok y → (b ≡ true) × (r ≡ Ok y)
passed true f r y is = (refl, is)
passed false f r y is = absurd (err≢ok is)

-- what the values of an attribute were read from: a prediction that the profile has, and values by it
record Read (p : Profile) (w : Option Ordered) (v : Values) : Type 0 where
  prediction : Prediction
  known : nat_le (facts prediction).since p.number ≡ true
  code : code_of prediction ≡ v.predict
  at : ℕ
  comps : ℕ
  count : ℕ
  from : Reading
  to : List ℤ × Reading
  values : predicted_at at w prediction comps count from ≡ Ok to

-- the profile has the prediction that is read
read_is_known : (p : Profile) (c after : Reading) (q : Option Prediction) (y : Prediction × Reading) → tested_prediction p c q after ≡ Ok y → nat_le (facts y.0).since p.number ≡ true
read_is_known p c after None y is = absurd (err≢ok is)
read_is_known p c after (Some q) y is =
    let t = passed (nat_le (facts q).since p.number) _ _ y is in
    ap (λ (z : Prediction × Reading). nat_le (facts z.0).since p.number) (sym (Ok-injective t.1)) ∙ t.0

plain_read : (p : Profile) (w : Option Ordered) (h : Head) (n : ℕ) (c : Reading) (y : Values × Reading) → plain_typed_at p w h n c ≡ Ok y → Read p w y.0
unfolding plain_typed_at prediction_at
plain_read p w h n c y is =
    let a = parts (prediction_at p c) _ y is in
    let tested : ℕ × Reading → Item Prediction = λ b. tested_prediction p c (prediction_of b.0) b.1 in
    let b = parts (number_at 1 c) tested a.0 a.1 in
    let v = parts (predicted_at c.place w a.0.0 h.comps n a.0.1) _ y a.2 in
    let l = passed (list_all (in_bounds (type_bounds h.dtype)) v.0.0) _ _ y v.2 in
    record {
      prediction = a.0.0;
      known = read_is_known p c b.0.1 (prediction_of b.0.0) a.0 b.2;
      code = ap (λ (z : Values × Reading). z.0.predict) (Ok-injective l.1);
      at = c.place;
      comps = h.comps;
      count = n;
      from = a.0.1;
      to = v.0;
      values = v.1;
    }

-- octahedral values have a prediction that they can have
square_read : (p : Profile) (w : Option Ordered) (found : PositionsRead) (n : ℕ) (c : Reading) (y : Values × Reading) → squared_typed_at p w found n c ≡ Ok y
    → (q : SquarePrediction) × (cast_signed w8 (square_facts q).byte ≡ y.0.predict) × (is_square_prediction p w q ≡ true)
unfolding squared_typed_at square_prediction_at
square_read p w found n c y is =
    let a = parts (square_prediction_at p w c) _ y is in
    let tested : ℕ × Reading → Item SquarePrediction = λ b. tested_square_prediction p w c (square_prediction_of b.0) b.1 in
    let b = parts (number_at 1 c) tested a.0 a.1 in
    let v = parts (square_predicted_at c.place a.0.0 w found n a.0.1) _ y a.2 in
    (a.0.0, ap (λ (z : Values × Reading). z.0.predict) (Ok-injective v.2), square_tested p w c b.0.1 (square_prediction_of b.0.0) a.0 b.2)
  where
    square_tested : (p : Profile) (w : Option Ordered) (c after : Reading) (q : Option SquarePrediction) (y : SquarePrediction × Reading)
        → tested_square_prediction p w c q after ≡ Ok y → is_square_prediction p w y.0 ≡ true
    square_tested p w c after None y is = absurd (err≢ok is)
    square_tested p w c after (Some q) y is =
        let t = passed (is_square_prediction p w q) _ _ y is in
        ap (λ (z : SquarePrediction × Reading). is_square_prediction p w z.0) (sym (Ok-injective t.1)) ∙ t.0

-- texture coordinates from positions have the number of that prediction
texture_read : (w : Option Ordered) (found : PositionsRead) (h : Head) (n : ℕ) (c : Reading) (y : Values × Reading) → textured_typed_at w found h n c ≡ Ok y
    → y.0.predict ≡ pos 5
unfolding textured_typed_at
texture_read w found h n c y is =
    let v = parts (textured_at w found n c) _ y is in
    let l = passed (list_all (in_bounds (type_bounds h.dtype)) v.0.0) _ _ y v.2 in
    sym (ap (λ (z : Values × Reading). z.0.predict) (Ok-injective l.1))

-- what values were read as: octahedral ones, texture coordinates from positions over a surface, or those of a prediction of components
data WasRead (p : Profile) (w : Option Ordered) (v : Values) : Type 0 where
  octahedral : (q : SquarePrediction) → cast_signed w8 (square_facts q).byte ≡ v.predict → is_square_prediction p w q ≡ true → WasRead p w v
  from_positions : v.predict ≡ pos 5 → is_some w ≡ true → WasRead p w v
  by_components : Read p w v → WasRead p w v

was_typed : (p : Profile) (w : Option Ordered) (found : PositionsRead) (h : Head) (n : ℕ) (c : Reading) (y : Values × Reading)
    → typed_values_at p w found h n c ≡ Ok y → WasRead p w y.0
unfolding typed_values_at
was_typed p w found h n c y is = elim (cases_Bool (is_some h.octa)) [
  | inl square ↦ (let s = square_read p w found n c y (sym (cond-true _ _ _ square) ∙ is) in WasRead.octahedral s.0 s.1 s.2)
  | inr none ↦ unsquared (sym (cond-false _ _ _ none) ∙ is)
]
  where
    unsquared : unsquared_typed_at p w found h n c ≡ Ok y → WasRead p w y.0
    unsquared is = elim (cases_Bool (is_textured p w h.comps c)) [
      | inl textured ↦ (let a = and_parts (nat_le 3 p.number) _ textured in let b = and_parts (h.comps == 2) _ a.1 in let d = and_parts (is_some w) _ b.1 in
          WasRead.from_positions (texture_read w found h n c y (sym (cond-true _ _ _ textured) ∙ is)) d.0)
      | inr other ↦ WasRead.by_components (plain_read p w h n c y (sym (cond-false _ _ _ other) ∙ is))
    ]

was_read : (p : Profile) (w : Option Ordered) (found : PositionsRead) (h : Head) (entries spent : ℕ) (c : Reading) (y : Values × Reading)
    → values_at p w found h entries spent c ≡ Ok y → WasRead p w y.0
unfolding values_at
was_read p w found h entries spent c y is =
    let t = passed (nat_le (spent + entries * h.comps) p.values) _ _ y is in
    was_typed p w found h (entries * h.comps) c y t.1

-- what was read without a walk needs no surface
without_order : (q : Prediction) (at comps n : ℕ) (c : Reading) (y : List ℤ × Reading) → predicted_at at None q comps n c ≡ Ok y
    → (facts q).needs_surface ≡ false
unfolding predicted_at
without_order q at comps n c y is = elim (cases_Bool (facts q).corrects) [
  | inl corrects ↦ elim (cases_Bool (facts q).needs_surface) [
    | inl needs ↦ absurd (err≢ok (rw (corrects, needs) at is))
    | inr none ↦ none
  ]
  | inr none ↦ surfaces_correct q none
]

-- predictions of one number are one
pub same_code : (q r : Prediction) → code_of q ≡ code_of r → q ≡ r
same_code q r is = Some-injective (sym (by_number q) ∙ ap prediction_coded is ∙ by_number r)
  where
    Some-injective : {x y : Prediction} → ◌≡◌ {A = Option Prediction} (Some x) (Some y) → x ≡ y
    Some-injective is = cc

-- a prediction that came later than the profile isn't the one that the profile has
not_later : (p : Profile) (q r : Prediction) → p.number < (facts q).since → nat_le (facts r).since p.number ≡ true → ¬ (code_of r ≡ code_of q)
not_later p q r later known is =
    let early : (facts r).since ≤ p.number = leb-true (facts r).since p.number known in
    let same : (facts r).since ≡ (facts q).since = ap (λ (x : Prediction). (facts x).since) (same_code r q is) in
    omega arith

-- decoding answers by a profile that has each prediction
pub is_known : (q : Prediction) → nat_le (facts q).since profile.number ≡ true
is_known prediction.Off = refl
is_known _ = refl

-- without a surface octahedral values have a prediction of components that needs none
square_plain : (p : Profile) (v : Values) (q : SquarePrediction) → cast_signed w8 (square_facts q).byte ≡ v.predict → is_square_prediction p None q ≡ true
    → (r : Prediction) × (v.predict ≡ code_of r) × ((facts r).needs_surface ≡ false)
square_plain p v square.Off is there = (prediction.Off, sym is, refl)
square_plain p v square.Difference is there = (prediction.Difference, sym is, refl)
square_plain p v square.Normals is there = let t = and_parts (nat_le 3 p.number) _ there in absurd (false≢true t.1)

without_surface : (p : Profile) (v : Values) → WasRead p None v → (q : Prediction) × (v.predict ≡ code_of q) × ((facts q).needs_surface ≡ false)
without_surface p v (WasRead.octahedral q is there) = square_plain p v q is there
without_surface p v (WasRead.from_positions is there) = absurd (false≢true there)
without_surface p v (WasRead.by_components r) = (r.prediction, sym r.code, without_order r.prediction r.at r.comps r.count r.from r.to r.values)

-- each prediction of components came with profile 1 or 2, and its number isn't 5
came_early : (q : Prediction) → (facts q).since ≤ 2
came_early prediction.Off = omega arith
came_early prediction.Difference = omega arith
came_early prediction.Parallelogram = omega arith
came_early prediction.Multi = omega arith

not_texture : (q : Prediction) → ¬ (pos 5 ≡ code_of q)
not_texture prediction.Off e = cc
not_texture prediction.Difference e = cc
not_texture prediction.Parallelogram e = cc
not_texture prediction.Multi e = cc

square_since : (q : SquarePrediction) → (square_facts q).since ≡ 3
square_since square.Off = refl
square_since square.Difference = refl
square_since square.Normals = refl

nowhere : (p : Profile) (w : Option Ordered) (v : Values) (q : Prediction) → p.number < (facts q).since → WasRead p w v → ¬ (v.predict ≡ code_of q)
nowhere p w v q came (WasRead.octahedral r is there) at =
    let known = leb-true (square_facts r).since p.number (and_parts (nat_le (square_facts r).since p.number) _ there).0 in
    omega (arith, known, square_since r, came, came_early q)
nowhere p w v q came (WasRead.from_positions is there) at = not_texture q (sym is ∙ at)
nowhere p w v q came (WasRead.by_components r) at = not_later p q r.prediction came r.known (r.code ∙ at)

pub accepted : PredictionsAreAccepted
accepted = record {
  sequential = λ p found h entries spent c y is. without_surface p y.0 (was_read p None found h entries spent c y is);
  later = λ p w found h entries spent c y q came is. nowhere p w y.0 q came (was_read p w found h entries spent c y is);
}
