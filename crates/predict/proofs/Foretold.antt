-- What holds of each row of the table, and of the flags that are written with values.
use Rattle.std.proofs.Common.{◌≡◌, ℕ, zero, suc, ◌+◌, ◌*◌, ◌<◌, ◌≤◌, Bool, true, false, ℤ, List, [], length, get_or, None, inl, inr, refl, sym, ◌∙◌, ap, arith}
use Rattle.std.proofs.Math.Nat.{mul-suc}
use Rattle.std.proofs.lemmas.Bool.{cases_eq}
use Rattle.std.proofs.lemmas.List.{ext_get_or}
use Rattle.predict.specs.declared.schemes.Prediction.{Prediction}
use Rattle.predict.specs.declared.schemes.Prediction.TheVariants as prediction
use Rattle.predict.specs.Schemes.{facts, flag_lists}
use Rattle.corner_table.specs.Ordered.{Ordered}
use Rattle.predict.specs.Surfaces.{surface_or}
use Rattle.predict.specs.Gathered.{gathered}
use Rattle.predict.specs.Multi.{wanted, marked, AreMarked, flag_lists_of}
use Rattle.predict.specs.Foretold.{marks_of, wanted_of, HasWanted}
use Rattle.predict.proofs.Kept.{wanted_here, wanted_there, wanted_none, length-marked}

-- list k of those that are written
list_at : (w : Ordered) (comps : ℕ) (v : List ℤ) (k : ℕ) → k < 4 → get_or (flag_lists_of w comps v) k [] ≡ marked w comps v (suc k) (length w.corners)
list_at w comps v zero low = refl
list_at w comps v (suc zero) low = refl
list_at w comps v (suc (suc zero)) low = refl
list_at w comps v (suc (suc (suc zero))) low = refl
list_at w comps v (suc (suc (suc (suc k)))) low = absurd (omega arith)

-- lists that are marked are those that are written
pub lists_are : (w : Ordered) (comps : ℕ) (v : List ℤ) (lists : List (List Bool)) → length lists ≡ 4 → AreMarked w comps v lists (length w.corners) → lists ≡ flag_lists_of w comps v
lists_are w comps v lists four marked_lists = ext_get_or [] lists (flag_lists_of w comps v) four
    (λ k low. let below : k < 4 = omega (arith, four) in marked_lists k below ∙ sym (list_at w comps v k below))

-- as many lists are written as the prediction has
pub length-marks : (q : Prediction) (w : Ordered) (comps : ℕ) (v : List ℤ) → length (marks_of q w comps v) ≡ flag_lists q
length-marks prediction.Multi w comps v = refl
length-marks _ w comps v = refl

-- each with as many flags as are wanted
pub length-mark : (q : Prediction) (w : Ordered) (comps : ℕ) (v : List ℤ) (k : ℕ) → k < flag_lists q → length (get_or (marks_of q w comps v) k []) ≡ wanted_of q w k
length-mark prediction.Multi w comps v k low = ap (λ (l : List Bool). length l) (list_at w comps v k low) ∙ length-marked w comps v (suc k) (length w.corners)
length-mark _ w comps v k low = absurd (omega (arith, low))

pub marks_enough : (q : Prediction) (w : Ordered) (comps : ℕ) (v : List ℤ) → HasWanted q w (marks_of q w comps v)
marks_enough q w comps v = λ k low. let same = length-mark q w comps v k low in omega (arith, same)

-- so many flags are wanted at most
wanted_by : (w : Ordered) (k n : ℕ) → wanted w k n ≤ k * n
wanted_by w k zero = let none = wanted_none w k in omega arith
wanted_by w k (suc n) =
    let before = wanted_by w k n in
    let more : k * suc n ≡ k * n + k = mul-suc k n in
    elim (cases_eq (length (gathered w n)) k) [
      | inl is ↦ let next = wanted_here w k n is in omega arith
      | inr other ↦ let next = wanted_there w k n other in omega arith
    ]

at_most_four : (k n : ℕ) → k ≤ 4 → k * n ≤ 4 * n
at_most_four k n few = grind arith

pub wanted_most : (q : Prediction) (w : Ordered) (k : ℕ) → k < flag_lists q → wanted_of q w k ≤ 4 * length w.corners
wanted_most prediction.Multi w k low =
    let most = wanted_by w (suc k) (length w.corners) in
    let product = at_most_four (suc k) (length w.corners) low in
    omega arith
wanted_most _ w k low = omega arith

-- what holds of the flags of each number of faces holds of each prediction's
pub wanted_in : (faces : ℕ) (q : Prediction) (w : Ordered) → ((k : ℕ) → wanted w k (length w.corners) ≤ 3 * faces) → (k : ℕ) → wanted_of q w k ≤ 3 * faces
wanted_in faces prediction.Multi w few k = few (suc k)
wanted_in faces _ w few k = omega arith

-- none are wanted where there is no surface
pub wanted_nowhere : (q : Prediction) (k : ℕ) → wanted_of q (surface_or None) k ≡ 0
wanted_nowhere prediction.Multi k = wanted_none (surface_or None) (suc k)
wanted_nowhere _ k = refl

-- a prediction with flags needs a surface
pub flags_stand : (q : Prediction) → 0 < flag_lists q → (facts q).needs_surface ≡ true
flags_stand prediction.Multi some = refl
flags_stand _ some = absurd (omega (arith, some))

-- one that needs a surface corrects
pub surfaces_correct : (q : Prediction) → (facts q).corrects ≡ false → (facts q).needs_surface ≡ false
surfaces_correct prediction.Off none = cc
surfaces_correct _ none = cc
