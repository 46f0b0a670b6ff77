-- Each row of the table is found by its byte, its number and its word; a clause for one of them, and one for the others.
use Rattle.std.proofs.Common.{◌≡◌, ℕ, ◌^◌, ◌<◌, ◌==◌, Bool, ℤ, FitsSigned, List, [], ◌∷◌, cond, find, Some, refl, sym, ◌∙◌, ap, lit<}
use Rattle.std.specs.Int.{w8, cast_signed, cast_unsigned}
use Rattle.std.specs.Ordering.{int_eq}
use Rattle.std.proofs.lemmas.Int.{of_z-to_z, to_z-of_z}
use Rattle.std.proofs.lemmas.Bool.Decides.{same_from_decides, Decides-eqb, Decides-int_eq, Decides-like}
use Rattle.predict.specs.declared.schemes.Prediction.{Prediction}
use Rattle.predict.specs.declared.schemes.Prediction.TheVariants as prediction
use Rattle.predict.specs.Schemes.{predictions, byte_of, code_of, prediction_word, prediction_of, prediction_coded, prediction_worded, PredictionsAreNamed}

pub by_byte : (q : Prediction) → prediction_of (byte_of q) ≡ Some q
by_byte prediction.Off = refl
by_byte _ = refl

pub by_number : (q : Prediction) → prediction_coded (code_of q) ≡ Some q
by_number prediction.Off = refl
by_number _ = refl

by_word : (q : Prediction) → prediction_worded (prediction_word q) ≡ Some q
by_word prediction.Off = refl
by_word _ = refl

pub named : PredictionsAreNamed
named = record { bytes = by_byte; numbers = by_number; words = by_word }

-- a byte is that of a number exactly where the number is that of the byte
same_test : (n : ℕ) (z : ℤ) → n < 2 ^ 8 → FitsSigned w8 z → (n == cast_unsigned w8 z) ≡ int_eq (cast_signed w8 n) z
same_test n z low fits =
    same_from_decides (n == cast_unsigned w8 z) (int_eq (cast_signed w8 n) z)
    (Decides-like (n == cast_unsigned w8 z)
    (λ (is : n ≡ cast_unsigned w8 z). ap (cast_signed w8) is ∙ to_z-of_z w8 z fits)
    (λ (is : cast_signed w8 n ≡ z). sym (of_z-to_z w8 n low) ∙ ap (cast_unsigned w8) is)
    (Decides-eqb n (cast_unsigned w8 z)))
    (Decides-int_eq (cast_signed w8 n) z)

-- two tests that answer alike find one item
find_same : {A : Type 0} (p q : A → Bool) (xs : List A) → ((x : A) → p x ≡ q x) → find p xs ≡ find q xs
find_same p q [] same = refl
find_same {A} p q (x ∷ xs) same =
    ap (λ b. cond b (Some x) (find p xs)) (same x) ∙ ap (λ o. cond (q x) (Some x) o) (find_same p q xs same)

-- a byte has eight bits
byte_low : (q : Prediction) → byte_of q < 2 ^ 8
byte_low prediction.Off = lit< tt
byte_low _ = lit< tt

-- the prediction of a number is that of its byte
pub coded_by_byte : (code : ℤ) → FitsSigned w8 code → prediction_of (cast_unsigned w8 code) ≡ prediction_coded code
coded_by_byte code fits =
    find_same (λ q. byte_of q == cast_unsigned w8 code) (λ q. int_eq (code_of q) code) predictions
    (λ q. same_test (byte_of q) code (byte_low q) fits)
