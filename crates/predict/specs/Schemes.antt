-- The predictions of attribute values, each by its row of one table (Draco Bitstream Specification 2.2, section "Prediction
-- Decoder"; the words, and since which profile a prediction is read, are this project's choice).
use Rattle.std.specs.Prelude.{◌≡◌, ℕ, ◌==◌, ℤ, true, false, List, [], ◌∷◌, codes, find, Option, Some}
use Rattle.std.specs.Int.{w8, cast_signed}
use Rattle.std.specs.Ordering.{int_eq}
use Rattle.std.specs.Str.{bytes_eq}
use Rattle.predict.specs.declared.schemes.Behind.{Behind}
use Rattle.predict.specs.declared.schemes.Behind.TheVariants as behind
use Rattle.predict.specs.declared.schemes.Facts.{Facts}
use Rattle.predict.specs.declared.schemes.Prediction.{Prediction}
use Rattle.predict.specs.declared.schemes.Prediction.TheVariants as prediction

-- what is known of a prediction
abbrev pub facts : Prediction → Facts
facts prediction.Off = record { byte = 254; corrects = false; needs_surface = false; behind = behind.Nothing; since = 1 }
facts prediction.Difference = record { byte = 0; corrects = true; needs_surface = false; behind = behind.Nothing; since = 1 }
facts prediction.Parallelogram = record { byte = 1; corrects = true; needs_surface = true; behind = behind.Nothing; since = 1 }
facts prediction.Multi = record { byte = 4; corrects = true; needs_surface = true; behind = behind.FlagLists 4; since = 2 }

-- how many lists of flags stand behind the corrections
abbrev pub lists_behind : Behind → ℕ
lists_behind behind.Nothing = 0
lists_behind (behind.FlagLists n) = n

-- how many lists of flags a prediction has
abbrev pub flag_lists : Prediction → ℕ
flag_lists q = lists_behind (facts q).behind

-- its word on the command line
abbrev pub prediction_word : Prediction → List ℕ
prediction_word prediction.Off = codes "none"
prediction_word prediction.Difference = codes "diff"
prediction_word prediction.Parallelogram = codes "para"
prediction_word prediction.Multi = codes "multi"

-- all predictions
abbrev pub predictions : List Prediction
predictions = prediction.Off ∷ prediction.Difference ∷ prediction.Parallelogram ∷ prediction.Multi ∷ []

-- the byte of a prediction in a stream, and its number, which is this byte with a sign
abbrev pub byte_of : Prediction → ℕ
byte_of q = (facts q).byte

abbrev pub code_of : Prediction → ℤ
code_of q = cast_signed w8 (byte_of q)

-- the prediction of a byte, of a number and of a word, where there is one
abbrev pub prediction_of : ℕ → Option Prediction
prediction_of b = find (λ q. byte_of q == b) predictions

abbrev pub prediction_coded : ℤ → Option Prediction
prediction_coded code = find (λ q. int_eq (code_of q) code) predictions

abbrev pub prediction_worded : List ℕ → Option Prediction
prediction_worded word = find (λ q. bytes_eq (prediction_word q) word) predictions

-- each byte, number and word is that of one prediction
pub record PredictionsAreNamed : Type 0 where
  pub bytes : (q : Prediction) → prediction_of (byte_of q) ≡ Some q
  pub numbers : (q : Prediction) → prediction_coded (code_of q) ≡ Some q
  pub words : (q : Prediction) → prediction_worded (prediction_word q) ≡ Some q
