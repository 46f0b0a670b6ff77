-- Digits and numbers at a place of a line.
use Rattle.std.specs.Prelude.{ℕ, ℤ, ◌≡◌, ◌-◌, ◌<◌, ◌≤◌, true, false, List, length, take, drop, Some, slice_index}
use Rattle.std.specs.List.{list_all}
use Rattle.ply_text.specs.Tokens.{is_blank, tokens_of}
use Rattle.ply_text.specs.Numbers.{is_digit, digits_value, natural_of, first_integer}

-- from i to j there are digits alone, and they write n
pub record AreDigits (line : List ℕ) (i j n : ℕ) : Type 0 where
  pub digits : list_all is_digit (take (j - i) (drop i line)) ≡ true
  pub value : digits_value (take (j - i) (drop i line)) ≡ n

-- from i to j there is no blank, and a blank or the end of the line is at j
pub record IsPiece (line : List ℕ) (i j : ℕ) : Type 0 where
  pub after : i ≤ j
  pub within : j ≤ length line
  pub solid : (k : ℕ) → i ≤ k → k < j → is_blank (slice_index line k) ≡ false
  pub stops : j < length line → is_blank (slice_index line j) ≡ true

-- what is from i up to a blank or the end of the line is no number, or one past most
pub record HasNoNumber (line : List ℕ) (i most : ℕ) : Type 0 where
  pub past : (j n : ℕ) → IsPiece line i j → natural_of (take (j - i) (drop i line)) ≡ Some n → most < n

-- v is written from i to j of a text, whatever line this begins: where the line ends at j, or goes on with a
-- blank there, v is the number of its first token from i on, and the other tokens stand from j on. No byte of
-- it is a blank, an LF or a CR
pub record IsNumberAt (text : List ℕ) (i j : ℕ) (v : ℤ) : Type 0 where
  pub after : i < j
  pub within : j ≤ length text
  pub reads : (e : ℕ) → j ≤ e → e ≤ length text → (j < e → is_blank (slice_index text j) ≡ true) →
      first_integer (tokens_of (drop i (take e text))) ≡ Some (v, tokens_of (drop j (take e text)))
  pub plain : (k : ℕ) → i ≤ k → k < j → 45 ≤ slice_index text k
