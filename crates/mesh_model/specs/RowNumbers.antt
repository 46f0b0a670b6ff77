-- The first row that equals each row, found column by column (this project's choice).
use Rattle.std.specs.Prelude.{ℕ, ◌≡◌, ◌<◌, ◌≤◌, ◌+◌, cond, eqb, [], ℤ, pos, List, length, take, get_or}
use Rattle.std.specs.Int.{w32, cast_signed, cast_unsigned}

-- integer j of the first `count` rows, by its bits
pub record IsColumn (rows : List (List ℤ)) (j : ℕ) (bits : List ℕ) (count : ℕ) : Type 0 where
  pub each : length bits ≡ count
  pub bits_are : (p : ℕ) → p < count → get_or bits p 0 ≡ cast_unsigned w32 (get_or (get_or rows p []) j (pos 0))
  pub values_are : (p : ℕ) → p < count → cast_signed w32 (get_or bits p 0) ≡ get_or (get_or rows p []) j (pos 0)

-- row v is the first one with the first `columns` integers of row p
pub record IsFirstRow (rows : List (List ℤ)) (columns p v : ℕ) : Type 0 where
  pub no_later : v ≤ p
  pub same : take columns (get_or rows v []) ≡ take columns (get_or rows p [])
  pub none_before : (z : ℕ) → z < v → take columns (get_or rows z []) ≡ take columns (get_or rows p []) → ⊥

-- each of the first `count` rows has the number of the first one with its first `columns` integers
pub record AreFirstRows (rows : List (List ℤ)) (columns count : ℕ) (numbers : List ℕ) : Type 0 where
  pub each : length numbers ≡ count
  pub first_is : (p : ℕ) → p < count → IsFirstRow rows columns p (get_or numbers p 0)

-- the link of row p, by the number of the first row that equals it: none where this is row p itself
abbrev pub first_link : ℕ → ℕ → ℕ
first_link p first = cond (eqb first p) 0 (first + 1)
