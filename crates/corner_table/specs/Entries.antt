-- A list of entries that grows (this project's own).
use Rattle.std.specs.Prelude.{ℕ, List, [], ◌∷◌, ◌++◌}

-- the entries, and how many there is room for
pub record EntryList : Type 0 where
  pub items : List ℕ
  pub room : ℕ

-- the list with the entries of a face more
abbrev pub with_three : List ℕ → ℕ → ℕ → ℕ → List ℕ
with_three items a b d = items ++ (a ∷ b ∷ d ∷ [])
