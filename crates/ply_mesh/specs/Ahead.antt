-- Lines that are read from the rest of a text.
use Rattle.std.specs.Prelude.{ℕ, ◌≡◌, ◌+◌, ◌<◌, ℤ, List, ◌∷◌, length, take, drop, Ok}
use Rattle.std.specs.Str.Lines.{lines}
use Rattle.ply_text.specs.Tokens.{tokens_of}
use Rattle.attr_heads.specs.declared.bounds.Bounds.{Bounds}
use Rattle.ply_mesh.specs.Body.{numbers_of, row_read, face_of, Appends, AppendsSome}

-- the first line of a text ends before an LF at `end`
pub record IsFirstLine (text : List ℕ) (end : ℕ) : Type 0 where
  pub within : end < length text
  pub cut : lines text ≡ take end text ∷ lines (drop (end + 1) text)

-- the first line is a point, whose numbers were appended
pub record IsRowAhead (columns : List Bounds) (text : List ℕ) (end : ℕ) (old new : List ℤ) : Type 0 where
  pub line : IsFirstLine text end
  pub row : AppendsSome (numbers_of columns (tokens_of (take end text))) old new

-- the first line is a face
pub record IsFaceAhead (list : ℕ × ℕ) (points : ℕ) (text : List ℕ) (end : ℕ) (face : List ℕ) : Type 0 where
  pub line : IsFirstLine text end
  pub face_is : (at : ℕ) → face_of list points at (tokens_of (take end text)) ≡ Ok face

-- the first line was taken off, and its numbers, those of a point, were appended
abbrev pub TakesRow : List Bounds → ℕ → List (List ℕ) → List (List ℕ) → List ℤ → List ℤ → Type 0
TakesRow columns at before after old new =
    (line : List ℕ) × (before ≡ line ∷ after) × Appends (row_read columns at (tokens_of line)) old new

-- the first line, which is a face, was taken off
abbrev pub TakesFace : ℕ × ℕ → ℕ → ℕ → List (List ℕ) → List (List ℕ) → List ℕ → Type 0
TakesFace list points at before after face =
    (line : List ℕ) × (before ≡ line ∷ after) × (face_of list points at (tokens_of line) ≡ Ok face)
