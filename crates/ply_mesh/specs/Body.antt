-- The rows and faces of a PLY text (PLY 1.0, in this project's profile).
use Rattle.std.specs.Prelude.{ℕ, ◌≡◌, zero, suc, ◌+◌, ◌++◌, List, [], ◌∷◌, length, map, Option, None, Some, option_and_then, ℤ}
use Rattle.std.specs.Prelude.{pos, negsuc, Result, Ok, nat_lt, replicate, ◌==◌, if◌then◌else◌}
use Rattle.std.specs.Borrow.{Bor}
use Rattle.std.specs.Ordering.{int_eq}
use Rattle.drc_base.specs.declared.faults.Fault.{Fault}
use Rattle.drc_base.specs.declared.kinds.Kind.TheVariants.{PlyRow, PlyNumber, PlyFace, PlyIndex, PlyShort, PlyRest}
use Rattle.drc_base.specs.Steps.{◌>>=◌}
use Rattle.attr_heads.specs.declared.bounds.Bounds.{Bounds}
use Rattle.attr_heads.specs.Bounds.{in_bounds, type_bounds}
use Rattle.mesh_model.specs.Parts.{cells_of}
use Rattle.ply_text.specs.Faults.{refuse, or_refuse}
use Rattle.ply_text.specs.Numbers.{integer_of, only_if}

-- the number of a token, if it lies within bounds
unfoldable pub token_number : Bounds → List ℕ → Option ℤ
token_number bounds token = only_if (in_bounds bounds) (integer_of token)

-- the numbers of tokens, one for each column, which has these bounds
abbrev pub numbers_of : List Bounds → List (List ℕ) → Option (List ℤ)
numbers_of [] [] = Some []
numbers_of [] (token ∷ tokens) = None
numbers_of (bounds ∷ columns) [] = None
numbers_of (bounds ∷ columns) (token ∷ tokens) =
    option_and_then (λ first. option_and_then (λ others. Some (first ∷ others)) (numbers_of columns tokens)) (token_number bounds token)

-- a point: one number for each column
unfoldable pub row_read : List Bounds → ℕ → List (List ℕ) → Result (List ℤ) Fault
row_read columns at tokens =
    if length tokens == length columns then or_refuse PlyNumber at (numbers_of columns tokens) else refuse PlyRow at

-- the number of a point
abbrev pub point_numbered : ℕ → ℤ → Option ℕ
point_numbered points (pos n) = if nat_lt n points then Some n else None
point_numbered points (negsuc n) = None

-- the numbers of points, each below their number
abbrev pub points_numbered : ℕ → List ℤ → Option (List ℕ)
points_numbered points [] = Some []
points_numbered points (v ∷ vs) =
    option_and_then (λ first. option_and_then (λ others. Some (first ∷ others)) (points_numbered points vs)) (point_numbered points v)

-- the three points of a face, behind its count
unfoldable pub indices_of : ℕ → ℕ → ℕ → List (List ℕ) → Result (List ℕ) Fault
indices_of itype points at tokens =
    if length tokens == 3
    then (or_refuse PlyNumber at (numbers_of (replicate 3 (type_bounds itype)) tokens)
    >>= λ values. or_refuse PlyIndex at (points_numbered points values))
    else refuse PlyRow at

-- the count of a face, which is 3
abbrev pub face_count_read : ℕ → ℕ → List ℕ → Result ℤ Fault
face_count_read ctype at token = do
  n ← or_refuse PlyNumber at (token_number (type_bounds ctype) token)
  if int_eq n (pos 3) then Ok n else refuse PlyFace at

-- a face behind its count
abbrev pub counted_face : ℕ × ℕ → ℕ → ℕ → List ℕ → List (List ℕ) → Result (List ℕ) Fault
counted_face list points at count tokens = face_count_read list.0 at count >>= λ _. indices_of list.1 points at tokens

-- a face: its count, and then its points
unfoldable pub face_of : ℕ × ℕ → ℕ → ℕ → List (List ℕ) → Result (List ℕ) Fault
face_of list points at [] = refuse PlyRow at
face_of list points at (count ∷ tokens) = counted_face list points at count tokens

-- a number of lines in a row, each an item, from line number `at` on; and the lines after them
abbrev pub items_from : {A : Type 0} → (ℕ → List (List ℕ) → Result A Fault) → ℕ → ℕ → List (List (List ℕ)) →
    Result (List A × List (List (List ℕ))) Fault
items_from item zero at lines = Ok ([], lines)
items_from item (suc n) at [] = refuse PlyShort at
items_from item (suc n) at (line ∷ lines) = do
  first ← item at line
  others ← items_from item n (at + 1) lines
  Ok (first ∷ others.0, others.1)

-- nothing but lines without tokens
abbrev pub ends : {A : Type 0} → A → ℕ → List (List (List ℕ)) → Result A Fault
ends x at [] = Ok x
ends x at ([] ∷ lines) = ends x (at + 1) lines
ends x at ((token ∷ tokens) ∷ lines) = refuse PlyRest at

-- the values that are due were appended to a list
abbrev pub Appends : Result (List ℤ) Fault → List ℤ → List ℤ → Type 0
Appends due old new = (row : List ℤ) × (due ≡ Ok row) × (new ≡ old ++ row)

-- the values that are due, if there are any, were appended to a list
abbrev pub AppendsSome : Option (List ℤ) → List ℤ → List ℤ → Type 0
AppendsSome due old new = (row : List ℤ) × (due ≡ Some row) × (new ≡ old ++ row)

-- tokens without where they lie
abbrev pub texts : List (Bor (List ℕ)) → List (List ℕ)
texts found = map (λ t. t.now) found

-- the rows that are due, and the lines after them, are these numbers, row after row, and these lines
abbrev pub AreRowsRead : Result (List (List ℤ) × List (List (List ℕ))) Fault → List ℤ → List (List (List ℕ)) → Type 0
AreRowsRead due cells rest = (rows : List (List ℤ)) × (due ≡ Ok (rows, rest)) × (cells ≡ cells_of rows)
