-- Constrained multi-parallelogram prediction (Draco Bitstream Specification 2.2, section "Mesh Constrained Multi Parallelogram
-- Prediction"): the mean of those parallelograms round an entry that its flags keep. Which flags are written is this project's choice.
use Rattle.std.specs.Prelude.{◌≡◌, ℕ, zero, suc, ◌+◌, ◌-◌, ◌/◌, ◌%◌, ◌<◌, ◌≤◌, nat_eq, nat_lt, ℤ, pos, ◌+ℤ◌, ◌-ℤ◌, int_div}
use Rattle.std.specs.Prelude.{unsigned_abs, Bool, cond, List, [], ◌∷◌, ◌++◌, length, map, take, drop, get_or, fold}
use Rattle.std.specs.Int.{w32, int_wrap}
use Rattle.corner_table.specs.declared.corner_lists.FaceAcross.{FaceAcross}
use Rattle.predict.specs.Restored.{entry_before}
use Rattle.corner_table.specs.Ordered.{Ordered}
use Rattle.predict.specs.Parallelogram.{component, fourth}
use Rattle.predict.specs.Gathered.{gathered}

-- the sum of what the parallelograms give, as a whole number
abbrev pub total : ℕ → List FaceAcross → ℕ → List ℤ → ℤ
total comps faces j before = fold ◌+ℤ◌ (pos 0) (map (λ t. fourth comps t j before) faces)

-- component j from several parallelograms: their sum to 32 bits, divided by their number toward zero; from the entry before, where there
-- is none
abbrev pub by_many : ℕ → List FaceAcross → ℕ → List ℤ → ℤ
by_many comps [] j before = entry_before comps before
by_many comps (t ∷ faces) j before = int_div (int_wrap w32 (total comps (t ∷ faces) j before)) (pos (suc (length faces)))

-- the faces that flags keep: a flag that is set leaves its face out
abbrev pub kept : List Bool → List FaceAcross → List FaceAcross
kept [] faces = []
kept (f ∷ flags) [] = []
kept (f ∷ flags) (t ∷ faces) = cond f (kept flags faces) (t ∷ kept flags faces)

-- how many flags the entries before e need of those that gather k faces: one for each face
unfoldable pub wanted : Ordered → ℕ → ℕ → ℕ
wanted w k zero = 0
wanted w k (suc e) = wanted w k e + cond (nat_eq (length (gathered w e)) k) k 0

-- the flags of entry e: the next ones in the list of its number of faces, which is list k - 1 for k faces
abbrev pub flags_for : Ordered → List (List Bool) → ℕ → List Bool
flags_for w lists e = let k = length (gathered w e) in take k (drop (wanted w k e) (get_or lists (k - 1) []))

-- the prediction with these four lists of flags, from the values before
unfoldable pub multi : Ordered → ℕ → List (List Bool) → List ℤ → ℤ
multi w comps lists before =
    let e = length before / comps in
    by_many comps (kept (flags_for w lists e) (gathered w e)) (length before % comps) before

-- each list has the flags that are needed of it
abbrev pub HasFlags : Ordered → List (List Bool) → Type 0
HasFlags w lists = (k : ℕ) → k < 4 → wanted w (suc k) (length w.corners) ≤ length (get_or lists k [])

-- a list has fewer flags than are needed of it
abbrev pub LacksFlags : Ordered → List (List Bool) → Type 0
LacksFlags w lists = (k : ℕ) × (k < 4) × (length (get_or lists k []) < wanted w (suc k) (length w.corners))

-- how far a prediction p of n components is off the values x, in sum
unfoldable pub off_by : (ℕ → ℤ) → (ℕ → ℤ) → ℕ → ℕ
off_by p x zero = 0
off_by p x (suc n) = off_by p x n + unsigned_abs (p n -ℤ x n)

-- whether entry e is nearer to the entry before than to a parallelogram
abbrev pub is_left_out : ℕ → List ℤ → ℕ → FaceAcross → Bool
is_left_out comps v e t =
    nat_lt (off_by (component comps v (e - 1)) (component comps v e) comps) (off_by (λ j. fourth comps t j v) (component comps v e) comps)

-- the flags that are written for entry e
abbrev pub marks : Ordered → ℕ → List ℤ → ℕ → List Bool
marks w comps v e = map (is_left_out comps v e) (gathered w e)

-- the flags that are written for those of the entries before e that gather k faces
unfoldable pub marked : Ordered → ℕ → List ℤ → ℕ → ℕ → List Bool
marked w comps v k zero = []
marked w comps v k (suc e) = marked w comps v k e ++ cond (nat_eq (length (gathered w e)) k) (marks w comps v e) []

-- the four lists of flags that are written
abbrev pub AreMarked : Ordered → ℕ → List ℤ → List (List Bool) → ℕ → Type 0
AreMarked w comps v lists e = (k : ℕ) → k < 4 → get_or lists k [] ≡ marked w comps v (suc k) e

-- the four lists of flags that are written over a surface: those of entries with one parallelogram, with two, three and four
abbrev pub flag_lists_of : Ordered → ℕ → List ℤ → List (List Bool)
flag_lists_of w comps values = map (λ k. marked w comps values (suc k) (length w.corners)) (0 ∷ 1 ∷ 2 ∷ 3 ∷ [])
