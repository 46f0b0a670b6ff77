-- Rows and faces that are written are read again.
use Rattle.std.proofs.Common.{◌≡◌, ℕ, zero, suc, ◌+◌, ◌<◌, ◌≤◌, ◌^◌, true, cond, leb, List, [], ◌∷◌, ◌++◌, length, get_or, map, Option, Some, None, Result, Ok, refl, sym, ap, ◌∙◌, ◌≤ℤ◌, arith}
use Rattle.std.specs.Prelude.{ℤ, pos, negsuc, int_le, replicate}
use Rattle.std.specs.List.{AllByRecursion}
use Rattle.std.specs.Fmt.{signed_decimal}
use Rattle.std.proofs.lemmas.Bool.{leb-true, lt-ltb, le-leb, eq-eqb, and_parts}
use Rattle.std.proofs.lemmas.Int.{ints}
use Rattle.std.proofs.lemmas.List.{length-map}
use Rattle.std.proofs.Math.Nat.{pow-le-pow_right}
use Rattle.drc_base.specs.declared.faults.Fault.{Fault}
use Rattle.drc_base.specs.declared.limits.TheConstants.{MAX_POINTS}
use Rattle.attr_heads.specs.declared.bounds.Bounds.{Bounds}
use Rattle.attr_heads.specs.declared.heads.Head.{Head}
use Rattle.attr_heads.specs.Bounds.{in_bounds, no_bounds, type_bounds, bounds_under, bounds_of}
use Rattle.attr_heads.specs.Head.{row_bounds}
use Rattle.attr_heads.specs.Octahedra.{are_octahedral_bits, has_square_bits, square_bounds}
use Rattle.attr_heads.proofs.Passing.{HeadSays}
use Rattle.attr_heads.proofs.Types.{least_low, greatest_high}
use Rattle.mesh_model.specs.Parts.{RowFits, IsFaceOf}
use Rattle.ply_text.specs.Numbers.{integer_of, only_if, natural_of, is_digits, digits_value}
use Rattle.ply_mesh.specs.Body.{token_number, numbers_of, row_read, indices_of, face_of, items_from}
use Rattle.ply_mesh.specs.Text.{face_line}
use Rattle.ply_mesh.proofs.NumberTexts.{IsSmall, integer_again}
use Rattle.ply_mesh.proofs.WellFormed.{IsTyped, length-row_bounds}

-- ---- numbers within bounds are small

-- bounds of 32 bits
pub record IsNarrow (b : Bounds) : Type 0 where
  pub low : negsuc 2147483647 ≤ℤ b.least
  pub high : b.greatest ≤ℤ pos 2147483647

pub type_narrow : (dtype : ℕ) → IsNarrow (type_bounds dtype)
type_narrow dtype = record { low = least_low dtype; high = greatest_high dtype }

pub typed_small : (b : Bounds) (v : ℤ) → IsNarrow b → in_bounds b v ≡ true → IsSmall v
unfolding in_bounds
typed_small b v n h =
    let p = and_parts (int_le b.least v) (int_le v b.greatest) h in
    let low = n.low in
    let high = n.high in
    let from : b.least ≤ℤ v = grind (arith, ints, p.0) in
    let to : v ≤ℤ b.greatest = grind (arith, ints, p.1) in
    small v (omega (arith, ints)) (omega (arith, ints))
  where
    small : (v : ℤ) → negsuc 2147483647 ≤ℤ v → v ≤ℤ pos 2147483647 → IsSmall v
    small (pos n) from to = record { small = omega (arith, ints) }
    small (negsuc m) from to = record { small = omega (arith, ints) }

-- ---- rows

number_back : (b : Bounds) (v : ℤ) → IsNarrow b → in_bounds b v ≡ true → token_number b (signed_decimal v) ≡ Some v
unfolding token_number
number_back b v n h = ap (only_if (in_bounds b)) (integer_again v (typed_small b v n h)) ∙ ap (λ c. cond c (Some v) None) h

numbers_back : (bs : List Bounds) (vs : List ℤ) → AllByRecursion IsNarrow bs → IsTyped bs vs → numbers_of bs (map signed_decimal vs) ≡ Some vs
numbers_back [] [] n h = refl
numbers_back [] (v ∷ vs) n h = absurd h
numbers_back (b ∷ bs) [] n h = absurd h
numbers_back (b ∷ bs) (v ∷ vs) n h = rw (number_back b v n.0 h.0, numbers_back bs vs n.1 h.1) refl

typed_length : (bs : List Bounds) (vs : List ℤ) → IsTyped bs vs → length vs ≡ length bs
typed_length [] [] h = refl
typed_length [] (v ∷ vs) h = absurd h
typed_length (b ∷ bs) [] h = absurd h
typed_length (b ∷ bs) (v ∷ vs) h = ap suc (typed_length bs vs h.1)

pub row_back : (bs : List Bounds) (at : ℕ) (vs : List ℤ) → AllByRecursion IsNarrow bs → IsTyped bs vs → row_read bs at (map signed_decimal vs) ≡ Ok vs
unfolding row_read
row_back bs at vs n h = rw (eq-eqb (length (map signed_decimal vs)) (length bs) (length-map vs signed_decimal ∙ typed_length bs vs h), numbers_back bs vs n h) refl

pub typed_from : (bs : List Bounds) (vs : List ℤ) → length vs ≡ length bs → ((j : ℕ) → j < length bs → in_bounds (get_or bs j no_bounds) (get_or vs j (pos 0)) ≡ true) → IsTyped bs vs
typed_from [] [] e h = tt
typed_from [] (v ∷ vs) e h = absurd (omega arith)
typed_from (b ∷ bs) [] e h = absurd (omega arith)
typed_from (b ∷ bs) (v ∷ vs) e h = (h 0 (omega arith), typed_from bs vs (omega arith) (λ j lt. h (suc j) (omega arith)))

pub row_typed_back : (heads : List Head) (row : List ℤ) → RowFits heads row → IsTyped (row_bounds heads) row
row_typed_back heads row fits =
    let n = length-row_bounds heads in
    typed_from (row_bounds heads) row (fits.0 ∙ sym n) (λ j lt. fits.1 j (omega arith))

-- ---- the bounds of heads that pass

square_narrow : (bits : ℕ) → are_octahedral_bits bits ≡ true → IsNarrow (square_bounds bits)
square_narrow bits h =
    let p = and_parts (leb 2 bits) (leb bits 30) h in
    let most : 2 ^ bits ≤ 2 ^ 30 = pow-le-pow_right {n = 2} (omega arith) {i = bits} {j = 30} (leb-true bits 30 p.1) in
    record { low = omega (arith, ints); high = omega (arith, ints) }

head_narrow : (h : Head) → HeadSays h → IsNarrow (bounds_of h)
head_narrow h s = go h.octa s.square where
  go : (o : Option ℕ) → has_square_bits o ≡ true → IsNarrow (bounds_under h.dtype o)
  go None e = type_narrow h.dtype
  go (Some bits) e = square_narrow bits e

copies_narrow : (n : ℕ) (b : Bounds) (rest : List Bounds) → IsNarrow b → AllByRecursion IsNarrow rest → AllByRecursion IsNarrow (replicate n b ++ rest)
copies_narrow zero b rest h all = all
copies_narrow (suc n) b rest h all = (h, copies_narrow n b rest h all)

pub columns_narrow : (heads : List Head) → AllByRecursion HeadSays heads → AllByRecursion IsNarrow (row_bounds heads)
columns_narrow [] p = tt
columns_narrow (h ∷ hs) p = copies_narrow h.comps (bounds_of h) (row_bounds hs) (head_narrow h p.0) (columns_narrow hs p.1)

-- ---- items

pub items_back : {A : Type 0} (P : A → Type 0) (item : ℕ → List (List ℕ) → Result A Fault) (line : A → List (List ℕ)) → ((at : ℕ) (x : A) → P x → item at (line x) ≡ Ok x) → (xs : List A) (at : ℕ) (rest : List (List (List ℕ))) → AllByRecursion P xs → items_from item (length xs) at (map line xs ++ rest) ≡ Ok (xs, rest)
items_back P item line each [] at rest all = refl
items_back {A} P item line each (x ∷ xs) at rest all = rw (each at x all.0, items_back P item line each xs (at + 1) rest all.1) refl

-- ---- faces

three_again : (at : ℕ) → token_number (type_bounds 2) (51 ∷ []) ≡ Some (pos 3)
unfolding token_number integer_of natural_of is_digits digits_value in_bounds
three_again at = refl

index_in : (p : ℕ) → p < 2 ^ 31 → in_bounds (type_bounds 5) (pos p) ≡ true
unfolding in_bounds
index_in p h = le-leb p 2147483647 (omega arith)

three_back : (points at a b c : ℕ) → points ≤ MAX_POINTS → a < points → b < points → c < points → face_of (2, 5) points at (face_line (a ∷ b ∷ c ∷ [])) ≡ Ok (a ∷ b ∷ c ∷ [])
unfolding face_of indices_of face_line
three_back points at a b c few pa pb pc =
    rw (three_again at, number_back (type_bounds 5) (pos a) (type_narrow 5) (index_in a (omega arith)), number_back (type_bounds 5) (pos b) (type_narrow 5) (index_in b (omega arith)), number_back (type_bounds 5) (pos c) (type_narrow 5) (index_in c (omega arith)), lt-ltb a points pa, lt-ltb b points pb, lt-ltb c points pc) refl

pub face_back : (points at : ℕ) (face : List ℕ) → points ≤ MAX_POINTS → IsFaceOf points face → face_of (2, 5) points at (face_line face) ≡ Ok face
face_back points at [] few is = let n = is.0 in absurd (omega arith)
face_back points at (a ∷ []) few is = let n = is.0 in absurd (omega arith)
face_back points at (a ∷ b ∷ []) few is = let n = is.0 in absurd (omega arith)
face_back points at (a ∷ b ∷ c ∷ []) few is = three_back points at a b c few (is.1 0 0 (omega arith)) (is.1 1 0 (omega arith)) (is.1 2 0 (omega arith))
face_back points at (a ∷ b ∷ c ∷ d ∷ ds) few is = let n = is.0 in absurd (omega arith)
