-- Flags as lists: the corners in order are those of the numbers.
use Rattle.std.proofs.Common.{◌≡◌, ℕ, zero, suc, ◌+◌, ◌*◌, ◌<◌, Bool, true, List, [], ◌∷◌, ◌++◌, map, length, get_or, refl, ap, sym, ◌∙◌, arith, append_assoc}
use Rattle.std.specs.List.{range_with_len}
use Rattle.std.proofs.lemmas.List.{get_or-map, ext_get_or, length-map}
use Rattle.std.proofs.lemmas.List.FromFn.{map-range_with_len_more, get_or-map-range_with_len, length-map-range_with_len}
use Rattle.corner_table.specs.Sides.{Side, first, second, third, side, number, side_at}
use Rattle.corner_table.specs.Fans.{corners_of}
use Rattle.corner_table.proofs.Numbers.{side_at-number, number-side_at, number-lt, face-lt}
use Rattle.seams.specs.Seams.{flag_at, flags_listed}

-- the sides with the numbers below n
abbrev pub numbered : ℕ → List Side
numbered n = map side_at (range_with_len 0 n)

numbered_more : (n : ℕ) → numbered (n + 1) ≡ numbered n ++ side_at n ∷ []
numbered_more n = map-range_with_len_more side_at 0 n n (omega arith)

at_number : (n : ℕ) (x : Side) → n ≡ number x → side_at n ≡ x
at_number n x e = ap side_at e ∙ side_at-number x

three_parts : (xs : List Side) (a b c : Side) → ((xs ++ a ∷ []) ++ b ∷ []) ++ c ∷ [] ≡ xs ++ (a ∷ b ∷ c ∷ [])
three_parts xs a b c = append_assoc (xs ++ a ∷ []) (b ∷ []) (c ∷ []) ∙ append_assoc xs (a ∷ []) (b ∷ c ∷ [])

three_more : (f : ℕ) → numbered (3 * f + 1 + 1 + 1) ≡ numbered (3 * f) ++ (side f first ∷ side f second ∷ side f third ∷ [])
three_more f =
    let a : side_at (3 * f) ≡ side f first = at_number (3 * f) (side f first) (omega arith) in
    let b : side_at (3 * f + 1) ≡ side f second = at_number (3 * f + 1) (side f second) (omega arith) in
    let c : side_at (3 * f + 1 + 1) ≡ side f third = at_number (3 * f + 1 + 1) (side f third) (omega arith) in
    numbered_more (3 * f + 1 + 1)
    ∙ ap (λ xs. xs ++ side_at (3 * f + 1 + 1) ∷ []) (numbered_more (3 * f + 1))
    ∙ ap (λ xs. (xs ++ side_at (3 * f + 1) ∷ []) ++ side_at (3 * f + 1 + 1) ∷ []) (numbered_more (3 * f))
    ∙ three_parts (numbered (3 * f)) (side_at (3 * f)) (side_at (3 * f + 1)) (side_at (3 * f + 1 + 1))
    ∙ ap (λ x. numbered (3 * f) ++ (x ∷ side_at (3 * f + 1) ∷ side_at (3 * f + 1 + 1) ∷ [])) a
    ∙ ap (λ x. numbered (3 * f) ++ (side f first ∷ x ∷ side_at (3 * f + 1 + 1) ∷ [])) b
    ∙ ap (λ x. numbered (3 * f) ++ (side f first ∷ side f second ∷ x ∷ [])) c

pub corners_are : (faces : ℕ) → corners_of faces ≡ numbered (3 * faces)
unfolding corners_of
corners_are zero = refl
corners_are (suc f) =
    let e : 3 * f + 1 + 1 + 1 ≡ 3 * suc f = omega arith in
    ap (λ xs. xs ++ (side f first ∷ side f second ∷ side f third ∷ [])) (corners_are f) ∙ sym (three_more f) ∙ ap numbered e

pub length-corners : (faces : ℕ) → length (corners_of faces) ≡ 3 * faces
length-corners faces = ap (λ (xs : List Side). length xs) (corners_are faces) ∙ length-map-range_with_len side_at 0 (3 * faces)

pub corner_is : (faces : ℕ) (x d : Side) → x.face < faces → get_or (corners_of faces) (number x) d ≡ x
corner_is faces x d h =
    ap (λ xs. get_or xs (number x) d) (corners_are faces)
    ∙ get_or-map-range_with_len side_at 0 (3 * faces) (number x) (number x) d (number-lt x faces h) (omega arith)
    ∙ side_at-number x

pub length-listed : (faces : ℕ) (flags : Side → Bool) → length (flags_listed faces flags) ≡ 3 * faces
length-listed faces flags = length-map (corners_of faces) flags ∙ length-corners faces

pub flag_at-listed : (faces : ℕ) (flags : Side → Bool) (x : Side) → x.face < faces → flag_at (flags_listed faces flags) x ≡ flags x
flag_at-listed faces flags x h =
    let l = length-corners faces in
    let n = number-lt x faces h in
    let inside : number x < length (corners_of faces) = omega arith in
    get_or-map flags (corners_of faces) (number x) x true inside ∙ ap flags (corner_is faces x x h)

-- a list that has the flag of each side
pub listed-is : (faces : ℕ) (given : List Bool) (flags : Side → Bool) → length given ≡ 3 * faces → ((x : Side) → x.face < faces → flag_at given x ≡ flags x) → given ≡ flags_listed faces flags
listed-is faces given flags long each = ext_get_or true given (flags_listed faces flags) (long ∙ sym (length-listed faces flags)) at
  where
    at : (i : ℕ) → i < length given → get_or given i true ≡ get_or (flags_listed faces flags) i true
    at i h =
        let below : i < 3 * faces = omega arith in
        let within = face-lt i faces below in
        let e = number-side_at i in
        ap (λ n. get_or given n true) (sym e) ∙ each (side_at i) within ∙ sym (flag_at-listed faces flags (side_at i) within) ∙ ap (λ n. get_or (flags_listed faces flags) n true) e

pub listed_alike : (faces : ℕ) (one other : Side → Bool) → ((x : Side) → x.face < faces → one x ≡ other x) → flags_listed faces one ≡ flags_listed faces other
listed_alike faces one other each = listed-is faces (flags_listed faces one) other (length-listed faces one) (λ x h. flag_at-listed faces one x h ∙ each x h)
