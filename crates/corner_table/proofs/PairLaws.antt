-- The sides of a surface by their numbers, and its pairs.
use Rattle.std.proofs.Common.{◌≡◌, ◌≢◌, ℕ, zero, suc, ◌+◌, ◌*◌, ◌-◌, ◌<◌, ◌≤◌, Bool, true, false, not, ◌&&◌, nat_lt, cond, List, [], ◌∷◌, length, map, get_or, AllPairs, Some, None, inl, inr, sym, refl, ap, ◌∙◌, subst, arith, zero-add}
use Rattle.std.specs.Prelude.{is_none, filter}
use Rattle.std.specs.List.{count_by}
use Rattle.std.specs.Bool.{Decides}
use Rattle.std.specs.Set.{is_member}
use Rattle.std.specs.Cmp.{IsEquivalence, decided}
use Rattle.std.proofs.lemmas.Bool.{cases_lt, and_parts, and_from, lt-ltb, le-ltb, ltb-true}
use Rattle.std.proofs.lemmas.List.{length-append, get_or-map, get_or_append_left, get_or-append_right, length-map}
use Rattle.std.proofs.lemmas.List.Sums.{length-filter, sum_by-append}
use Rattle.std.proofs.lemmas.List.Kept.{AllPairs-filter}
use Rattle.std.proofs.lemmas.Map.Made.{is_member-Decides, is_member-filter, length-le_from_is_member, IsDistinct-from_AllPairs}
use Rattle.corner_table.specs.Sides.{Side, first, second, third, side, side_at, number, same, Gluing, IsGluing}
use Rattle.corner_table.specs.Fans.{corners_of}
use Rattle.corner_table.specs.Pairs.{has_bit, bit_sides, OneBitEach, BitSidesAreListed, BitSidesRise, PairsHaveTwoSides}
use Rattle.corner_table.proofs.Places.{same-true, same_refl, option_tells, Some_injective}
use Rattle.corner_table.proofs.Numbers.{number-side_at, side_at-number, number-lt}

-- ---- the sides by their numbers

pub length-corners_of : (faces : ℕ) → length (corners_of faces) ≡ 3 * faces
unfolding corners_of
length-corners_of zero = refl
length-corners_of (suc f) =
    let e = length-append (corners_of f) (side f first ∷ side f second ∷ side f third ∷ []) in
    let l = length-corners_of f in
    omega arith

pub corner_at : (faces i : ℕ) (d : Side) → i < 3 * faces → get_or (corners_of faces) i d ≡ side_at i
unfolding corners_of
corner_at zero i d h = absurd (omega arith)
corner_at (suc f) i d h =
    let last : List Side = side f first ∷ side f second ∷ side f third ∷ [] in
    elim (cases_lt i (3 * f)) [
      | inl l ↦ get_or_append_left (corners_of f) last d i (let e = length-corners_of f in omega arith) ∙ corner_at f i d l
      | inr l ↦ get_or-append_right (corners_of f) last (3 * f) i d (length-corners_of f) l ∙ of_last (i - 3 * f) refl l
    ]
  where
    of_last : (k : ℕ) → i - 3 * f ≡ k → 3 * f ≤ i → get_or (side f first ∷ side f second ∷ side f third ∷ []) k d ≡ side_at i
    of_last zero e l = sym (ap side_at (let n : i ≡ 3 * f + 0 = omega arith in n) ∙ side_at-number (side f first))
    of_last (suc zero) e l = sym (ap side_at (let n : i ≡ 3 * f + 1 = omega arith in n) ∙ side_at-number (side f second))
    of_last (suc (suc zero)) e l = sym (ap side_at (let n : i ≡ 3 * f + 2 = omega arith in n) ∙ side_at-number (side f third))
    of_last (suc (suc (suc k))) e l = absurd (omega arith)

corners_rise : (faces : ℕ) → AllPairs (λ (x y : Side). number x < number y) (corners_of faces)
corners_rise faces i j d l h =
    let n = length-corners_of faces in
    let a = ap number (corner_at faces i d (omega arith)) ∙ number-side_at i in
    let b = ap number (corner_at faces j d (omega arith)) ∙ number-side_at j in
    omega arith

pub bit_sides_rise : BitSidesRise
bit_sides_rise faces g = AllPairs-filter (λ (x y : Side). number x < number y) (has_bit g) (corners_of faces) (corners_rise faces)

-- ---- which sides are listed

same_Decides : (a b : Side) → Decides (same a b) (a ≡ b)
same_Decides a b = (same-true a b, λ e. ap (same a) (sym e) ∙ same_refl a)

same_laws : IsEquivalence same
same_laws = decided same same_Decides

listed : (faces : ℕ) (x : Side) → x.face < faces → is_member same (corners_of faces) x ≡ true
listed faces x h =
    let n = number-lt x faces h in
    (is_member-Decides same_Decides (corners_of faces) x).1
    (number x, (let e = length-corners_of faces in omega arith), corner_at faces (number x) x n ∙ side_at-number x)

-- which sides a test picks
picked : (test : Side → Bool) (faces : ℕ) (x : Side) → is_member same (filter test (corners_of faces)) x ≡ (is_member same (corners_of faces) x && test x)
picked test faces x = is_member-filter same_laws test x (λ y e. ap test (same-true x y e)) (corners_of faces)

pick : (test : Side → Bool) (faces : ℕ) (x : Side) → x.face < faces → test x ≡ true → is_member same (filter test (corners_of faces)) x ≡ true
pick test faces x h t = picked test faces x ∙ and_from _ _ (listed faces x h) t

picks : (test : Side → Bool) (faces : ℕ) (x : Side) → is_member same (filter test (corners_of faces)) x ≡ true → test x ≡ true
picks test faces x e = (and_parts _ _ (sym (picked test faces x) ∙ e)).1

-- what a bit says
bit_at : (g : Gluing) (x y : Side) → g x ≡ Some y → has_bit g x ≡ nat_lt x.face y.face
bit_at g x y e = rw (has_bit, e) refl

bit_tells : (g : Gluing) (x : Side) → has_bit g x ≡ true → (y : Side) × (g x ≡ Some y) × (x.face < y.face)
bit_tells g x t = elim (option_tells (g x)) [
  | inl n ↦ absurd (let no : false ≡ true = sym (none n) ∙ t in cc)
  | inr y ↦ (y.0, y.1, ltb-true _ _ (sym (bit_at g x y.0 y.1) ∙ t))
]
  where
    none : g x ≡ None → has_bit g x ≡ false
    none n = rw (has_bit, n) refl

pub bit_sides_are_listed : BitSidesAreListed
bit_sides_are_listed faces g G x = (
  λ h. picks (has_bit g) faces x ((is_member-Decides same_Decides (bit_sides faces g) x).1 h),
  λ t. (let y = bit_tells g x t in (is_member-Decides same_Decides (bit_sides faces g) x).0 (pick (has_bit g) faces x (G.within x y.0 y.1) t)),
)

pub one_bit_each : OneBitEach
one_bit_each faces g G x y e =
    bit_at g y x (G.paired x y e) ∙ elim (cases_lt x.face y.face) [
      | inl l ↦ le-ltb y.face x.face (omega arith) ∙ sym (ap not (bit_at g x y e ∙ lt-ltb x.face y.face l))
      | inr l ↦ (let a = G.apart x y e in lt-ltb y.face x.face (omega arith)) ∙ sym (ap not (bit_at g x y e ∙ le-ltb x.face y.face l))
    ]

-- ---- as many sides have a bit as are glued and have none

-- a side is glued, and the other side of its pair has the bit
abbrev lacks_bit : Gluing → Side → Bool
lacks_bit g x = elim (g x) [ None ↦ false | Some y ↦ nat_lt y.face x.face ]

lacks_tells : (g : Gluing) (x : Side) → lacks_bit g x ≡ true → (y : Side) × (g x ≡ Some y) × (y.face < x.face)
lacks_tells g x t = elim (option_tells (g x)) [
  | inl n ↦ absurd (let no : false ≡ true = sym (none n) ∙ t in cc)
  | inr y ↦ (y.0, y.1, ltb-true _ _ (sym (some y.0 y.1) ∙ t))
]
  where
    none : g x ≡ None → lacks_bit g x ≡ false
    none n = rw (lacks_bit, n) refl

    some : (y : Side) → g x ≡ Some y → lacks_bit g x ≡ nat_lt y.face x.face
    some y e = rw (lacks_bit, e) refl

-- the other side of a pair
abbrev other : Gluing → Side → Side
other g x = elim (g x) [ None ↦ x | Some y ↦ y ]

other_is : (g : Gluing) (x y : Side) → g x ≡ Some y → other g x ≡ y
other_is g x y e = rw (other, e) refl

get_or-any : (xs : List Side) (i : ℕ) (d e : Side) → i < length xs → get_or xs i d ≡ get_or xs i e
get_or-any [] i d e h = absurd (omega arith)
get_or-any (x ∷ xs) zero d e h = refl
get_or-any (x ∷ xs) (suc i) d e h = get_or-any xs i d e (omega arith)

-- where the other side of each side that passes one test passes another, no fewer pass that
fewer : (faces : ℕ) (g : Gluing) (one two : Side → Bool) → IsGluing faces g → ((x : Side) → one x ≡ true → (y : Side) × (g x ≡ Some y) × (two y ≡ true)) →
    length (filter one (corners_of faces)) ≤ length (filter two (corners_of faces))
fewer faces g one two G to =
    let l = length-le_from_is_member same_laws (map (other g) ones) (filter two (corners_of faces)) (IsDistinct-from_AllPairs same_Decides (map (other g) ones) apart) within in
    let e : length (map (other g) ones) ≡ length ones = length-map ones (other g) in
    omega arith
  where
    ones : List Side
    ones = filter one (corners_of faces)

    rises : AllPairs (λ (x y : Side). number x < number y) ones
    rises = AllPairs-filter (λ (x y : Side). number x < number y) one (corners_of faces) (corners_rise faces)

    passes : (i : ℕ) (d : Side) → i < length ones → one (get_or ones i d) ≡ true
    passes i d h = picks one faces (get_or ones i d) ((is_member-Decides same_Decides ones (get_or ones i d)).1 (i, h, get_or-any ones i _ _ h))

    apart : AllPairs (λ (x y : Side). x ≢ y) (map (other g) ones)
    apart i j d l h e =
        let m : length (map (other g) ones) ≡ length ones = length-map ones (other g) in
        let a = to (get_or ones i d) (passes i d (omega arith)) in
        let b = to (get_or ones j d) (passes j d (omega arith)) in
        let p = get_or-map (other g) ones i d d (omega arith) ∙ other_is g _ a.0 a.1 in
        let q = get_or-map (other g) ones j d d (omega arith) ∙ other_is g _ b.0 b.1 in
        let s : a.0 ≡ b.0 = sym p ∙ e ∙ q in
        let t : get_or ones i d ≡ get_or ones j d = Some_injective _ _ (sym (G.paired _ _ a.1) ∙ ap g s ∙ G.paired _ _ b.1) in
        let r = rises i j d l (omega arith) in
        let n = ap number t in
        absurd (omega arith)

    within : (q : Side) → is_member same (map (other g) ones) q ≡ true → is_member same (filter two (corners_of faces)) q ≡ true
    within q e =
        let c = (is_member-Decides same_Decides (map (other g) ones) q).0 e in
        let m : length (map (other g) ones) ≡ length ones = length-map ones (other g) in
        let a = to (get_or ones c.0 q) (passes c.0 q (let l = c.1 in omega arith)) in
        let p : q ≡ a.0 = sym c.2 ∙ get_or-map (other g) ones c.0 q q (let l = c.1 in omega arith) ∙ other_is g _ a.0 a.1 in
        subst (λ (x : Side). is_member same (filter two (corners_of faces)) x ≡ true) (sym p)
        (pick two faces a.0 (G.within a.0 _ (G.paired _ _ a.1)) a.2)

count_cons : (p : Side → Bool) (x : Side) (xs : List Side) → count_by p (x ∷ xs) ≡ cond (p x) 1 0 + count_by p xs
count_cons p x xs = sum_by-append (λ (y : Side). cond (p y) 1 0) (x ∷ []) xs ∙ ap (λ (n : ℕ). n + count_by p xs) (zero-add (cond (p x) 1 0))

-- a side is free, has a bit, or lacks it
three_kinds : (faces : ℕ) (g : Gluing) → IsGluing faces g → (xs : List Side) →
    count_by (λ (x : Side). is_none (g x)) xs + (count_by (has_bit g) xs + count_by (lacks_bit g) xs) ≡ length xs
three_kinds faces g G [] = refl
three_kinds faces g G (x ∷ xs) =
    let r = three_kinds faces g G xs in
    let k = one_kind x in
    let a = count_cons (λ (y : Side). is_none (g y)) x xs in
    let b = count_cons (has_bit g) x xs in
    let c = count_cons (lacks_bit g) x xs in
    omega arith
  where
    one_kind : (y : Side) → cond (is_none (g y)) 1 0 + (cond (has_bit g y) 1 0 + cond (lacks_bit g y) 1 0) ≡ 1
    one_kind y = elim (option_tells (g y)) [
      | inl n ↦ rw (has_bit, lacks_bit, n) refl
      | inr z ↦ rw (has_bit, lacks_bit, z.1) (elim (cases_lt y.face z.0.face) [
        | inl l ↦ rw (lt-ltb y.face z.0.face l, le-ltb z.0.face y.face (omega arith)) refl
        | inr l ↦ (let a = G.apart y z.0 z.1 in rw (le-ltb y.face z.0.face l, lt-ltb z.0.face y.face (omega arith)) refl)
      ])
    ]

pub pairs_have_two_sides : PairsHaveTwoSides
pairs_have_two_sides faces g G =
    let k = three_kinds faces g G (corners_of faces) in
    let a = fewer faces g (has_bit g) (lacks_bit g) G (λ x t. (let y = bit_tells g x t in (y.0, y.1, lacks_at y.0 x (G.paired x y.0 y.1) y.2))) in
    let b = fewer faces g (lacks_bit g) (has_bit g) G (λ x t. (let y = lacks_tells g x t in (y.0, y.1, bit_at g y.0 x (G.paired x y.0 y.1) ∙ lt-ltb _ _ y.2))) in
    let c = length-filter (has_bit g) (corners_of faces) in
    let d = length-filter (lacks_bit g) (corners_of faces) in
    let n = length-corners_of faces in
    omega arith
  where
    lacks_at : (y x : Side) → g y ≡ Some x → x.face < y.face → lacks_bit g y ≡ true
    lacks_at y x e l = rw (lacks_bit, e) (lt-ltb x.face y.face l)
