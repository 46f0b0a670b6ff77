-- Points in lists of integers.
use Rattle.std.proofs.Common.{◌≡◌, ℕ, zero, suc, ◌+◌, ◌-◌, ◌*◌, ◌/◌, ◌<◌, ◌≤◌, ℤ, pos, List, [], ◌∷◌, length, set, get_or, take, drop, sym, ◌∙◌, ap, refl, arith, false, nat_eq}
use Rattle.std.specs.Prelude.{◌++◌}
use Rattle.std.proofs.lemmas.Bool.{cond-false}
use Rattle.std.proofs.lemmas.List.{get_or-drop, get_or-take}
use Rattle.std.proofs.lemmas.List.Elements.{All-nil, All-cons, All-head, All-tail}
use Rattle.std.proofs.Math.Seq.{take-suc}
use Rattle.octahedron.specs.declared.points.Point.{Point}
use Rattle.octahedron.specs.Square.{point, IsValue}
use Rattle.octahedron.specs.Restored.{value_before}
use Rattle.octahedron.specs.Pairs.{pairs_of, pair_in, pair_before, IsCoordinate, AreCoordinates, AreValues}

two-more : (e : ℕ) → 2 * suc e ≡ suc (suc (2 * e))
two-more e = omega arith

one-more : (e : ℕ) → suc (suc (2 * e)) + 1 ≡ suc (suc (2 * e + 1))
one-more e = omega arith

-- the point of an entry that is there
pub pair-is : (xs : List ℤ) (e : ℕ) (d : Point) → 2 * e + 1 < length xs → get_or (pairs_of xs) e d ≡ pair_in xs e
unfolding pairs_of
pair-is [] e d h = absurd (omega arith)
pair-is (s ∷ []) e d h = absurd (omega arith)
pair-is (s ∷ t ∷ xs) zero d h = refl
pair-is (s ∷ t ∷ xs) (suc e) d h = rw (two-more e, one-more e) (pair-is xs e d (omega arith))

-- a point that is written
pub pairs-set : (xs : List ℤ) (e : ℕ) (p : Point) → 2 * e + 1 < length xs → pairs_of (set (set xs (2 * e) p.s) (2 * e + 1) p.t) ≡ set (pairs_of xs) e p
unfolding pairs_of
pairs-set [] e p h = absurd (omega arith)
pairs-set (s ∷ []) e p h = absurd (omega arith)
pairs-set (s ∷ t ∷ xs) zero p h = refl
pairs-set (s ∷ t ∷ xs) (suc e) p h = rw (two-more e, one-more e) (ap (λ (ps : List Point). point s t ∷ ps) (pairs-set xs e p (omega arith)))

pub length-pairs : (xs : List ℤ) → length (pairs_of xs) ≡ length xs / 2
unfolding pairs_of
length-pairs [] = refl
length-pairs (s ∷ []) = refl
length-pairs (s ∷ t ∷ xs) = ap suc (length-pairs xs) ∙ omega arith

pub item-is : (xs : List ℤ) (e : ℕ) (p : Point) → e < length xs / 2 → p ≡ pair_in xs e → get_or (pairs_of xs) e p ≡ p
item-is xs e p h is = pair-is xs e p (omega arith) ∙ sym is

-- integers from 0 to 2c are values
pub AreValues-coordinates : (c : ℤ) (xs : List ℤ) → AreCoordinates c xs → AreValues c xs
unfolding pairs_of
AreValues-coordinates c [] h = All-nil (IsValue c)
AreValues-coordinates c (s ∷ []) h = All-nil (IsValue c)
AreValues-coordinates c (s ∷ t ∷ xs) h =
    let first = All-head (IsCoordinate c) s (t ∷ xs) h in
    let behind = All-tail (IsCoordinate c) s (t ∷ xs) h in
    let second = All-head (IsCoordinate c) t xs behind in
    All-cons (IsValue c) (point s t) (pairs_of xs) (record { s_least = first.0; s_greatest = first.1; t_least = second.0; t_greatest = second.1 })
    (AreValues-coordinates c xs (All-tail (IsCoordinate c) t xs behind))

-- the last of values is what was put behind them
pub last-put : (xs : List Point) (v : Point) → value_before (xs ++ v ∷ []) ≡ v
last-put [] v = refl
last-put (x ∷ []) v = refl
last-put (x ∷ y ∷ xs) v = last-put (y ∷ xs) v

not-none : (e : ℕ) → nat_eq (suc e) 0 ≡ false
not-none e = grind arith

-- the value before an entry
pub before-is : (xs : List ℤ) (e : ℕ) → 2 * e ≤ length xs → pair_before xs e ≡ value_before (take e (pairs_of xs))
before-is xs zero h = refl
before-is xs (suc e) h =
    let there : e < length (pairs_of xs) = omega (arith, length-pairs xs) in
    let none : Point = point (pos 0) (pos 0) in
    let one : suc e - 1 ≡ e = omega arith in
    let last : value_before (take (suc e) (pairs_of xs)) ≡ get_or (pairs_of xs) e none
    = ap value_before (take-suc (pairs_of xs) e none there) ∙ last-put (take e (pairs_of xs)) (get_or (pairs_of xs) e none) in
    let pair : pair_in xs e ≡ value_before (take (suc e) (pairs_of xs)) = sym (last ∙ pair-is xs e none (omega arith)) in
    cond-false (nat_eq (suc e) 0) none (pair_in xs (suc e - 1)) (not-none e) ∙ rw one pair

-- an item behind what was written, and before it, is as it was
pub item-behind : (xs ys : List Point) (e : ℕ) (d : Point) → drop e xs ≡ drop e ys → get_or xs e d ≡ get_or ys e d
item-behind xs ys e d is =
    let none : e + 0 ≡ e = omega arith in
    ap (λ (n : ℕ). get_or xs n d) (sym none) ∙ sym (get_or-drop e xs 0 d) ∙ ap (λ (l : List Point). get_or l 0 d) is ∙ get_or-drop e ys 0 d
    ∙ ap (λ (n : ℕ). get_or ys n d) none

pub item-before : (xs ys : List Point) (n e : ℕ) (d : Point) → e < n → take n xs ≡ take n ys → get_or xs e d ≡ get_or ys e d
item-before xs ys n e d h is = sym (get_or-take n xs e d h) ∙ ap (λ (l : List Point). get_or l e d) is ∙ get_or-take n ys e d h
