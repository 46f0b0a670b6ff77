-- Values that lie in a range in which corrections wrap, however they are picked from the points.
use Rattle.std.proofs.Common.{◌≡◌, ℕ, zero, suc, ◌-◌, ◌^◌, true, ℤ, pos, List, [], ◌∷◌, map, take, drop, get_or, refl, arith}
use Rattle.std.specs.Prelude.{◌-ℤ◌, ◌≤ℤ◌, ◌<ℤ◌, fold, int_le, int_lt}
use Rattle.std.specs.Int.{int_min, int_max}
use Rattle.std.specs.List.{All, flat_map}
use Rattle.std.proofs.lemmas.Int.{ints, clamps, fold-int_min_bounds, fold-int_max_bounds}
use Rattle.std.proofs.lemmas.List.Elements.{All-nil, All-cons, All-head, All-tail, All-append, All-take, All-drop, All-map, All-weaker}
use Rattle.attr_heads.specs.declared.heads.Head.{Head}
use Rattle.predict.specs.Wrap.{Range, CanWrap}
use Rattle.attr_section.specs.Values.{can_wrap}
use Rattle.attr_section.specs.WrittenParts.{range_of}
use Rattle.drc_container.specs.Columns.{columns_of}
use Rattle.drc_container.specs.choice.Encodable.{IsIn}

-- ---- the range of values

-- the least and the greatest of values stay within a range
low-in : (l a : ℤ) (xs : List ℤ) → l ≤ℤ a → All (λ x. l ≤ℤ x) xs → l ≤ℤ fold int_min a xs
low-in l a [] first all = first
low-in l a (x ∷ xs) first all =
    let here : l ≤ℤ x = All-head (λ y. l ≤ℤ y) x xs all in
    low-in l (int_min a x) xs (omega (arith, ints, clamps)) (All-tail (λ y. l ≤ℤ y) x xs all)

high-in : (h a : ℤ) (xs : List ℤ) → a ≤ℤ h → All (λ x. x ≤ℤ h) xs → fold int_max a xs ≤ℤ h
high-in h a [] first all = first
high-in h a (x ∷ xs) first all =
    let here : x ≤ℤ h = All-head (λ y. y ≤ℤ h) x xs all in
    high-in h (int_max a x) xs (omega (arith, ints, clamps)) (All-tail (λ y. y ≤ℤ h) x xs all)

-- a range within one in which corrections wrap is such a range
narrower : (r : Range) (low high v : ℤ) → CanWrap r → r.low ≤ℤ low → high ≤ℤ r.high → low ≤ℤ v → v ≤ℤ high → can_wrap (record { low = low; high = high }) ≡ true
narrower r low high v can under over below above =
    let narrow : (r.high -ℤ r.low) <ℤ pos (2 ^ 31 - 1) = can.narrow in
    let ordered : low ≤ℤ high = omega (arith, ints) in
    let near : (high -ℤ low) <ℤ pos (2 ^ 31 - 1) = omega (arith, ints) in
    let first : int_le low high ≡ true = grind (arith, ints, ordered) in
    let second : int_lt (high -ℤ low) (pos (2 ^ 31 - 1)) ≡ true = grind (arith, ints, near) in
    rw (first, second) refl

-- the range of values that lie in it is one
pub can-wrap : (r : Range) (values : List ℤ) → CanWrap r → All (IsIn r) values → can_wrap (range_of values) ≡ true
can-wrap r [] can all = refl
can-wrap r (v ∷ values) can all =
    let here = All-head (IsIn r) v values all in
    let rest = All-tail (IsIn r) v values all in
    let low = fold-int_min_bounds v values (fold int_min v values) refl in
    let high = fold-int_max_bounds v values (fold int_max v values) refl in
    narrower r (fold int_min v values) (fold int_max v values) v can
    (low-in r.low v values here.0 (All-weaker (IsIn r) (λ x. r.low ≤ℤ x) (λ x i. i.0) values rest))
    (high-in r.high v values here.1 (All-weaker (IsIn r) (λ x. x ≤ℤ r.high) (λ x i. i.1) values rest))
    low.0 high.0

-- ---- integers of points

-- what holds of the items of each piece
pub All-pieces : {A B : Type 0} (P : A → Type 0) (Q : B → Type 0) (f : A → List B) → ((x : A) → P x → All Q (f x)) → (xs : List A) → All P xs → All Q (flat_map f xs)
All-pieces P Q f each [] all = All-nil Q
All-pieces P Q f each (x ∷ xs) all =
    All-append Q (f x) (flat_map f xs) (each x (All-head P x xs all)) (All-pieces P Q f each xs (All-tail P x xs all))

-- what holds of the integers of each row holds of those of each column
pub columns-keep : (P : ℤ → Type 0) (heads : List Head) (rows : List (List ℤ)) → All (All P) rows → All (All P) (columns_of heads rows)
columns-keep P [] rows all = All-nil (All P)
columns-keep P (h ∷ heads) rows all =
    All-cons (All P) (flat_map (λ row. take h.comps row) rows) (columns_of heads (map (λ row. drop h.comps row) rows))
    (All-pieces (All P) P (λ row. take h.comps row) (λ row is. All-take P h.comps row is) rows all)
    (columns-keep P heads (map (λ row. drop h.comps row) rows)
    (All-map (All P) (λ row. drop h.comps row) rows (All-weaker (All P) (λ row. All P (drop h.comps row)) (λ row is. All-drop P h.comps row is) rows all)))

-- and of those of a row that is picked, or of none
pub row-keeps : (P : ℤ → Type 0) (rows : List (List ℤ)) (i : ℕ) → All (All P) rows → All P (get_or rows i [])
row-keeps P [] i all = All-nil P
row-keeps P (row ∷ rows) zero all = All-head (All P) row rows all
row-keeps P (row ∷ rows) (suc i) all = row-keeps P rows i (All-tail (All P) row rows all)
