-- Lists that are read from a place downwards.
use Rattle.std.proofs.Common.{◌≡◌, ◌≢◌, ℕ, zero, suc, ◌<◌, ◌≤◌, Some, None, List, [], ◌∷◌, ◌++◌, length, get_or, set, take, reverse, sym, refl, ap, ◌∙◌, arith, get_or-set_other, get_or-set_same, add-one, length-append}
use Rattle.std.proofs.lemmas.List.{take_all, take_more, reverse-append}
use Rattle.eb_rebuild.specs.Kept.{counted_down, first_side}

-- how many
pub length-counted_down : {A : Type 0} (d : A) (n : ℕ) (xs : List A) → length (counted_down d n xs) ≡ n
length-counted_down d zero xs = refl
length-counted_down d (suc n) xs = ap suc (length-counted_down d n xs)

-- a write at or above the place isn't seen
pub counted_down-set : {A : Type 0} (d : A) (n i : ℕ) (xs : List A) (v : A) → n ≤ i → counted_down d n (set xs i v) ≡ counted_down d n xs
counted_down-set d zero i xs v h = refl
counted_down-set {A} d (suc n) i xs v h =
    let e : get_or (set xs i v) n d ≡ get_or xs n d = (let ne : n ≢ i = omega arith in get_or-set_other xs i n v d ne) in
    ap (λ (a : A). a ∷ counted_down d n (set xs i v)) e ∙ ap (λ (l : List A). get_or xs n d ∷ l) (counted_down-set d n i xs v (omega arith))

-- one more on top
pub counted_down_push : {A : Type 0} (d : A) (n : ℕ) (xs : List A) (v : A) → n < length xs → counted_down d (suc n) (set xs n v) ≡ v ∷ counted_down d n xs
counted_down_push {A} d n xs v h =
    ap (λ (a : A). a ∷ counted_down d n (set xs n v)) (get_or-set_same xs n v d h) ∙ ap (λ (l : List A). v ∷ l) (counted_down-set d n n xs v (omega arith))

-- a part of a list, read downwards, is the part in reverse
pub counted_down_take : {A : Type 0} (d : A) (xs : List A) (n : ℕ) → n ≤ length xs → counted_down d n xs ≡ reverse (take n xs)
counted_down_take d xs zero h = refl
counted_down_take {A} d xs (suc n) h =
    ap (λ (l : List A). get_or xs n d ∷ l) (counted_down_take d xs n (omega arith))
    ∙ sym (reverse-append (take n xs) (get_or xs n d ∷ []))
    ∙ sym (ap {A = List A} reverse (ap (λ (m : ℕ). take m xs) (sym (add-one n)) ∙ take_more xs n d (omega arith)))

-- all of a list, read downwards, is the list in reverse
pub counted_down_reverse : {A : Type 0} (d : A) (xs : List A) → counted_down d (length xs) xs ≡ reverse xs
counted_down_reverse {A} d xs = counted_down_take d xs (length xs) (omega arith) ∙ ap {A = List A} reverse (take_all (length xs) xs (omega arith))

-- a list and one more, read downwards
pub counted_down_more : {A : Type 0} (d : A) (n : ℕ) (xs : List A) (v : A) → n ≡ length xs → counted_down d (suc n) (xs ++ v ∷ []) ≡ v ∷ counted_down d n xs
counted_down_more {A} d n xs v e =
    let long : suc n ≡ length (xs ++ v ∷ []) = (let a = length-append xs (v ∷ []) in omega arith) in
    ap (λ (k : ℕ). counted_down d k (xs ++ v ∷ [])) long ∙ counted_down_reverse d (xs ++ v ∷ []) ∙ reverse-append xs (v ∷ [])
    ∙ ap (λ (l : List A). v ∷ l) (sym (ap (λ (k : ℕ). counted_down d k xs) e ∙ counted_down_reverse d xs))

-- the first of a list, and the rest
pub first_some : (xs : List ℕ) (a : ℕ) → Some a ≡ first_side xs → (rest : List ℕ) × (xs ≡ a ∷ rest)
first_some [] a e = absurd (let no : Some a ≡ None = e in cc)
first_some (x ∷ xs) a e = (xs, ap (λ (y : ℕ). y ∷ xs) (let q : Some a ≡ Some x = e in let r : a ≡ x = cc in sym r))
