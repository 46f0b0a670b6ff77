-- The bits of a tree don't depend on the order of its keys: lists of which each test passes as many keys have the same bits.
use Rattle.std.proofs.Common.{◌≡◌, ℕ, zero, suc, ◌+◌, Bool, true, false, cond, List, [], ◌∷◌, ◌++◌, length, sym, refl, ap, ◌∙◌, inl, inr, arith}
use Rattle.std.specs.Prelude.{filter, sum_by, IsPermutation}
use Rattle.std.proofs.lemmas.Bool.{cases_lt, false≢true}
use Rattle.std.proofs.lemmas.List.Sums.{sum_by-cons}
use Rattle.std.proofs.lemmas.List.Sorted.{sum_by-IsPermutation}
use Rattle.kd_tree.specs.Keys.{Key, bit_at, is_low}
use Rattle.drc_bits.specs.Digits.{digits}
use Rattle.kd_tree.specs.Trees.{high_bits, lower, upper, split_bits, rest_bits}
use Rattle.kd_tree.proofs.Boxes.{rest-last, rest-more, rest-none, split-last, split-more, split-none}

-- each test passes as many keys of one list as of the other
abbrev pub SameCounts : List Key → List Key → Type 0
SameCounts xs ys = (p : Key → Bool) → length (filter p xs) ≡ length (filter p ys)

length-sum : (p : Key → Bool) (xs : List Key) → length (filter p xs) ≡ sum_by (λ x. cond (p x) 1 0) xs
length-sum p [] = refl
length-sum p (x ∷ xs) =
    (elim (p x) as (λ b. length (cond b (x ∷ filter p xs) (filter p xs)) ≡ cond b 1 0 + length (filter p xs)) [ true ↦ omega arith | false ↦ omega arith ])
    ∙ ap (λ n. cond (p x) 1 0 + n) (length-sum p xs) ∙ sym (sum_by-cons (λ y. cond (p y) 1 0) x xs)

pub same-counts : (xs ys : List Key) → IsPermutation xs ys → SameCounts xs ys
same-counts xs ys h p = length-sum p xs ∙ sym (sum_by-IsPermutation (λ x. cond (p x) 1 0) xs ys h) ∙ sym (length-sum p ys)

-- a filter of a filter
filter-filter : (p q : Key → Bool) (xs : List Key) → filter q (filter p xs) ≡ filter (λ x. cond (p x) (q x) false) xs
filter-filter p q [] = refl
filter-filter p q (x ∷ xs) =
    elim (p x) as (λ b. filter q (cond b (x ∷ filter p xs) (filter p xs)) ≡ cond (cond b (q x) false) (x ∷ filter (λ y. cond (p y) (q y) false) xs) (filter (λ y. cond (p y) (q y) false) xs)) [
      | true ↦ ap (λ ks. cond (q x) (x ∷ ks) ks) (filter-filter p q xs)
      | false ↦ filter-filter p q xs
    ]

same-filter : (p : Key → Bool) (xs ys : List Key) → SameCounts xs ys → SameCounts (filter p xs) (filter p ys)
same-filter p xs ys h q = ap length (filter-filter p q xs) ∙ h (λ x. cond (p x) (q x) false) ∙ sym (ap length (filter-filter p q ys))

filter-all : (xs : List Key) → filter (λ x. true) xs ≡ xs
filter-all [] = refl
filter-all (x ∷ xs) = ap (λ ks. x ∷ ks) (filter-all xs)

same-length : (xs ys : List Key) → SameCounts xs ys → length xs ≡ length ys
same-length xs ys h = ap length (sym (filter-all xs)) ∙ h (λ x. true) ∙ ap length (filter-all ys)

-- whether two keys are equal
abbrev same_bit : Bool → Bool → Bool
same_bit true b = b
same_bit false true = false
same_bit false false = true

abbrev same_key : Key → Key → Bool
same_key [] [] = true
same_key [] (y ∷ ys) = false
same_key (x ∷ xs) [] = false
same_key (x ∷ xs) (y ∷ ys) = cond (same_bit x y) (same_key xs ys) false

same_key-own : (xs : Key) → same_key xs xs ≡ true
same_key-own [] = refl
same_key-own (true ∷ xs) = same_key-own xs
same_key-own (false ∷ xs) = same_key-own xs

same_key-is : (xs ys : Key) → same_key xs ys ≡ true → xs ≡ ys
same_key-is [] [] h = refl
same_key-is [] (y ∷ ys) h = absurd (false≢true h)
same_key-is (x ∷ xs) [] h = absurd (false≢true h)
same_key-is (true ∷ xs) (true ∷ ys) h = ap (λ zs. true ∷ zs) (same_key-is xs ys h)
same_key-is (true ∷ xs) (false ∷ ys) h = absurd (false≢true h)
same_key-is (false ∷ xs) (true ∷ ys) h = absurd (false≢true h)
same_key-is (false ∷ xs) (false ∷ ys) h = ap (λ zs. false ∷ zs) (same_key-is xs ys h)

-- two lists of one key
same-single : (x y : Key) → SameCounts (x ∷ []) (y ∷ []) → x ≡ y
same-single x y h =
    let one : length (filter (same_key x) (x ∷ [])) ≡ 1 = ap (λ b. length (cond b (x ∷ []) [])) (same_key-own x) in
    let other : length (filter (same_key x) (y ∷ [])) ≡ 1 = sym (h (same_key x)) ∙ one in
    let passes : (b : Bool) → length (cond b (y ∷ []) []) ≡ 1 → b ≡ true = λ b. elim b as (λ t. length (cond t (y ∷ []) []) ≡ 1 → t ≡ true) [ true ↦ (λ e. refl) | false ↦ (λ e. absurd (omega (arith, e))) ] in
    same_key-is x y (passes (same_key x y) other)

pub split-same : (left d : ℕ) (xs ys : List Key) → SameCounts xs ys → split_bits left d xs ≡ split_bits left d ys
split-same zero d xs ys h = split-last d xs ∙ sym (split-last d ys)
split-same (suc left) d xs ys h =
    let long : length xs ≡ length ys = same-length xs ys h in
    elim (cases_lt (length xs) 2) [
      | inl few ↦ split-none (suc left) d xs few ∙ sym (split-none (suc left) d ys (omega (arith, long, few)))
      | inr more ↦
          split-more left d xs more
          ∙ ap (λ n. high_bits (digits n) (length (lower d xs)) ++ (split_bits left (d + 1) (lower d xs) ++ split_bits left (d + 1) (upper d xs))) long
          ∙ ap (λ n. high_bits (digits (length ys)) n ++ (split_bits left (d + 1) (lower d xs) ++ split_bits left (d + 1) (upper d xs))) (h (is_low d))
          ∙ ap (λ bs. high_bits (digits (length ys)) (length (lower d ys)) ++ (bs ++ split_bits left (d + 1) (upper d xs))) (split-same left (d + 1) (lower d xs) (lower d ys) (same-filter (is_low d) xs ys h))
          ∙ ap (λ bs. high_bits (digits (length ys)) (length (lower d ys)) ++ (split_bits left (d + 1) (lower d ys) ++ bs)) (split-same left (d + 1) (upper d xs) (upper d ys) (same-filter (bit_at d) xs ys h))
          ∙ sym (split-more left d ys (omega (arith, long, more)))
    ]

pub rest-same : (left d : ℕ) (xs ys : List Key) → SameCounts xs ys → rest_bits left d xs ≡ rest_bits left d ys
rest-same zero d xs ys h = rest-last d xs ∙ sym (rest-last d ys)
rest-same (suc left) d [] ys h = rest-none (suc left) d [] refl ∙ sym (rest-none (suc left) d ys (sym (same-length [] ys h)))
rest-same (suc left) d (x ∷ []) [] h = absurd (let e = same-length (x ∷ []) [] h in omega (arith, e))
rest-same (suc left) d (x ∷ []) (y ∷ []) h = ap (λ k. rest_bits (suc left) d (k ∷ [])) (same-single x y h)
rest-same (suc left) d (x ∷ []) (y ∷ z ∷ ys) h = absurd (let e = same-length (x ∷ []) (y ∷ z ∷ ys) h in omega (arith, e))
rest-same (suc left) d (x ∷ other ∷ keys) ys h =
    let xs : List Key = x ∷ other ∷ keys in
    let long : length xs ≡ length ys = same-length xs ys h in
    rest-more left d xs (omega arith)
    ∙ ap (λ bs. bs ++ rest_bits left (d + 1) (upper d xs)) (rest-same left (d + 1) (lower d xs) (lower d ys) (same-filter (is_low d) xs ys h))
    ∙ ap (λ bs. rest_bits left (d + 1) (lower d ys) ++ bs) (rest-same left (d + 1) (upper d xs) (upper d ys) (same-filter (bit_at d) xs ys h))
    ∙ sym (rest-more left d ys (omega (arith, long)))
