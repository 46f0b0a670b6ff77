-- How often symbols occur.
use Rattle.std.proofs.Common.{◌≡◌, ◌≢◌, ℕ, zero, suc, ◌+◌, ◌-◌, ◌*◌, ◌^◌, ◌<◌, ◌≤◌, ◌==◌, cond, max, List, [], ◌∷◌, length, take, map, sum, count_by, fold, get_or, set, sym, refl, ap, ◌∙◌, subst, inl, inr, ◌⊎◌, arith, eq-eqb, ne_eqb, eqb-true, get_or-set_other, get_or-set_same, take_all, nat_lt}
use Rattle.std.proofs.lemmas.Bool.{cases_Bool, cases_lt, cond-true, cond-false, true≢false}
use Rattle.std.proofs.lemmas.List.{ext_get_or, length-take}
use Rattle.std.proofs.lemmas.List.Sums.{sum_by-cons, count_by-le-length, count_by_more_no, count_by_more_yes}
use Rattle.std.proofs.lemmas.List.FromFn.{length-map-range_with_len, get_or-map-range_with_len}
use Rattle.std.specs.List.{range_with_len}
use Rattle.symbol_tables.specs.Normal.{HasTable, greatest_count, used_of}
use Rattle.symbol_tables.proofs.Symbols.{sum-cons}
use Rattle.symbol_coding.specs.Symbols.{counts_of}
use Rattle.symbol_coding.specs.Block.{cost_of_count, raw_cost}

-- ---- the greatest

fold-above : (a : ℕ) (xs : List ℕ) → a ≤ fold max a xs
fold-above a [] = omega arith
fold-above a (x ∷ xs) = let h = fold-above (max a x) xs in omega (arith, h)

fold-each : (a : ℕ) (xs : List ℕ) (k : ℕ) → get_or xs k 0 ≤ fold max a xs
fold-each a [] k = omega arith
fold-each a (x ∷ xs) zero = let h = fold-above (max a x) xs in omega (arith, h)
fold-each a (x ∷ xs) (suc k) = fold-each (max a x) xs k

fold-reached : (a : ℕ) (xs : List ℕ) → (fold max a xs ≡ a) ⊎ ((k : ℕ) × (k < length xs) × (get_or xs k 0 ≡ fold max a xs))
fold-reached a [] = inl refl
fold-reached a (x ∷ xs) = elim (fold-reached (max a x) xs) [
  | inl is ↦ elim (cases_lt a x) [
    | inl below ↦ inr (0, omega arith, (let e : x ≡ max a x = omega arith in e ∙ sym is))
    | inr above ↦ inl (is ∙ (let e : max a x ≡ a = omega arith in e))
  ]
  | inr at ↦ inr (suc at.0, omega (arith, at.1), at.2)
]

-- each is at most the greatest, which is one of them
pub each-greatest : (xs : List ℕ) (k : ℕ) → get_or xs k 0 ≤ greatest_count xs
each-greatest xs k = fold-each 0 xs k

pub greatest-reached : (xs : List ℕ) → 0 < length xs → (k : ℕ) × (k < length xs) × (get_or xs k 0 ≡ greatest_count xs)
greatest-reached xs some = elim (fold-reached 0 xs) [
  | inl none ↦ (0, some, (let h = fold-each 0 xs 0 in omega (arith, h, none)))
  | inr at ↦ at
]

pub greatest-below : (xs : List ℕ) (limit : ℕ) → 0 < limit → ((k : ℕ) → get_or xs k 0 < limit) → greatest_count xs < limit
greatest-below xs limit some each = elim (fold-reached 0 xs) [
  | inl none ↦ omega (arith, none, some)
  | inr at ↦ (let h = each at.0 in omega (arith, h, at.2))
]

-- ---- counts

abbrev pub count_in : List ℕ → ℕ → ℕ
count_in symbols s = count_by (λ v. v == s) symbols

abbrev if_same : ℕ → ℕ → ℕ
if_same v s = cond (v == s) 1 0

count-cons : (v s : ℕ) (vs : List ℕ) → count_in (v ∷ vs) s ≡ if_same v s + count_in vs s
count-cons v s vs = sum_by-cons (λ x. cond (x == s) 1 0) v vs

pub count-positive : (xs : List ℕ) (k : ℕ) → k < length xs → 0 < count_in xs (get_or xs k 0)
count-positive [] k h = absurd (omega (arith, h))
count-positive (x ∷ xs) zero h =
    let e = count-cons x x xs in
    let s : if_same x x ≡ 1 = cond-true _ _ _ (eq-eqb x x refl) in omega (arith, e, s)
count-positive (x ∷ xs) (suc k) h =
    let e = count-cons x (get_or xs k 0) xs in
    let r = count-positive xs k (omega (arith, h)) in omega (arith, e, r)

sum-add : (f g : ℕ → ℕ) (xs : List ℕ) → sum (map (λ s. f s + g s) xs) ≡ sum (map f xs) + sum (map g xs)
sum-add f g [] = refl
sum-add f g (x ∷ xs) =
    let a = sum-cons (f x + g x) (map (λ s. f s + g s) xs) in
    let b = sum-cons (f x) (map f xs) in
    let c = sum-cons (g x) (map g xs) in
    let r = sum-add f g xs in omega (arith, a, b, c, r)

sum-same : (f g : ℕ → ℕ) → ((s : ℕ) → f s ≡ g s) → (xs : List ℕ) → sum (map f xs) ≡ sum (map g xs)
sum-same f g h [] = refl
sum-same f g h (x ∷ xs) =
    let a = sum-cons (f x) (map f xs) in
    let b = sum-cons (g x) (map g xs) in
    let e = h x in
    let r = sum-same f g h xs in omega (arith, a, b, e, r)

sum-none : (v a n : ℕ) → v < a → sum (map (if_same v) (range_with_len a n)) ≡ 0
sum-none v a zero h = refl
sum-none v a (suc n) h =
    let e = sum-cons (if_same v a) (map (if_same v) (range_with_len (a + 1) n)) in
    let z : if_same v a ≡ 0 = cond-false _ _ _ (ne_eqb v a (omega (arith, h))) in
    let r = sum-none v (a + 1) n (omega (arith, h)) in omega (arith, e, z, r)

sum-one : (v a n : ℕ) → sum (map (if_same v) (range_with_len a n)) ≤ 1
sum-one v a zero = omega arith
sum-one v a (suc n) =
    let e = sum-cons (if_same v a) (map (if_same v) (range_with_len (a + 1) n)) in
    elim (cases_Bool (v == a)) [
      | inl t ↦ (let is : v ≡ a = eqb-true v a t in
          let z : if_same v a ≡ 1 = cond-true _ _ _ t in
          let r = sum-none v (a + 1) n (omega (arith, is)) in omega (arith, e, z, r))
      | inr f ↦ (let z : if_same v a ≡ 0 = cond-false _ _ _ f in
          let r = sum-one v (a + 1) n in omega (arith, e, z, r))
    ]

sum-zero : (xs : List ℕ) → sum (map (λ s. count_in [] s) xs) ≡ 0
sum-zero [] = refl
sum-zero (x ∷ xs) = let e = sum-cons 0 (map (λ s. count_in [] s) xs) in let r = sum-zero xs in omega (arith, e, r)

-- all counts together are no more than the symbols
sum-counts : (xs : List ℕ) (n : ℕ) → sum (map (count_in xs) (range_with_len 0 n)) ≤ length xs
sum-counts [] n = let z = sum-zero (range_with_len 0 n) in omega (arith, z)
sum-counts (x ∷ xs) n =
    let same = sum-same (count_in (x ∷ xs)) (λ s. if_same x s + count_in xs s) (λ s. count-cons x s xs) (range_with_len 0 n) in
    let add = sum-add (if_same x) (count_in xs) (range_with_len 0 n) in
    let one = sum-one x 0 n in
    let rest = sum-counts xs n in omega (arith, same, add, one, rest)

pub counts_of-length : (symbols : List ℕ) → length (counts_of symbols) ≡ greatest_count symbols + 1
unfolding counts_of
counts_of-length symbols = length-map-range_with_len (count_in symbols) 0 (greatest_count symbols + 1)

pub counts_of-at : (symbols : List ℕ) (s : ℕ) → s ≤ greatest_count symbols → get_or (counts_of symbols) s 0 ≡ count_in symbols s
unfolding counts_of
counts_of-at symbols s h = get_or-map-range_with_len (count_in symbols) 0 (greatest_count symbols + 1) s s 0 (omega (arith, h)) (omega arith)

pub counts_of-positive : (symbols : List ℕ) (k : ℕ) → k < length symbols → 0 < get_or (counts_of symbols) (get_or symbols k 0) 0
counts_of-positive symbols k h =
    let e = counts_of-at symbols (get_or symbols k 0) (each-greatest symbols k) in
    let p = count-positive symbols k h in omega (arith, e, p)

sum-counts_of : (symbols : List ℕ) → sum (counts_of symbols) ≤ length symbols
unfolding counts_of
sum-counts_of symbols = sum-counts symbols (greatest_count symbols + 1)

-- as many symbols are used as there are counts, at most
pub used-few : (symbols : List ℕ) → used_of (counts_of symbols) ≤ greatest_count symbols + 1
used-few symbols = let l = counts_of-length symbols in let h = count_by-le-length (λ n. nat_lt 0 n) (counts_of symbols) in omega (arith, l, h)

-- the counts of symbols have a table
pub has-table : (symbols : List ℕ) (bits : ℕ) → 0 < length symbols → length symbols < 2 ^ 31 → greatest_count symbols < 2 ^ 20 → used_of (counts_of symbols) ≤ 2 ^ bits → HasTable (counts_of symbols) bits
has-table symbols bits some few small used =
    let l = counts_of-length symbols in
    let at = greatest-reached symbols some in
    let p : 0 < get_or (counts_of symbols) (greatest_count symbols) 0 = subst (λ s. 0 < get_or (counts_of symbols) s 0) at.2 (counts_of-positive symbols at.0 at.1) in
    let e : length (counts_of symbols) - 1 ≡ greatest_count symbols = omega (arith, l) in
    let total = sum-counts_of symbols in record {
      some = omega (arith, l);
      last = subst (λ s. 0 < get_or (counts_of symbols) s 0) (sym e) p;
      few = omega (arith, l, small);
      used = used;
      small = omega (arith, total, few);
    }

-- ---- counting one after another

-- one symbol more is counted
pub counted-next : (symbols counts next : List ℕ) (k v n : ℕ) → k < length symbols → v ≡ get_or symbols k 0 → v < n → length counts ≡ n
    → ((s : ℕ) → s < n → get_or counts s 0 ≡ count_in (take k symbols) s) → next ≡ set counts v (get_or counts v 0 + 1)
    → (s : ℕ) → s < n → get_or next s 0 ≡ count_in (take (k + 1) symbols) s
counted-next symbols counts next k v n inside is below len so after s h = elim (cases_Bool (v == s)) [
  | inl t ↦ (
      let e : v ≡ s = eqb-true v s t in
      let at : get_or next s 0 ≡ get_or counts v 0 + 1 =
      ap (λ xs. get_or xs s 0) after ∙ ap (λ i. get_or (set counts v (get_or counts v 0 + 1)) i 0) (sym e) ∙ get_or-set_same counts v (get_or counts v 0 + 1) 0 (omega (arith, below, len)) in
      let more : count_in (take (k + 1) symbols) s ≡ count_in (take k symbols) s + 1 = count_by_more_yes (λ x. x == s) symbols k 0 inside (eq-eqb (get_or symbols k 0) s (sym is ∙ e)) in
      let was = so v below in
      let same : count_in (take k symbols) v ≡ count_in (take k symbols) s = ap (λ x. count_in (take k symbols) x) e in
      omega (arith, at, more, was, same))
  | inr f ↦ (
      let ne : s ≢ v = λ e. true≢false (sym (eq-eqb v s (sym e)) ∙ f) in
      let at : get_or next s 0 ≡ get_or counts s 0 = ap (λ xs. get_or xs s 0) after ∙ get_or-set_other counts v s (get_or counts v 0 + 1) 0 ne in
      let more : count_in (take (k + 1) symbols) s ≡ count_in (take k symbols) s = count_by_more_no (λ x. x == s) symbols k 0 inside (ap (λ x. x == s) (sym is) ∙ f) in
      at ∙ so s h ∙ sym more)
]

-- all are counted
pub counted-all : (symbols counts : List ℕ) → length counts ≡ greatest_count symbols + 1
    → ((s : ℕ) → s < greatest_count symbols + 1 → get_or counts s 0 ≡ count_in (take (length symbols) symbols) s) → counts ≡ counts_of symbols
counted-all symbols counts len so =
    ext_get_or 0 counts (counts_of symbols) (len ∙ sym (counts_of-length symbols)) (λ i h.
    so i (omega (arith, h, len)) ∙ ap (λ xs. count_in xs i) (take_all (length symbols) symbols (omega arith)) ∙ sym (counts_of-at symbols i (omega (arith, h, len))))

-- a count is no more than the symbols
pub counted-few : (symbols : List ℕ) (k s : ℕ) → count_in (take k symbols) s ≤ k
counted-few symbols k s =
    let h = count_by-le-length (λ x. x == s) (take k symbols) in
    let l = length-take k symbols in omega (arith, h, l)

-- all costs are summed
pub symbols-cost : (values counts : List ℕ) (cost n : ℕ) → counts ≡ counts_of values → cost ≡ sum (map (cost_of_count (length values)) (take n counts)) → length counts ≤ n
    → cost + 8 * length counts ≡ raw_cost values
symbols-cost values counts cost n is so done =
    let whole : take n counts ≡ counts_of values = take_all n counts done ∙ is in
    let l : length counts ≡ greatest_count values + 1 = ap length is ∙ counts_of-length values in
    let s : cost ≡ sum (map (cost_of_count (length values)) (counts_of values)) = so ∙ ap (λ xs. sum (map (cost_of_count (length values)) xs)) whole in
    omega (arith, l, s)
