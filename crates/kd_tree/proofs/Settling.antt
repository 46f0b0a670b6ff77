-- Keys in order are settled: in each box the lower box comes before the upper box.
use Rattle.std.proofs.Common.{◌≡◌, ℕ, zero, suc, ◌+◌, ◌<◌, Bool, true, false, not, cond, List, [], ◌∷◌, ◌++◌, length, drop, get_or, sym, refl, ap, ◌∙◌, arith}
use Rattle.std.specs.Prelude.{All, AllPairs, filter}
use Rattle.std.specs.Ordering.{is_lt}
use Rattle.std.proofs.lemmas.Bool.{false≢true}
use Rattle.std.proofs.lemmas.List.{drop_more}
use Rattle.std.proofs.lemmas.List.Elements.{filter_passes}
use Rattle.std.proofs.lemmas.List.Kept.{AllPairs-filter}
use Rattle.kd_tree.specs.Keys.{Key, bit_at, is_low}
use Rattle.kd_tree.specs.Trees.{IsSettled, lower, upper}
use Rattle.kd_tree.specs.Order.{key_cmp}
use Rattle.kd_tree.proofs.Counts.{AreLong, long-lower, long-upper}

-- from depth d on, the second key isn't before the first
abbrev pub IsNoLess : ℕ → Key → Key → Type 0
IsNoLess d x y = is_lt (key_cmp (drop d y) (drop d x)) ≡ false

abbrev pub Ascends : ℕ → List Key → Type 0
Ascends d box = AllPairs (IsNoLess d) box

same-then : (b : Bool) (xs ys : Key) → key_cmp (b ∷ xs) (b ∷ ys) ≡ key_cmp xs ys
same-then true xs ys = refl
same-then false xs ys = refl

-- where both keys have the same bit at d, the later bits decide
next-depth : (d : ℕ) (x y : Key) → d < length x → d < length y → bit_at d x ≡ bit_at d y → IsNoLess d x y → IsNoLess (d + 1) x y
next-depth d x y h k same up =
    let a : drop d x ≡ bit_at d x ∷ drop (d + 1) x = drop_more x d false h in
    let b : drop d y ≡ bit_at d x ∷ drop (d + 1) y = drop_more y d false k ∙ ap (λ t. t ∷ drop (d + 1) y) (sym same) in
    let e : key_cmp (drop d y) (drop d x) ≡ key_cmp (drop (d + 1) y) (drop (d + 1) x) =
    ap (λ zs. key_cmp zs (drop d x)) b ∙ ap (key_cmp (bit_at d x ∷ drop (d + 1) y)) a ∙ same-then (bit_at d x) (drop (d + 1) y) (drop (d + 1) x) in
    sym (ap is_lt e) ∙ up

-- a bit 1 is never before a bit 0
one-stays : (d : ℕ) (x y : Key) → d < length x → d < length y → IsNoLess d x y → bit_at d x ≡ true → bit_at d y ≡ true
one-stays d x y h k up one =
    let a : drop d x ≡ true ∷ drop (d + 1) x = drop_more x d false h ∙ ap (λ t. t ∷ drop (d + 1) x) one in
    let b : drop d y ≡ bit_at d y ∷ drop (d + 1) y = drop_more y d false k in
    let e : is_lt (key_cmp (bit_at d y ∷ drop (d + 1) y) (true ∷ drop (d + 1) x)) ≡ false =
    sym (ap is_lt (ap (λ zs. key_cmp zs (drop d x)) b ∙ ap (key_cmp (bit_at d y ∷ drop (d + 1) y)) a)) ∙ up in
    high (bit_at d y) (drop (d + 1) y) (drop (d + 1) x) e where
      high : (b : Bool) (ys xs : Key) → is_lt (key_cmp (b ∷ ys) (true ∷ xs)) ≡ false → b ≡ true
      high true ys xs e = refl
      high false ys xs e = absurd (false≢true (sym e))

-- a list in which nothing that fails comes after what passes is its two filters joined
none-low : (p : Key → Bool) (xs : List Key) → All (λ x. p x ≡ true) xs → filter (λ x. not (p x)) xs ≡ []
none-low p [] all = refl
none-low p (x ∷ xs) all =
    ap (λ b. cond (not b) (x ∷ filter (λ y. not (p y)) xs) (filter (λ y. not (p y)) xs)) (all 0 x (omega arith)) ∙ none-low p xs (λ k e h. all (suc k) e (omega arith))

all-high : (p : Key → Bool) (xs : List Key) → All (λ x. p x ≡ true) xs → filter p xs ≡ xs
all-high p [] all = refl
all-high p (x ∷ xs) all =
    ap (λ b. cond b (x ∷ filter p xs) (filter p xs)) (all 0 x (omega arith)) ∙ ap (λ ks. x ∷ ks) (all-high p xs (λ k e h. all (suc k) e (omega arith)))

part-step : (p : Key → Bool) (x : Key) (xs : List Key) → AllPairs (λ y z. p y ≡ true → p z ≡ true) (x ∷ xs) → xs ≡ filter (λ y. not (p y)) xs ++ filter p xs → (b : Bool) → p x ≡ b →
    x ∷ xs ≡ filter (λ y. not (p y)) (x ∷ xs) ++ filter p (x ∷ xs)
part-step p x xs pairs rest true e =
    let all : All (λ y. p y ≡ true) (x ∷ xs) = λ k. elim k as (λ n. (d : Key) → n < length (x ∷ xs) → p (get_or (x ∷ xs) n d) ≡ true) [
      | zero ↦ (λ d h. e)
      | suc n ↦ (λ d h. pairs 0 (suc n) d (omega arith) h e)
    ] in
    sym (ap (λ ks. ks ++ filter p (x ∷ xs)) (none-low p (x ∷ xs) all) ∙ all-high p (x ∷ xs) all)
part-step p x xs pairs rest false e =
    ap (λ ks. x ∷ ks) rest
    ∙ sym (ap (λ b. cond (not b) (x ∷ filter (λ y. not (p y)) xs) (filter (λ y. not (p y)) xs) ++ cond b (x ∷ filter p xs) (filter p xs)) e)

pub parted-from : (p : Key → Bool) (xs : List Key) → AllPairs (λ x y. p x ≡ true → p y ≡ true) xs → xs ≡ filter (λ x. not (p x)) xs ++ filter p xs
parted-from p [] pairs = refl
parted-from p (x ∷ xs) pairs = part-step p x xs pairs (parted-from p xs (λ i j d h k. pairs (suc i) (suc j) d (omega arith) (omega arith))) (p x) refl

pub settle : (left d : ℕ) (box : List Key) → AreLong (d + left) box → Ascends d box → IsSettled left d box
settle zero d box long up = tt
settle (suc left) d box long up =
    let deep : (k : ℕ) (e : Key) → k < length box → d < length (get_or box k e) = λ k e h. (let l = long k e h in omega (arith, l)) in
    let parted : box ≡ lower d box ++ upper d box =
    parted-from (bit_at d) box (λ i j e h k one. one-stays d (get_or box i e) (get_or box j e) (deep i e (omega (arith, h, k))) (deep j e k) (up i j e h k) one) in
    let low_long : AreLong (d + 1 + left) (lower d box) = long-lower left d box long in
    let high_long : AreLong (d + 1 + left) (upper d box) = long-upper left d box long in
    let low_up : Ascends (d + 1) (lower d box) = λ i j e h k.
    let pi = filter_passes (is_low d) box i e (omega (arith, h, k)) in
    let pj = filter_passes (is_low d) box j e k in
    let li = low_long i e (omega (arith, h, k)) in
    let lj = low_long j e k in
    next-depth d (get_or (lower d box) i e) (get_or (lower d box) j e) (omega (arith, li)) (omega (arith, lj)) (both-low (bit_at d (get_or (lower d box) i e)) (bit_at d (get_or (lower d box) j e)) pi pj)
    (AllPairs-filter (IsNoLess d) (is_low d) box up i j e h k) in
    let high_up : Ascends (d + 1) (upper d box) = λ i j e h k.
    let pi = filter_passes (bit_at d) box i e (omega (arith, h, k)) in
    let pj = filter_passes (bit_at d) box j e k in
    let li = high_long i e (omega (arith, h, k)) in
    let lj = high_long j e k in
    next-depth d (get_or (upper d box) i e) (get_or (upper d box) j e) (omega (arith, li)) (omega (arith, lj)) (pi ∙ sym pj)
    (AllPairs-filter (IsNoLess d) (bit_at d) box up i j e h k) in
    (parted, settle left (d + 1) (lower d box) low_long low_up, settle left (d + 1) (upper d box) high_long high_up) where
      both-low : (a b : Bool) → not a ≡ true → not b ≡ true → a ≡ b
      both-low true b h k = absurd (false≢true h)
      both-low false true h k = absurd (false≢true k)
      both-low false false h k = refl
