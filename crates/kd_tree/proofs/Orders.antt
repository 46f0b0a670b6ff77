-- The order of packed keys is the order of their bits.
use Rattle.std.proofs.Common.{◌-◌, ◌≡◌, ℕ, zero, suc, ◌+◌, ◌*◌, ◌/◌, ◌%◌, ◌^◌, ◌<◌, ◌≤◌, List, [], ◌∷◌, ◌++◌, length, map, drop, get_or, sym, refl, ap, ◌∙◌, subst, inl, inr, arith, pow_pos, lt-ltb, le-ltb, ne_eqb, eq-eqb, mod-eq_of_lt, mod-lt}
use Rattle.std.specs.Prelude.{All, ◌==◌, IsPermutation, IsSorted}
use Rattle.std.specs.List.{range_with_len}
use Rattle.std.specs.Ordering.{bool_cmp, is_lt, nat_cmp, ordering_then}
use Rattle.std.specs.declared.cmp.Ordering.{Ordering}
use Rattle.std.specs.declared.cmp.Ordering.TheVariants.{Less, Equal, Greater}
use Rattle.std.specs.Cmp.Lexicographic.{slice_cmp}
use Rattle.std.proofs.lemmas.Bool.{cases_lt, cond-true, cond-false}
use Rattle.std.proofs.lemmas.Nat.{mod-pow-add}
use Rattle.std.proofs.lemmas.List.{get_or-drop, get_or-map, get_or-take, get_or_past, get_or_read, length-drop, length-map, length-take-le, map-id, map_push}
use Rattle.std.proofs.lemmas.List.Elements.{All-push}
use Rattle.std.proofs.lemmas.List.FromFn.{get_or-range_with_len, length-range_with_len, map-range_with_len_more}
use Rattle.std.proofs.lemmas.List.Sorted.{All-permutation, IsPermutation-map}
use Rattle.kd_tree.specs.Keys.{Key, KeyRows, key_at}
use Rattle.kd_tree.specs.Order.{IsOrderBy, key_cmp, point_cmp}
use Rattle.kd_tree.specs.Trees.{high_bits}
use Rattle.kd_tree.specs.Packing.{AreClean, front_key, key_from, keys_in, packed_row, row_cmp, IsWordOf, words_for}
use Rattle.kd_tree.proofs.Bits.{drop-high_bits, length-high_bits}
use Rattle.kd_tree.proofs.Packed.{count-is, front-row, key-keys_in, length-keys_in, row-in}

range-more : (a n j : ℕ) → a + n ≡ j → range_with_len a (n + 1) ≡ range_with_len a n ++ j ∷ []
range-more a n j e = sym (map-id (range_with_len a (n + 1))) ∙ map-range_with_len_more (λ i. i) a n j e ∙ ap (λ xs. xs ++ j ∷ []) (map-id (range_with_len a n))

-- ---- numbers

less : (a b : ℕ) → a < b → nat_cmp a b ≡ Less
less a b h = cond-true _ _ _ (lt-ltb a b h)

equal : (a b : ℕ) → a ≡ b → nat_cmp a b ≡ Equal
equal a b e = cond-false _ _ _ (le-ltb a b (omega (arith, e))) ∙ cond-true _ _ _ (eq-eqb a b e)

greater : (a b : ℕ) → b < a → nat_cmp a b ≡ Greater
greater a b h = cond-false _ _ _ (le-ltb a b (omega (arith, h))) ∙ cond-false _ _ _ (ne_eqb a b (λ e. absurd (omega (arith, e, h))))

-- the same number before both
nat_cmp-add : (c a b : ℕ) → nat_cmp (c + a) (c + b) ≡ nat_cmp a b
nat_cmp-add c a b = elim (cases_lt a b) [
  | inl low ↦ less (c + a) (c + b) (omega (arith, low)) ∙ sym (less a b low)
  | inr high ↦ elim (cases_lt b a) [
    | inl over ↦ greater (c + a) (c + b) (omega (arith, over)) ∙ sym (greater a b over)
    | inr same ↦ equal (c + a) (c + b) (omega (arith, high, same)) ∙ sym (equal a b (omega (arith, high, same)))
  ]
]

-- a bit above the others
bit-first : (x p q r s : ℕ) → p < 2 → q < 2 → r < x → s < x → ordering_then (bool_cmp (p == 1) (q == 1)) (nat_cmp r s) ≡ nat_cmp (p * x + r) (q * x + s)
bit-first x zero zero r s hp hq hr hs = sym (nat_cmp-add (0 * x) r s)
bit-first x zero (suc zero) r s hp hq hr hs = sym (less (0 * x + r) (1 * x + s) (omega arith))
bit-first x zero (suc (suc q)) r s hp hq hr hs = absurd (omega (arith, hq))
bit-first x (suc zero) zero r s hp hq hr hs = sym (greater (1 * x + r) (0 * x + s) (omega arith))
bit-first x (suc zero) (suc zero) r s hp hq hr hs = sym (nat_cmp-add (1 * x) r s)
bit-first x (suc zero) (suc (suc q)) r s hp hq hr hs = absurd (omega (arith, hq))
bit-first x (suc (suc p)) q r s hp hq hr hs = absurd (omega (arith, hp))

-- numbers are in the order of their bits
pub high_bits-order : (n a b : ℕ) → key_cmp (high_bits n a) (high_bits n b) ≡ nat_cmp (a % 2 ^ n) (b % 2 ^ n)
unfolding high_bits
high_bits-order zero a b = sym (equal (a % 1) (b % 1) (omega arith))
high_bits-order (suc n) a b =
    let x : ℕ = 2 ^ n in
    let some = pow_pos n in
    let one : suc n ≡ 1 + n = omega arith in
    let low : a % 2 ^ suc n ≡ a / x % 2 * x + a % x = ap (λ k. a % 2 ^ k) one ∙ mod-pow-add a 1 n in
    let high : b % 2 ^ suc n ≡ b / x % 2 * x + b % x = ap (λ k. b % 2 ^ k) one ∙ mod-pow-add b 1 n in
    ap (ordering_then (bool_cmp (a / x % 2 == 1) (b / x % 2 == 1))) (high_bits-order n a b)
    ∙ bit-first x (a / x % 2) (b / x % 2) (a % x) (b % x) (omega arith) (omega arith) (mod-lt a some) (mod-lt b some)
    ∙ ap (λ k. nat_cmp k (b / x % 2 * x + b % x)) (sym low) ∙ ap (nat_cmp (a % 2 ^ suc n)) (sym high)

-- ---- lists of words

then-equal : (o : Ordering) → ordering_then o Equal ≡ o
then-equal Less = refl
then-equal Equal = refl
then-equal Greater = refl

then-then : (o p q : Ordering) → ordering_then o (ordering_then p q) ≡ ordering_then (ordering_then o p) q
then-then Less p q = refl
then-then Equal p q = refl
then-then Greater p q = refl

-- fronts of one length decide first
key_cmp-append : (xs ys us vs : Key) → length xs ≡ length ys → key_cmp (xs ++ us) (ys ++ vs) ≡ ordering_then (key_cmp xs ys) (key_cmp us vs)
key_cmp-append [] [] us vs h = refl
key_cmp-append [] (y ∷ ys) us vs h = absurd (omega (arith, h))
key_cmp-append (x ∷ xs) [] us vs h = absurd (omega (arith, h))
key_cmp-append (x ∷ xs) (y ∷ ys) us vs h =
    ap (ordering_then (bool_cmp x y)) (key_cmp-append xs ys us vs (omega (arith, h))) ∙ then-then (bool_cmp x y) (key_cmp xs ys) (key_cmp us vs)

-- words of which each fits
abbrev pub AreFit : List ℕ → Type 0
AreFit words = (k : ℕ) → get_or words k 0 < 2 ^ 64

pub words-order : (whole part : ℕ) (ws vs : List ℕ) → length ws ≡ whole + 1 → length vs ≡ whole + 1 → AreFit ws → AreFit vs → get_or ws whole 0 < 2 ^ part → get_or vs whole 0 < 2 ^ part →
    key_cmp (key_from whole part ws) (key_from whole part vs) ≡ slice_cmp nat_cmp ws vs
unfolding key_from
words-order zero part [] vs h k fw fv lw lv = absurd (omega (arith, h))
words-order zero part (w ∷ ws) [] h k fw fv lw lv = absurd (omega (arith, k))
words-order zero part (w ∷ []) (v ∷ []) h k fw fv lw lv =
    high_bits-order part w v ∙ ap (λ n. nat_cmp n (v % 2 ^ part)) (mod-eq_of_lt lw) ∙ ap (nat_cmp w) (mod-eq_of_lt lv) ∙ sym (then-equal (nat_cmp w v))
words-order zero part (w ∷ []) (v ∷ x ∷ vs) h k fw fv lw lv = absurd (omega (arith, k))
words-order zero part (w ∷ x ∷ ws) (v ∷ vs) h k fw fv lw lv = absurd (omega (arith, h))
words-order (suc whole) part [] vs h k fw fv lw lv = absurd (omega (arith, h))
words-order (suc whole) part (w ∷ ws) [] h k fw fv lw lv = absurd (omega (arith, k))
words-order (suc whole) part (w ∷ ws) (v ∷ vs) h k fw fv lw lv =
    key_cmp-append (high_bits 64 w) (high_bits 64 v) (key_from whole part ws) (key_from whole part vs) (length-high_bits 64 w ∙ sym (length-high_bits 64 v))
    ∙ ap (λ o. ordering_then o (key_cmp (key_from whole part ws) (key_from whole part vs)))
    (high_bits-order 64 w v ∙ ap (λ n. nat_cmp n (v % 2 ^ 64)) (mod-eq_of_lt (fw 0)) ∙ ap (nat_cmp w) (mod-eq_of_lt (fv 0)))
    ∙ ap (ordering_then (nat_cmp w v)) (words-order whole part ws vs (omega (arith, h)) (omega (arith, k)) (λ i. fw (suc i)) (λ i. fv (suc i)) lw lv)

-- ---- sorted pairs

-- what is sorted by a comparison is so by their numbers
sorted-map : {X : Type 0} (number : X → ℕ) (P : X → Type 0) (R : X → X → Ordering) (cmp : ℕ → ℕ → Ordering) → ((x y : X) → P x → P y → R x y ≡ cmp (number x) (number y)) →
    (items : List X) → All P items → IsSorted R items → IsSorted cmp (map number items)
sorted-map number P R cmp same [] all sorted k d h l = absurd (omega arith)
sorted-map number P R cmp same (x ∷ xs) all sorted k d h l =
    let items = x ∷ xs in
    let long : length (map number items) ≡ length items = length-map items number in
    let inside : k + 1 < length items = omega (arith, l, long) in
    let before : k < length items = omega (arith, inside) in
    let e : R (get_or items (k + 1) x) (get_or items k x) ≡ cmp (get_or (map number items) (k + 1) d) (get_or (map number items) k d) =
    same (get_or items (k + 1) x) (get_or items k x) (all (k + 1) x inside) (all k x before)
    ∙ ap (λ n. cmp n (number (get_or items k x))) (sym (get_or-map number items (k + 1) x d inside))
    ∙ ap (cmp (get_or (map number items) (k + 1) d)) (sym (get_or-map number items k x d before)) in
    ap is_lt (sym e) ∙ sorted k x h inside

pub order-by : {X : Type 0} (number : X → ℕ) (P : X → Type 0) (R : X → X → Ordering) (cmp : ℕ → ℕ → Ordering) → ((x y : X) → P x → P y → R x y ≡ cmp (number x) (number y)) →
    (n : ℕ) (items sorted : List X) → map number items ≡ range_with_len 0 n → All P items → IsPermutation items sorted → IsSorted R sorted → IsOrderBy cmp n (map number sorted)
order-by number P R cmp same n items sorted numbers all moved up = record {
  each = subst (λ ns. IsPermutation ns (map number sorted)) numbers (IsPermutation-map number items sorted moved);
  ascending = sorted-map number P R cmp same sorted (All-permutation P items sorted moved all) up;
}

-- each number of an order is below n
pub order-below : (cmp : ℕ → ℕ → Ordering) (n : ℕ) (order : List ℕ) → IsOrderBy cmp n order → All (λ i. i < n) order
order-below cmp n order h = All-permutation (λ i. i < n) (range_with_len 0 n) order h.each (λ k d l.
    let small : k < n = omega (arith, l, length-range_with_len 0 n) in
    let e = get_or-range_with_len 0 n k d small in omega (arith, e, small))

-- comparisons that agree below n have the same orders
pub order-same : (cmp other : ℕ → ℕ → Ordering) (n : ℕ) (order : List ℕ) → ((i j : ℕ) → i < n → j < n → cmp i j ≡ other i j) → IsOrderBy cmp n order → IsOrderBy other n order
order-same cmp other n order same h = record {
  each = h.each;
  ascending = λ k d l m.
      let all = order-below cmp n order h in
      ap is_lt (sym (same (get_or order (k + 1) d) (get_or order k d) (all (k + 1) d m) (all k d (omega (arith, m))))) ∙ h.ascending k d l m;
}

-- ---- keys of one word, and of several

-- the key of one word
key-word : (depth n : ℕ) (words : List ℕ) (i : ℕ) → depth < 64 → i < n → key_at (keys_in depth n words) i ≡ high_bits depth (get_or words i 0)
unfolding key_from
key-word depth n words i few h =
    key-keys_in depth n words i h
    ∙ ap (λ k. key_from k (depth % 64) (drop (i * (k + 1)) words)) (let e : depth / 64 ≡ 0 = omega arith in e)
    ∙ ap (λ k. high_bits k (get_or (drop (i * (0 + 1)) words) 0 0)) (let e : depth % 64 ≡ depth = omega arith in e)
    ∙ ap (high_bits depth) (get_or-drop (i * (0 + 1)) words 0 0 ∙ ap (λ k. get_or words k 0) (let e : i * (0 + 1) + 0 ≡ i = omega arith in e))

word-clean : (depth n : ℕ) (words : List ℕ) (i : ℕ) → depth < 64 → i < n → AreClean depth n words → get_or words i 0 < 2 ^ depth
word-clean depth n words i few h clean =
    let c = clean i h in
    let place : i * words_for depth + depth / 64 ≡ i = ap (λ k. i * (k + 1) + k) (let e : depth / 64 ≡ 0 = omega arith in e) ∙ (let e : i * (0 + 1) + 0 ≡ i = omega arith in e) in
    let whole : depth % 64 ≡ depth = omega arith in
    subst (λ k. get_or words i 0 < 2 ^ k) whole (subst (λ k. get_or words k 0 < 2 ^ (depth % 64)) place c)

-- keys as numbers are in the order of the keys
pub word-order : (v : KeyRows) (i j word other : ℕ) → IsWordOf v i word → IsWordOf v j other → ordering_then (nat_cmp word other) (nat_cmp i j) ≡ point_cmp v.rows i j
word-order v i j word other one two =
    ap (λ o. ordering_then o (nat_cmp i j)) (sym (
    ap (λ k. key_cmp k (key_at v.rows j)) one.1 ∙ ap (key_cmp (high_bits v.depth word)) two.1
    ∙ high_bits-order v.depth word other
    ∙ ap (λ k. nat_cmp k (other % 2 ^ v.depth)) (mod-eq_of_lt one.0) ∙ ap (nat_cmp word) (mod-eq_of_lt two.0)))

-- keys of numbers are the keys with those numbers
pub word-rows : (v : KeyRows) (pairs : List (ℕ × ℕ)) → All (λ (p : ℕ × ℕ). IsWordOf v p.1 p.0) pairs → map (λ (p : ℕ × ℕ). high_bits v.depth p.0) pairs ≡ map (key_at v.rows) (map (λ (p : ℕ × ℕ). p.1) pairs)
word-rows v [] all = refl
word-rows v (p ∷ pairs) all =
    ap (λ k. k ∷ map (λ (q : ℕ × ℕ). high_bits v.depth q.0) pairs) (sym ((all 0 p (omega arith)).1))
    ∙ ap (λ ks. key_at v.rows p.1 ∷ ks) (word-rows v pairs (λ k d h. all (suc k) d (omega arith)))

-- a row of a table: its length, its words, and its key
module _ (depth n : ℕ) (words : List ℕ) (is : length words ≡ n * words_for depth) (clean : AreClean depth n words) (fit : AreFit words) (i : ℕ) (h : i < n) where
  row-room : words_for depth ≤ length (drop (i * words_for depth) words)
  row-room = let r = row-in depth n i (words_for depth) (length words) is refl h in omega (arith, r, length-drop (i * words_for depth) words)

  row-long : length (packed_row (words_for depth) words i) ≡ depth / 64 + 1
  row-long = length-take-le (words_for depth) (drop (i * words_for depth) words) row-room

  row-fit : AreFit (packed_row (words_for depth) words i)
  row-fit k = elim (cases_lt k (words_for depth)) [
    | inl low ↦ (let e = get_or-take (words_for depth) (drop (i * words_for depth) words) k 0 low ∙ get_or-drop (i * words_for depth) words k 0 in let f = fit (i * words_for depth + k) in omega (arith, e, f))
    | inr high ↦ (let e = get_or_past (packed_row (words_for depth) words i) k 0 (omega (arith, row-long, high)) in omega (arith, e))
  ]

  row-last : get_or (packed_row (words_for depth) words i) (depth / 64) 0 < 2 ^ (depth % 64)
  row-last =
      let e = get_or-take (words_for depth) (drop (i * words_for depth) words) (depth / 64) 0 (omega arith) ∙ get_or-drop (i * words_for depth) words (depth / 64) 0 in
      let c = clean i h in omega (arith, e, c)

  row-key : key_at (keys_in depth n words) i ≡ front_key depth (packed_row (words_for depth) words i)
  row-key = key-keys_in depth n words i h ∙ sym (front-row depth (drop (i * words_for depth) words) row-room)

pub row-order : (depth n : ℕ) (words order : List ℕ) → length words ≡ n * words_for depth → AreClean depth n words → AreFit words →
    IsOrderBy (row_cmp (words_for depth) words) n order → IsOrderBy (point_cmp (keys_in depth n words)) (length (keys_in depth n words)) order
row-order depth n words order is clean fit h =
    let rows : List Key = keys_in depth n words in
    let each : (i j : ℕ) → i < n → j < n → row_cmp (words_for depth) words i j ≡ point_cmp rows i j = λ i j a b.
    ap (λ o. ordering_then o (nat_cmp i j)) (sym (
    ap (λ k. key_cmp k (key_at rows j)) (row-key depth n words is clean fit i a) ∙ ap (key_cmp (front_key depth (packed_row (words_for depth) words i))) (row-key depth n words is clean fit j b)
    ∙ words-order (depth / 64) (depth % 64) (packed_row (words_for depth) words i) (packed_row (words_for depth) words j) (row-long depth n words is clean fit i a) (row-long depth n words is clean fit j b)
    (row-fit depth n words is clean fit i a) (row-fit depth n words is clean fit j b) (row-last depth n words is clean fit i a) (row-last depth n words is clean fit j b))) in
    subst (λ k. IsOrderBy (point_cmp rows) k order) (sym (length-keys_in depth n words)) (order-same (row_cmp (words_for depth) words) (point_cmp rows) n order each h)

-- one number more of a list of pairs
pub numbers-more : {X : Type 0} (number : X → ℕ) (items new : List X) (x : X) (k : ℕ) → new ≡ items ++ x ∷ [] → map number items ≡ range_with_len 0 k → number x ≡ k → map number new ≡ range_with_len 0 (k + 1)
numbers-more number items new x k put so_far is =
    ap (map number) put ∙ map_push number items x ∙ ap (λ xs. xs ++ number x ∷ []) so_far ∙ ap (λ n. range_with_len 0 k ++ n ∷ []) is ∙ sym (range-more 0 k k (omega arith))

pub all-more : {X : Type 0} (P : X → Type 0) (items new : List X) (x : X) → new ≡ items ++ x ∷ [] → All P items → P x → All P new
all-more P items new x put all one = subst (All P) (sym put) (All-push P items x all one)

-- the rest of a key of one word
pub word-there : (depth n point long : ℕ) → depth < 64 → long ≡ n * words_for depth → point < n → point < long
word-there depth n point long few is h =
    let e : n * words_for depth ≡ n = ap (λ k. n * (k + 1)) (let e : depth / 64 ≡ 0 = omega arith in e) ∙ (let e : n * (0 + 1) ≡ n = omega arith in e) in
    omega (arith, e, is, h)

pub word-rest : (depth n : ℕ) (words : List ℕ) (v : KeyRows) (point d word : ℕ) → record { depth = depth; rows = keys_in depth n words } ≡ v → depth < 64 → length words ≡ n * words_for depth →
    point < length v.rows → word ≡ get_or words point word → high_bits (depth - d) word ≡ drop d (key_at v.rows point)
word-rest depth n words v point d word e few is h read =
    let below : point < n = (let c = count-is depth n words v e in omega (arith, c, h)) in
    let at : word ≡ get_or words point 0 = get_or_read words point word (word-there depth n point (length words) few is below) read 0 in
    let key : key_at v.rows point ≡ high_bits depth (get_or words point 0) = ap (λ (x : KeyRows). key_at x.rows point) (sym e) ∙ key-word depth n words point few below in
    ap (high_bits (depth - d)) at ∙ sym (ap (drop d) key ∙ drop-high_bits d depth (get_or words point 0))

pub word-key : (depth n : ℕ) (words : List ℕ) (v : KeyRows) (point word : ℕ) → record { depth = depth; rows = keys_in depth n words } ≡ v → depth < 64 → length words ≡ n * words_for depth →
    point < length v.rows → word ≡ get_or words point word → key_at v.rows point ≡ high_bits v.depth word
word-key depth n words v point word e few is h read =
    let below : point < n = (let c = count-is depth n words v e in omega (arith, c, h)) in
    let at : word ≡ get_or words point 0 = get_or_read words point word (word-there depth n point (length words) few is below) read 0 in
    ap (λ (x : KeyRows). key_at x.rows point) (sym e) ∙ key-word depth n words point few below ∙ ap (high_bits depth) (sym at) ∙ ap (λ (x : KeyRows). high_bits x.depth word) e

pub word-small : (depth n : ℕ) (words : List ℕ) (v : KeyRows) (point word : ℕ) → record { depth = depth; rows = keys_in depth n words } ≡ v → depth < 64 → length words ≡ n * words_for depth → AreClean depth n words →
    point < length v.rows → word ≡ get_or words point word → word < 2 ^ v.depth
word-small depth n words v point word e few is clean h read =
    let below : point < n = (let c = count-is depth n words v e in omega (arith, c, h)) in
    let at : word ≡ get_or words point 0 = get_or_read words point word (word-there depth n point (length words) few is below) read 0 in
    let small = word-clean depth n words point few below clean in
    let most : 2 ^ depth ≡ 2 ^ v.depth = ap (λ (x : KeyRows). 2 ^ x.depth) e in
    omega (arith, at, small, most)
