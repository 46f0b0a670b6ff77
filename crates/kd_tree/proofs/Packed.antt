-- Keys packed into words.
use Rattle.std.proofs.Common.{◌≡◌, ℕ, zero, suc, ◌+◌, ◌-◌, ◌*◌, ◌/◌, ◌%◌, ◌^◌, ◌<◌, ◌≤◌, Bool, false, List, [], ◌∷◌, ◌++◌, length, take, drop, get_or, sym, refl, ap, ◌∙◌, subst, inl, inr, arith, add-one, append_assoc, length-append, mul_comm}
use Rattle.std.proofs.lemmas.Nat.{mul-add-lt}
use Rattle.std.proofs.Math.Nat.{mul-le-mul_right}
use Rattle.std.specs.Prelude.{All}
use Rattle.std.proofs.lemmas.Bool.{cases_lt}
use Rattle.std.proofs.lemmas.List.{drop-drop, drop-append-le, get_or_append_left, get_or-append_right, take-append-drop, length-take-le, length-drop, nil_from_length, get_or-drop, drop_at, drop_more, get_or_read, get_or_push, get_or-append-add, get_or-take, take_at}
use Rattle.kd_tree.specs.Keys.{Key, KeyRows, bit_at, key_at}
use Rattle.kd_tree.specs.Trees.{high_bits}
use Rattle.kd_tree.specs.Reading.{number_behind}
use Rattle.kd_tree.specs.Packing.{AreClean, front_key, key_from, keys_in, packed_row, words_for}
use Rattle.kd_tree.proofs.Bits.{bits-number, length-high_bits, number-below}

pub length-key_from : (whole part : ℕ) (words : List ℕ) → length (key_from whole part words) ≡ 64 * whole + part
unfolding key_from
length-key_from zero part words = length-high_bits part (get_or words 0 0) ∙ (let e : part ≡ 64 * 0 + part = omega arith in e)
length-key_from (suc whole) part words =
    let front = length-high_bits 64 (get_or words 0 0) in
    let rest = length-key_from whole part (drop 1 words) in
    length-append (high_bits 64 (get_or words 0 0)) (key_from whole part (drop 1 words)) ∙ omega (arith, front, rest)

pub length-front_key : (depth : ℕ) (words : List ℕ) → length (front_key depth words) ≡ depth
length-front_key depth words = length-key_from (depth / 64) (depth % 64) words ∙ (let e : 64 * (depth / 64) + depth % 64 ≡ depth = omega arith in e)

pub length-keys_in : (depth n : ℕ) (words : List ℕ) → length (keys_in depth n words) ≡ n
unfolding keys_in
length-keys_in depth zero words = refl
length-keys_in depth (suc n) words = ap suc (length-keys_in depth n (drop (words_for depth) words))

-- each key has its length
pub each-keys_in : (depth n : ℕ) (words : List ℕ) → All (λ (key : Key). length key ≡ depth) (keys_in depth n words)
unfolding keys_in
each-keys_in depth zero words k d h = absurd (omega arith)
each-keys_in depth (suc n) words zero d h = length-front_key depth words
each-keys_in depth (suc n) words (suc k) d h = each-keys_in depth n (drop (words_for depth) words) k d (omega arith)

-- the key with a number
pub key-keys_in : (depth n : ℕ) (words : List ℕ) (i : ℕ) → i < n → key_at (keys_in depth n words) i ≡ front_key depth (drop (i * words_for depth) words)
unfolding keys_in
key-keys_in depth zero words i h = absurd (omega arith)
key-keys_in depth (suc n) words zero h = ap (λ k. front_key depth (drop k words)) (let e : 0 ≡ 0 * words_for depth = omega arith in e)
key-keys_in depth (suc n) words (suc i) h =
    let w : ℕ = words_for depth in
    key-keys_in depth n (drop w words) i (omega arith)
    ∙ ap (front_key depth) (drop-drop (i * w) w words ∙ ap (λ k. drop k words) (let e : w + i * w ≡ suc i * w = omega arith in e))

-- what a table's rows say of its fields
pub count-is : (depth n : ℕ) (words : List ℕ) (v : KeyRows) → record { depth = depth; rows = keys_in depth n words } ≡ v → n ≡ length v.rows
count-is depth n words v e = sym (length-keys_in depth n words) ∙ ap (λ (x : KeyRows). length x.rows) e

pub each-is : (depth n : ℕ) (words : List ℕ) (v : KeyRows) → record { depth = depth; rows = keys_in depth n words } ≡ v → All (λ (key : Key). length key ≡ v.depth) v.rows
each-is depth n words v e = subst (λ (x : KeyRows). All (λ (key : Key). length key ≡ x.depth) x.rows) e (each-keys_in depth n words)

-- the word of a bit is there
pub word-in : (depth n point d length : ℕ) → length ≡ n * words_for depth → point < n → d < depth → point * words_for depth + d / 64 < length
word-in depth n point d length is h k = let e = mul-add-lt point (words_for depth) (d / 64) n h (let g : d / 64 < words_for depth = omega arith in g) in let f : words_for depth * n ≡ n * words_for depth = mul_comm (words_for depth) n in omega (arith, e, f, is)

pub bit-whole : (whole part : ℕ) (words : List ℕ) (d : ℕ) → d / 64 < whole → get_or (key_from whole part words) d false ≡ get_or (high_bits 64 (get_or words (d / 64) 0)) (d % 64) false
unfolding key_from
bit-whole zero part words d h = absurd (omega arith)
bit-whole (suc whole) part words d h =
    let front : length (high_bits 64 (get_or words 0 0)) ≡ 64 = length-high_bits 64 (get_or words 0 0) in
    elim (cases_lt d 64) [
      | inl low ↦
          get_or_append_left (high_bits 64 (get_or words 0 0)) (key_from whole part (drop 1 words)) false d (omega arith)
          ∙ ap (λ k. get_or (high_bits 64 (get_or words k 0)) d false) (let e : 0 ≡ d / 64 = omega arith in e)
          ∙ ap (λ k. get_or (high_bits 64 (get_or words (d / 64) 0)) k false) (let e : d ≡ d % 64 = omega arith in e)
      | inr high ↦
          get_or-append_right (high_bits 64 (get_or words 0 0)) (key_from whole part (drop 1 words)) 64 d false front (omega arith)
          ∙ bit-whole whole part (drop 1 words) (d - 64) (omega arith)
          ∙ ap (λ k. get_or (high_bits 64 k) ((d - 64) % 64) false) (get_or-drop 1 words ((d - 64) / 64) 0 ∙ ap (λ k. get_or words k 0) (let e : 1 + (d - 64) / 64 ≡ d / 64 = omega arith in e))
          ∙ ap (λ k. get_or (high_bits 64 (get_or words (d / 64) 0)) k false) (let e : (d - 64) % 64 ≡ d % 64 = omega arith in e)
    ]

-- a bit in the last word
pub bit-part : (whole part : ℕ) (words : List ℕ) (d : ℕ) → part < 64 → d / 64 ≡ whole → d < 64 * whole + part → get_or (key_from whole part words) d false ≡ get_or (high_bits part (get_or words (d / 64) 0)) (d % 64) false
unfolding key_from
bit-part zero part words d few at h =
    ap (λ k. get_or (high_bits part (get_or words k 0)) d false) (sym at)
    ∙ ap (λ k. get_or (high_bits part (get_or words (d / 64) 0)) k false) (let e : d ≡ d % 64 = omega arith in e)
bit-part (suc whole) part words d few at h =
    let front : length (high_bits 64 (get_or words 0 0)) ≡ 64 = length-high_bits 64 (get_or words 0 0) in
    get_or-append_right (high_bits 64 (get_or words 0 0)) (key_from whole part (drop 1 words)) 64 d false front (omega arith)
    ∙ bit-part whole part (drop 1 words) (d - 64) few (omega arith) (omega arith)
    ∙ ap (λ k. get_or (high_bits part k) ((d - 64) % 64) false) (get_or-drop 1 words ((d - 64) / 64) 0 ∙ ap (λ k. get_or words k 0) (let e : 1 + (d - 64) / 64 ≡ d / 64 = omega arith in e))
    ∙ ap (λ k. get_or (high_bits part (get_or words (d / 64) 0)) k false) (let e : (d - 64) % 64 ≡ d % 64 = omega arith in e)

-- words behind those of a key
key_from-front : (whole part : ℕ) (words more : List ℕ) → whole < length words → key_from whole part (words ++ more) ≡ key_from whole part words
unfolding key_from
key_from-front whole part [] more h = absurd (omega arith)
key_from-front zero part (w ∷ words) more h = refl
key_from-front (suc whole) part (w ∷ words) more h = ap (λ xs. high_bits 64 w ++ xs) (key_from-front whole part words more (omega arith))

-- one key behind others
pub keys_in-push : (depth n : ℕ) (words more : List ℕ) → length words ≡ n * words_for depth → keys_in depth (suc n) (words ++ more) ≡ keys_in depth n words ++ front_key depth more ∷ []
unfolding keys_in
keys_in-push depth zero words more h = ap (λ ws. front_key depth (ws ++ more) ∷ []) (nil_from_length words (omega arith))
keys_in-push depth (suc n) words more h =
    let w : ℕ = words_for depth in
    let long : w ≤ length words = omega arith in
    let left : length (drop w words) ≡ n * w = length-drop w words ∙ omega arith in
    ap (λ k. k ∷ keys_in depth (suc n) (drop w (words ++ more))) (key_from-front (depth / 64) (depth % 64) words more (omega arith))
    ∙ ap (λ ws. front_key depth words ∷ keys_in depth (suc n) ws) (drop-append-le w words more long)
    ∙ ap (λ ks. front_key depth words ∷ ks) (keys_in-push depth n (drop w words) more left)

-- the words of bits: so many whole ones, and one of what is left
unfoldable pub packed : ℕ → List Bool → List ℕ
packed zero bits = number_behind 0 bits ∷ []
packed (suc whole) bits = number_behind 0 (take 64 bits) ∷ packed whole (drop 64 bits)

pub length-packed : (whole : ℕ) (bits : List Bool) → length (packed whole bits) ≡ whole + 1
unfolding packed
length-packed zero bits = refl
length-packed (suc whole) bits = let h = length-packed whole (drop 64 bits) in omega (arith, h)

pub packed-last : (bits : List Bool) → packed 0 bits ≡ number_behind 0 bits ∷ []
unfolding packed
packed-last bits = refl

pub packed-more : (whole : ℕ) (bits : List Bool) → packed (suc whole) bits ≡ number_behind 0 (take 64 bits) ∷ packed whole (drop 64 bits)
unfolding packed
packed-more whole bits = refl

-- packed bits are the key
pub key_from-packed : (whole part : ℕ) (bits : List Bool) → length bits ≡ 64 * whole + part → key_from whole part (packed whole bits) ≡ bits
unfolding key_from packed
key_from-packed zero part bits h = ap (λ n. high_bits n (number_behind 0 bits)) (let e : part ≡ length bits = omega arith in e) ∙ bits-number 0 bits
key_from-packed (suc whole) part bits h =
    let front : length (take 64 bits) ≡ 64 = length-take-le 64 bits (omega arith) in
    let left : length (drop 64 bits) ≡ 64 * whole + part = length-drop 64 bits ∙ omega arith in
    let word : high_bits 64 (number_behind 0 (take 64 bits)) ≡ take 64 bits = ap (λ n. high_bits n (number_behind 0 (take 64 bits))) (sym front) ∙ bits-number 0 (take 64 bits) in
    ap (λ xs. xs ++ key_from whole part (packed whole (drop 64 bits))) word
    ∙ ap (λ xs. take 64 bits ++ xs) (key_from-packed whole part (drop 64 bits) left)
    ∙ take-append-drop 64 bits

-- a bit of a table in a whole word
pub table-whole : (depth n : ℕ) (words : List ℕ) (v : KeyRows) (point d : ℕ) → record { depth = depth; rows = keys_in depth n words } ≡ v → point < length v.rows → d / 64 < depth / 64 →
    get_or (high_bits 64 (get_or words (point * words_for depth + d / 64) 0)) (d % 64) false ≡ bit_at d (key_at v.rows point)
table-whole depth n words v point d e h k =
    let at : key_at v.rows point ≡ front_key depth (drop (point * words_for depth) words) =
    ap (λ (x : KeyRows). key_at x.rows point) (sym e) ∙ key-keys_in depth n words point (let c = count-is depth n words v e in omega (arith, c)) in
    sym (ap (bit_at d) at ∙ bit-whole (depth / 64) (depth % 64) (drop (point * words_for depth) words) d k
    ∙ ap (λ w. get_or (high_bits 64 w) (d % 64) false) (get_or-drop (point * words_for depth) words (d / 64) 0))

-- a bit of a table in a last word
pub table-part : (depth n : ℕ) (words : List ℕ) (v : KeyRows) (point d : ℕ) → record { depth = depth; rows = keys_in depth n words } ≡ v → point < length v.rows → d < depth → depth / 64 ≤ d / 64 →
    get_or (high_bits (depth % 64) (get_or words (point * words_for depth + d / 64) 0)) (d % 64) false ≡ bit_at d (key_at v.rows point)
table-part depth n words v point d e h most k =
    let at : key_at v.rows point ≡ front_key depth (drop (point * words_for depth) words) =
    ap (λ (x : KeyRows). key_at x.rows point) (sym e) ∙ key-keys_in depth n words point (let c = count-is depth n words v e in omega (arith, c)) in
    sym (ap (bit_at d) at ∙ bit-part (depth / 64) (depth % 64) (drop (point * words_for depth) words) d (omega arith) (omega arith) (omega arith)
    ∙ ap (λ w. get_or (high_bits (depth % 64) w) (d % 64) false) (get_or-drop (point * words_for depth) words (d / 64) 0))

-- a table with one key more
pub table-push : (depth n : ℕ) (words more : List ℕ) (key : Key) (v : KeyRows) → record { depth = depth; rows = keys_in depth n words } ≡ v → length words ≡ n * words_for depth →
    take (length words) more ≡ words → front_key depth (drop (length words) more) ≡ key →
    ◌≡◌ {A = KeyRows} (record { depth = depth; rows = keys_in depth (n + 1) more }) (record { depth = v.depth; rows = v.rows ++ key ∷ [] })
table-push depth n words more key v e is front last =
    let all : more ≡ words ++ drop (length words) more = sym (take-append-drop (length words) more) ∙ ap (λ xs. xs ++ drop (length words) more) front in
    let rows : keys_in depth (n + 1) more ≡ keys_in depth n words ++ key ∷ [] =
    ap (λ k. keys_in depth k more) (add-one n) ∙ ap (keys_in depth (suc n)) all ∙ keys_in-push depth n words (drop (length words) more) is
    ∙ ap (λ k. keys_in depth n words ++ k ∷ []) last in
    let goal : KeyRows → Type 0 = λ x. ◌≡◌ {A = KeyRows} (record { depth = depth; rows = keys_in depth (n + 1) more }) (record { depth = x.depth; rows = x.rows ++ key ∷ [] }) in
    subst goal e (ap (λ ks. record { depth = depth; rows = ks }) rows)

-- the words of a table are its rows
pub table-rows : (depth n : ℕ) (words : List ℕ) (v : KeyRows) → record { depth = depth; rows = keys_in depth n words } ≡ v → v.rows ≡ keys_in v.depth (length v.rows) words
table-rows depth n words v e =
    sym (ap (λ (x : KeyRows). x.rows) e) ∙ ap (λ k. keys_in depth k words) (count-is depth n words v e) ∙ ap (λ k. keys_in k (length v.rows) words) (ap (λ (x : KeyRows). x.depth) e)

pub table-length : (depth n long : ℕ) (words : List ℕ) (v : KeyRows) → record { depth = depth; rows = keys_in depth n words } ≡ v → long ≡ n * words_for depth → long ≡ length v.rows * words_for v.depth
table-length depth n long words v e is =
    is ∙ ap (λ k. k * words_for depth) (count-is depth n words v e) ∙ ap (λ k. length v.rows * words_for k) (ap (λ (x : KeyRows). x.depth) e)

-- one word more of a key
pub packed-step : (whole k : ℕ) (key : List Bool) (old words : List ℕ) → k < whole → words ++ packed (whole - k) (drop (64 * k) key) ≡ old ++ packed whole key →
    (words ++ number_behind 0 (take 64 (drop (64 * k) key)) ∷ []) ++ packed (whole - (k + 1)) (drop (64 * (k + 1)) key) ≡ old ++ packed whole key
packed-step whole k key old words h e =
    let word : ℕ = number_behind 0 (take 64 (drop (64 * k) key)) in
    let one : packed (whole - k) (drop (64 * k) key) ≡ word ∷ packed (whole - (k + 1)) (drop 64 (drop (64 * k) key)) =
    ap (λ n. packed n (drop (64 * k) key)) (let g : whole - k ≡ suc (whole - (k + 1)) = omega arith in g) ∙ packed-more (whole - (k + 1)) (drop (64 * k) key) in
    let two : drop (64 * (k + 1)) key ≡ drop 64 (drop (64 * k) key) = ap (λ n. drop n key) (let g : 64 * (k + 1) ≡ 64 * k + 64 = omega arith in g) ∙ sym (drop-drop 64 (64 * k) key) in
    append_assoc words (word ∷ []) (packed (whole - (k + 1)) (drop (64 * (k + 1)) key))
    ∙ ap (λ xs. words ++ (word ∷ packed (whole - (k + 1)) xs)) two ∙ ap (λ xs. words ++ xs) (sym one) ∙ e

-- the last word of a key
pub packed-end : (key : List Bool) (old words : List ℕ) (k : ℕ) → k ≡ length key / 64 → words ++ packed (length key / 64 - k) (drop (64 * k) key) ≡ old ++ packed (length key / 64) key →
    words ++ number_behind 0 (drop (64 * k) key) ∷ [] ≡ old ++ packed (length key / 64) key
packed-end key old words k is e =
    ap (λ xs. words ++ xs) (sym (packed-last (drop (64 * k) key)) ∙ ap (λ n. packed n (drop (64 * k) key)) (let g : 0 ≡ length key / 64 - k = omega arith in g)) ∙ e

pub packed-key : (key : List Bool) (old words : List ℕ) → words ≡ old ++ packed (length key / 64) key → front_key (length key) (drop (length old) words) ≡ key
packed-key key old words e =
    ap (λ ws. front_key (length key) (drop (length old) ws)) e
    ∙ ap (front_key (length key)) (drop_at old (packed (length key / 64) key) (length old) refl)
    ∙ key_from-packed (length key / 64) (length key % 64) key (omega arith)

-- one bit more of a rest
pub rest-step : (key out new r : List Bool) (d : ℕ) (x : Bool) → d < length key → x ≡ get_or key d false → new ≡ out ++ x ∷ [] → out ++ drop d key ≡ r → new ++ drop (d + 1) key ≡ r
rest-step key out new r d x h is put e =
    ap (λ xs. xs ++ drop (d + 1) key) put ∙ append_assoc out (x ∷ []) (drop (d + 1) key)
    ∙ ap (λ y. out ++ (y ∷ drop (d + 1) key)) is ∙ ap (λ xs. out ++ xs) (sym (drop_more key d false h)) ∙ e

-- the length of a key of a table, by its fields
pub key-length : (depth n : ℕ) (words : List ℕ) (v : KeyRows) (point : ℕ) → record { depth = depth; rows = keys_in depth n words } ≡ v → point < length v.rows → length (key_at v.rows point) ≡ depth
key-length depth n words v point e h = each-is depth n words v e point [] h ∙ sym (ap (λ (x : KeyRows). x.depth) e)

-- the word of a bit of a table is there
pub table-word : (depth n : ℕ) (words : List ℕ) (v : KeyRows) (point d w : ℕ) → record { depth = depth; rows = keys_in depth n words } ≡ v → length words ≡ n * words_for depth → w ≡ words_for depth →
    point < length v.rows → d < v.depth → point * w + d / 64 < length words
table-word depth n words v point d w e is wide h k =
    let count : n ≡ length v.rows = count-is depth n words v e in
    let deep : depth ≡ v.depth = ap (λ (x : KeyRows). x.depth) e in
    subst (λ (x : ℕ). point * x + d / 64 < length words) (sym wide) (word-in depth n point d (length words) is (omega (arith, count, h)) (omega (arith, deep, k)))

-- the word that is read
pub read-word : (depth : ℕ) (words : List ℕ) (point d w x : ℕ) → w ≡ words_for depth → point * w + d / 64 < length words → x ≡ get_or words (point * w + d / 64) x → x ≡ get_or words (point * words_for depth + d / 64) 0
read-word depth words point d w x wide h is =
    get_or_read words (point * w + d / 64) x h is 0 ∙ ap (λ k. get_or words (point * k + d / 64) 0) wide

-- ---- last words

-- one clean key more
pub clean-push : (depth n : ℕ) (words more : List ℕ) → length words ≡ n * words_for depth → take (length words) more ≡ words → AreClean depth n words →
    get_or more (length words + depth / 64) 0 < 2 ^ (depth % 64) → AreClean depth (n + 1) more
clean-push depth n words more is front clean last i h =
    let w : ℕ = words_for depth in
    let all : more ≡ words ++ drop (length words) more = sym (take-append-drop (length words) more) ∙ ap (λ xs. xs ++ drop (length words) more) front in
    elim (cases_lt i n) [
      | inl low ↦
          let e = mul-add-lt i w (depth / 64) n low (omega arith) in
          let f : w * n ≡ n * w = mul_comm w n in
          let same : get_or more (i * w + depth / 64) 0 ≡ get_or words (i * w + depth / 64) 0 =
          ap (λ xs. get_or xs (i * w + depth / 64) 0) all ∙ get_or_append_left words (drop (length words) more) 0 (i * w + depth / 64) (omega (arith, e, f, is)) in
          let c = clean i low in
          omega (arith, same, c)
      | inr high ↦
          let at : n ≡ i = omega (arith, h, high) in
          let place : length words + depth / 64 ≡ i * w + depth / 64 = ap (λ k. k + depth / 64) (is ∙ ap (λ k. k * w) at) in
          subst (λ k. get_or more k 0 < 2 ^ (depth % 64)) place last
    ]

-- a table without keys
pub clean-none : (depth : ℕ) (words : List ℕ) → AreClean depth 0 words
clean-none depth words i h = absurd (omega arith)

pub table-clean : (depth n : ℕ) (words : List ℕ) (v : KeyRows) → record { depth = depth; rows = keys_in depth n words } ≡ v → AreClean depth n words → AreClean v.depth (length v.rows) words
table-clean depth n words v e clean =
    subst (λ k. AreClean k (length v.rows) words) (ap (λ (x : KeyRows). x.depth) e) (subst (λ k. AreClean depth k words) (count-is depth n words v e) clean)

-- the last word of a key
pub last-word : (key : List Bool) (old words now : List ℕ) (k : ℕ) → k ≡ length key / 64 → length words ≡ length old + k → now ≡ words ++ number_behind 0 (drop (64 * k) key) ∷ [] →
    get_or now (length old + length key / 64) 0 < 2 ^ (length key % 64)
last-word key old words now k is long e =
    let at : get_or now (length old + length key / 64) 0 ≡ number_behind 0 (drop (64 * k) key) =
    ap (λ xs. get_or xs (length old + length key / 64) 0) e ∙ get_or_push words (number_behind 0 (drop (64 * k) key)) 0 (length old + length key / 64) (omega (arith, long, is)) in
    let few : length (drop (64 * k) key) ≡ length key % 64 = length-drop (64 * k) key ∙ (let f : length key - 64 * k ≡ length key % 64 = omega (arith, is) in f) in
    let small = number-below (drop (64 * k) key) in
    subst (λ n. get_or now (length old + length key / 64) 0 < 2 ^ n) few (omega (arith, at, small))

-- ---- a row of a table

-- a row lies within the words
pub row-in : (depth n point w length : ℕ) → length ≡ n * words_for depth → w ≡ words_for depth → point < n → point * w + w ≤ length
row-in depth n point w length is wide h =
    let e : suc point * words_for depth ≤ n * words_for depth = mul-le-mul_right (words_for depth) (let g : suc point ≤ n = omega arith in g) in
    let f : suc point * words_for depth ≡ point * words_for depth + words_for depth = omega arith in
    subst (λ x. point * x + x ≤ length) (sym wide) (omega (arith, e, f, is))

-- the words of a row are those of its key
pub front-row : (depth : ℕ) (words : List ℕ) → words_for depth ≤ length words → front_key depth (take (words_for depth) words) ≡ front_key depth words
front-row depth words h =
    sym (key_from-front (depth / 64) (depth % 64) (take (words_for depth) words) (drop (words_for depth) words) (let l = length-take-le (words_for depth) words h in omega (arith, l)))
    ∙ ap (front_key depth) (take-append-drop (words_for depth) words)

-- a table with a key of another table
module _ (depth n count : ℕ) (words more others : List ℕ) (v o : KeyRows) (point : ℕ)
    (e : ◌≡◌ {A = KeyRows} (record { depth = depth; rows = keys_in depth n words }) v) (is : length words ≡ n * words_for depth)
    (f : ◌≡◌ {A = KeyRows} (record { depth = depth; rows = keys_in depth count others }) o) (long : length others ≡ count * words_for depth)
    (inside : point < length o.rows) (all : more ≡ words ++ packed_row (words_for depth) others point) where
  below : point < count
  below = let c = count-is depth count others o f in omega (arith, c, inside)

  room : words_for depth ≤ length (drop (point * words_for depth) others)
  room = let r = row-in depth count point (words_for depth) (length others) long refl below in omega (arith, r, length-drop (point * words_for depth) others)

  pub from-kept : take (length words) more ≡ words
  from-kept = ap (take (length words)) all ∙ take_at words (packed_row (words_for depth) others point) (length words) refl

  from-behind : drop (length words) more ≡ packed_row (words_for depth) others point
  from-behind = ap (drop (length words)) all ∙ drop_at words (packed_row (words_for depth) others point) (length words) refl

  pub table-from : ◌≡◌ {A = KeyRows} (record { depth = depth; rows = keys_in depth (n + 1) more }) (record { depth = v.depth; rows = v.rows ++ key_at o.rows point ∷ [] })
  table-from =
      table-push depth n words more (key_at o.rows point) v e is from-kept
      (ap (front_key depth) from-behind ∙ front-row depth (drop (point * words_for depth) others) room ∙ sym (key-keys_in depth count others point below) ∙ ap (λ (x : KeyRows). key_at x.rows point) f)

  pub clean-from : AreClean depth n words → AreClean depth count others → AreClean depth (n + 1) more
  clean-from clean others_clean =
      let last : get_or more (length words + depth / 64) 0 ≡ get_or others (point * words_for depth + depth / 64) 0 =
      ap (λ xs. get_or xs (length words + depth / 64) 0) all ∙ get_or-append-add words (packed_row (words_for depth) others point) (depth / 64) 0
      ∙ get_or-take (words_for depth) (drop (point * words_for depth) others) (depth / 64) 0 (omega arith) ∙ get_or-drop (point * words_for depth) others (depth / 64) 0 in
      let c = others_clean point below in
      clean-push depth n words more is from-kept clean (omega (arith, last, c))

  pub length-from : length more ≡ (n + 1) * words_for depth
  length-from =
      let l : length (packed_row (words_for depth) others point) ≡ words_for depth = length-take-le (words_for depth) (drop (point * words_for depth) others) room in
      ap length all ∙ length-append words (packed_row (words_for depth) others point) ∙ omega (arith, l, is)

-- a table with the key of one word more
module _ (depth n number : ℕ) (words more : List ℕ) (v : KeyRows)
    (e : ◌≡◌ {A = KeyRows} (record { depth = depth; rows = keys_in depth n words }) v) (is : length words ≡ n * words_for depth)
    (few : depth < 64) (all : more ≡ words ++ number ∷ []) where
  pub number-kept : take (length words) more ≡ words
  number-kept = ap (take (length words)) all ∙ take_at words (number ∷ []) (length words) refl

  number-key : front_key depth (number ∷ []) ≡ high_bits depth number
  unfolding key_from
  number-key = ap (λ k. key_from k (depth % 64) (number ∷ [])) (let g : depth / 64 ≡ 0 = omega arith in g) ∙ ap (λ k. high_bits k number) (let g : depth % 64 ≡ depth = omega arith in g)

  pub table-number : ◌≡◌ {A = KeyRows} (record { depth = depth; rows = keys_in depth (n + 1) more }) (record { depth = v.depth; rows = v.rows ++ high_bits v.depth number ∷ [] })
  table-number =
      table-push depth n words more (high_bits depth number) v e is number-kept (ap (λ xs. front_key depth (drop (length words) xs)) all ∙ ap (front_key depth) (drop_at words (number ∷ []) (length words) refl) ∙ number-key)
      ∙ ap (λ (x : KeyRows). record { depth = v.depth; rows = v.rows ++ high_bits x.depth number ∷ [] }) e

  pub clean-number : number < 2 ^ depth → AreClean depth n words → AreClean depth (n + 1) more
  clean-number small clean =
      let at : get_or more (length words + depth / 64) 0 ≡ number =
      ap (λ xs. get_or xs (length words + depth / 64) 0) all ∙ get_or_push words number 0 (length words + depth / 64) (omega arith) in
      let most : 2 ^ (depth % 64) ≡ 2 ^ depth = ap (λ k. 2 ^ k) (let g : depth % 64 ≡ depth = omega arith in g) in
      clean-push depth n words more is number-kept clean (omega (arith, at, most, small))

  pub length-number : length more ≡ (n + 1) * words_for depth
  length-number =
      let one : words_for depth ≡ 1 = omega arith in
      ap length all ∙ length-append words (number ∷ []) ∙ (let f : (n + 1) * words_for depth ≡ n * words_for depth + words_for depth = omega arith in omega (arith, f, one, is))
