-- Numbers and their bits, the high one first.
use Rattle.std.proofs.Common.{◌≡◌, ℕ, zero, suc, ◌+◌, ◌-◌, ◌*◌, ◌/◌, ◌%◌, ◌^◌, ◌<◌, ◌≤◌, Bool, true, false, List, [], ◌∷◌, ◌++◌, length, take, drop, get_or, length-append, sym, refl, ap, ◌∙◌, arith, pow-suc, pow_mono, mul_assoc, append_assoc}
use Rattle.std.specs.Prelude.{◌==◌, if◌then◌else◌}
use Rattle.std.proofs.lemmas.Nat.{mod-pow-add, div-mul-add}
use Rattle.std.proofs.lemmas.Grind.{common_steps}
use Rattle.kd_tree.specs.Trees.{high_bits}
use Rattle.std.proofs.lemmas.List.{append-nil, take_more}
use Rattle.rans_binary.specs.Blocks.{Block, after_bit, behind, first_bits, next_bit}
use Rattle.rans_binary.proofs.BitNumbers.{first_bits-add, length-first_bits}
use Rattle.kd_tree.specs.Reading.{number_behind}

pub length-high_bits : (n v : ℕ) → length (high_bits n v) ≡ n
unfolding high_bits
length-high_bits zero v = refl
length-high_bits (suc n) v = ap suc (length-high_bits n v)

-- the bit at a place
pub get-high_bits : (n v k : ℕ) → k < n → get_or (high_bits n v) k false ≡ (v / 2 ^ (n - 1 - k) % 2 == 1)
unfolding high_bits
get-high_bits zero v k h = absurd (omega arith)
get-high_bits (suc n) v zero h = ap (λ e. v / 2 ^ e % 2 == 1) (let e : n ≡ suc n - 1 - 0 = omega arith in e)
get-high_bits (suc n) v (suc k) h =
    get-high_bits n v k (omega arith) ∙ ap (λ e. v / 2 ^ e % 2 == 1) (let e : n - 1 - k ≡ suc n - 1 - suc k = omega arith in e)

-- a bit as a number
abbrev pub bit_number : Bool → ℕ
bit_number b = if b then 1 else 0

-- the number of a bit is below 2
pub bit-below : (b : Bool) → bit_number b < 2
bit-below true = omega arith
bit-below false = omega arith

pub bit-back : (b : Bool) → (bit_number b == 1) ≡ b
bit-back true = refl
bit-back false = refl

-- the number of bits behind those of v
pub number_behind-is : (v : ℕ) (bits : List Bool) → number_behind v bits ≡ v * 2 ^ length bits + number_behind 0 bits
number_behind-is v [] = omega arith
number_behind-is v (bit ∷ bits) =
    let x : ℕ = 2 ^ length bits in
    let b : ℕ = bit_number bit in
    let one : number_behind (2 * v + b) bits ≡ (2 * v + b) * x + number_behind 0 bits = number_behind-is (2 * v + b) bits in
    let two : number_behind (2 * 0 + b) bits ≡ (2 * 0 + b) * x + number_behind 0 bits = number_behind-is (2 * 0 + b) bits in
    let p : 2 ^ suc (length bits) ≡ x * 2 = pow-suc 2 (length bits) in
    let e : v * 2 ^ suc (length bits) ≡ 2 * (v * x) = ap (λ n. v * n) p ∙ sym (mul_assoc v x 2) ∙ (let f : v * x * 2 ≡ 2 * (v * x) = omega arith in f) in
    let f : (2 * v + b) * x ≡ 2 * (v * x) + b * x = omega arith in
    let g : (2 * 0 + b) * x ≡ b * x = omega arith in
    one ∙ omega (arith, two, e, f, g)

pub number-below : (bits : List Bool) → number_behind 0 bits < 2 ^ length bits
number-below [] = omega arith
number-below (bit ∷ bits) =
    let x : ℕ = 2 ^ length bits in
    let b : ℕ = bit_number bit in
    let rest = number-below bits in
    let small = bit-below bit in
    let two : number_behind (2 * 0 + b) bits ≡ (2 * 0 + b) * x + number_behind 0 bits = number_behind-is (2 * 0 + b) bits in
    let p : 2 ^ suc (length bits) ≡ x * 2 = pow-suc 2 (length bits) in
    let most : (2 * 0 + b) * x ≤ x = elim bit as (λ t. (2 * 0 + bit_number t) * x ≤ x) [ true ↦ omega arith | false ↦ omega arith ] in
    omega (arith, two, p, most, rest)

-- the bits of a number are the bits that it was made of
pub bits-number : (v : ℕ) (bits : List Bool) → high_bits (length bits) (number_behind v bits) ≡ bits
unfolding high_bits
bits-number v [] = refl
bits-number v (bit ∷ bits) =
    let w : ℕ = 2 * v + bit_number bit in
    let is : number_behind w bits ≡ w * 2 ^ length bits + number_behind 0 bits = number_behind-is w bits in
    let high : number_behind w bits / 2 ^ length bits ≡ w = ap (λ n. n / 2 ^ length bits) is ∙ div-mul-add w (2 ^ length bits) (number_behind 0 bits) (number-below bits) in
    let small = bit-below bit in
    let odd : number_behind w bits / 2 ^ length bits % 2 ≡ bit_number bit = ap (λ n. n % 2) high ∙ (let e : w % 2 ≡ bit_number bit = omega arith in e) in
    let head : (number_behind w bits / 2 ^ length bits % 2 == 1) ≡ bit = ap (λ n. n == 1) odd ∙ bit-back bit in
    ap (λ b. b ∷ high_bits (length bits) (number_behind w bits)) head ∙ ap (λ xs. bit ∷ xs) (bits-number w bits)

half-bit : (n : ℕ) → bit_number (n % 2 == 1) ≡ n % 2
half-bit n = grind (arith, common_steps)

-- the number of the bits of a number is its low part
pub number-bits : (n a v : ℕ) → number_behind a (high_bits n v) ≡ a * 2 ^ n + v % 2 ^ n
unfolding high_bits
number-bits zero a v = omega arith
number-bits (suc n) a v =
    let x : ℕ = 2 ^ n in
    let b : ℕ = v / 2 ^ n % 2 in
    let rest : number_behind (2 * a + b) (high_bits n v) ≡ (2 * a + b) * x + v % x = number-bits n (2 * a + b) v in
    let p : 2 ^ suc n ≡ x * 2 = pow-suc 2 n in
    let e : a * 2 ^ suc n ≡ 2 * (a * x) = ap (λ k. a * k) p ∙ sym (mul_assoc a x 2) ∙ (let f : a * x * 2 ≡ 2 * (a * x) = omega arith in f) in
    let f : (2 * a + b) * x ≡ 2 * (a * x) + b * x = omega arith in
    let low : v % 2 ^ (1 + n) ≡ b * x + v % x = mod-pow-add v 1 n in
    let same : v % 2 ^ suc n ≡ v % 2 ^ (1 + n) = ap (λ k. v % 2 ^ k) (let g : suc n ≡ 1 + n = omega arith in g) in
    ap (λ k. number_behind (2 * a + k) (high_bits n v)) (half-bit (v / 2 ^ n)) ∙ rest ∙ omega (arith, e, f, low, same)

pub number_behind-append : (v : ℕ) (xs ys : List Bool) → number_behind v (xs ++ ys) ≡ number_behind (number_behind v xs) ys
number_behind-append v [] ys = refl
number_behind-append v (x ∷ xs) ys = number_behind-append (2 * v + bit_number x) xs ys

-- the number of fewer bits than 64 leaves room for one more
pub number-room : (most : ℕ) (bits : List Bool) → length bits ≤ most → number_behind 0 bits < 2 ^ most
number-room most bits h =
    let low = number-below bits in
    let room : 2 ^ length bits ≤ 2 ^ most = pow_mono {i = length bits} {j = most} h in omega (arith, low, room)

-- one bit more of a list
pub number-more : (bits : List Bool) (i : ℕ) → i < length bits → number_behind 0 (take (i + 1) bits) ≡ number_behind (number_behind 0 (take i bits)) (get_or bits i false ∷ [])
number-more bits i h = ap (number_behind 0) (take_more bits i false h) ∙ number_behind-append 0 (take i bits) (get_or bits i false ∷ [])

-- one bit more of a block
pub first_bits-more : (n : ℕ) (b : Block) → first_bits (n + 1) b ≡ first_bits n b ++ next_bit (behind n b) ∷ []
first_bits-more n b = first_bits-add n 1 b

-- a loop over bits: the number of one more of them
pub number-step : (bits : List Bool) (i n m : ℕ) → i < length bits → n ≡ number_behind 0 (take i bits) → m ≡ number_behind n (get_or bits i false ∷ []) → m ≡ number_behind 0 (take (i + 1) bits)
number-step bits i n m h e f = f ∙ ap (λ k. number_behind k (get_or bits i false ∷ [])) e ∙ sym (number-more bits i h)

-- a loop that appends the bits of a number
pub append-step : (bits k v : ℕ) (out new r : List Bool) → k < bits → new ≡ out ++ (v / 2 ^ (bits - 1 - k) % 2 == 1) ∷ [] → out ++ high_bits (bits - k) v ≡ r → new ++ high_bits (bits - (k + 1)) v ≡ r
unfolding high_bits
append-step bits k v out new r h put e =
    let n : ℕ = bits - (k + 1) in
    let same : bits - 1 - k ≡ n = omega arith in
    let more : high_bits (bits - k) v ≡ (v / 2 ^ n % 2 == 1) ∷ high_bits n v = ap (λ m. high_bits m v) (let g : bits - k ≡ suc n = omega arith in g) in
    ap (λ xs. xs ++ high_bits n v) put ∙ append_assoc out ((v / 2 ^ (bits - 1 - k) % 2 == 1) ∷ []) (high_bits n v)
    ∙ ap (λ m. out ++ ((v / 2 ^ m % 2 == 1) ∷ high_bits n v)) same ∙ ap (λ xs. out ++ xs) (sym more) ∙ e

pub append-end : (bits k v : ℕ) (out r : List Bool) → bits ≤ k → out ++ high_bits (bits - k) v ≡ r → out ≡ r
unfolding high_bits
append-end bits k v out r h e = sym (append-nil out) ∙ ap (λ m. out ++ high_bits m v) (let g : 0 ≡ bits - k = omega arith in g) ∙ e

-- a loop over a block: the number of one more bit, one more bit, and the block behind it
pub block_bits-step : (i : ℕ) (b now : Block) (old out new : List Bool) (bit : Bool) → out ≡ old ++ first_bits i b → now ≡ behind i b → bit ≡ next_bit now → new ≡ out ++ bit ∷ [] → new ≡ old ++ first_bits (i + 1) b
block_bits-step i b now old out new bit e at is f =
    f ∙ ap (λ xs. xs ++ bit ∷ []) e ∙ append_assoc old (first_bits i b) (bit ∷ []) ∙ ap (λ k. old ++ (first_bits i b ++ k ∷ [])) (is ∙ ap next_bit at) ∙ ap (λ xs. old ++ xs) (sym (first_bits-more i b))

pub block_number-step : (i : ℕ) (front : List Bool) (b now : Block) (n m : ℕ) (bit : Bool) → n ≡ number_behind 0 (front ++ first_bits i b) → now ≡ behind i b → bit ≡ next_bit now → m ≡ number_behind n (bit ∷ []) →
    m ≡ number_behind 0 (front ++ first_bits (i + 1) b)
block_number-step i front b now n m bit e at is f =
    f ∙ ap (λ k. number_behind k (bit ∷ [])) e ∙ sym (number_behind-append 0 (front ++ first_bits i b) (bit ∷ [])) ∙ ap (number_behind 0) (block_bits-step i b now front (front ++ first_bits i b) _ bit refl at is refl)

-- a loop over a block: the number of one more bit, one more bit, and the block behind it
pub block-step : (i : ℕ) (b now next : Block) → now ≡ behind i b → next ≡ after_bit now → next ≡ behind (i + 1) b
block-step i b now next at is = is ∙ ap after_bit at ∙ ap (λ k. behind k b) (let e : suc i ≡ i + 1 = omega arith in e)

-- the bits of a number without the first ones
pub drop-high_bits : (d n v : ℕ) → drop d (high_bits n v) ≡ high_bits (n - d) v
unfolding high_bits
drop-high_bits zero n v = ap (λ k. high_bits k v) (let e : n ≡ n - 0 = omega arith in e)
drop-high_bits (suc d) zero v = ap (λ k. high_bits k v) (let e : 0 ≡ 0 - suc d = omega arith in e)
drop-high_bits (suc d) (suc n) v = drop-high_bits d n v ∙ ap (λ k. high_bits k v) (let e : n - d ≡ suc n - suc d = omega arith in e)

-- a key of a path and the next bits of a block, put together as a number
pub joined-number : (depth n number : ℕ) (path front : List Bool) (b : Block) → length path ≤ depth → front ≡ path → n ≡ depth - length path → number ≡ number_behind 0 (front ++ first_bits n b) →
    (number < 2 ^ depth) × (high_bits depth number ≡ path ++ first_bits (depth - length path) b)
joined-number depth n number path front b deep same left is =
    let key : List Bool = path ++ first_bits (depth - length path) b in
    let long : length key ≡ depth = length-append path (first_bits (depth - length path) b) ∙ omega (arith, length-first_bits (depth - length path) b, deep) in
    let at : number ≡ number_behind 0 key = is ∙ ap (λ k. number_behind 0 (k ++ first_bits n b)) same ∙ ap (λ k. number_behind 0 (path ++ first_bits k b)) left in
    let small = number-below key in
    let most : 2 ^ length key ≡ 2 ^ depth = ap (λ k. 2 ^ k) long in (
      omega (arith, at, small, most),
      ap (high_bits depth) at ∙ ap (λ k. high_bits k (number_behind 0 key)) (sym long) ∙ bits-number 0 key,
    )
