-- Lists of bytes, joined, reversed, and one for each item; and numbers and bits as bytes.
use Rattle.std.proofs.Common.{◌≡◌, ℕ, zero, suc, ◌+◌, ◌-◌, ◌*◌, ◌/◌, ◌%◌, ◌^◌, ◌<◌, ◌≤◌, nat_lt, All, List, [], ◌∷◌, ◌++◌, length, take, drop, reverse, sym, subst, inl, inr, arith, length-take, pow_mono}
use Rattle.std.specs.List.{flat_map}
use Rattle.std.proofs.Math.Nat.{pow-suc}
use Rattle.std.proofs.lemmas.Bool.{cases_Bool, cond-true, cond-false, ltb-true}
use Rattle.std.proofs.lemmas.List.{length-reverse, get_or-reverse}
use Rattle.std.proofs.lemmas.List.Elements.{All-nil, All-cons, All-head, All-tail, All-append}
use Rattle.drc_bits.specs.Bits.{AreBits, number_of, bytes_for, packed_in, packed, low_bytes}
use Rattle.drc_bits.specs.Varint.{spelling}
use Rattle.drc_bits.proofs.PackedBits.{AreBits-take, AreBits-drop}
use Rattle.laws_stream.specs.Laws.{IsByte}

abbrev pub AreBytes : List ℕ → Type 0
AreBytes bytes = All IsByte bytes

pub no-bytes : AreBytes []
no-bytes = All-nil IsByte

pub byte-then : (b : ℕ) (bytes : List ℕ) → b < 256 → AreBytes bytes → AreBytes (b ∷ bytes)
byte-then b bytes small are = All-cons IsByte b bytes small are

pub joined : (xs ys : List ℕ) → AreBytes xs → AreBytes ys → AreBytes (xs ++ ys)
joined xs ys front back = All-append IsByte xs ys front back

pub joined-each : {A : Type 0} (f : A → List ℕ) (xs : List A) → All (λ x. AreBytes (f x)) xs → AreBytes (flat_map f xs)
joined-each f [] each = no-bytes
joined-each f (x ∷ xs) each =
    joined (f x) (flat_map f xs) (All-head (λ y. AreBytes (f y)) x xs each) (joined-each f xs (All-tail (λ y. AreBytes (f y)) x xs each))

-- whatever the items are
pub each-of : {A : Type 0} (f : A → List ℕ) → ((x : A) → AreBytes (f x)) → (xs : List A) → AreBytes (flat_map f xs)
each-of f are xs = joined-each f xs (λ k d below. are _)

pub reversed : (xs : List ℕ) → AreBytes xs → AreBytes (reverse xs)
reversed xs are k d below =
    let long = length-reverse xs in
    let inside : k < length xs = omega (arith, below, long) in
    subst IsByte (sym (get_or-reverse xs k d inside)) (are (length xs - 1 - k) d (omega (arith, inside)))

-- ---- numbers

-- the low bytes of a number
pub low : (n v : ℕ) → AreBytes (low_bytes n v)
low zero v = no-bytes
low (suc n) v = byte-then (v % 256) (low_bytes n (v / 256)) (omega arith) (low n (v / 256))

-- a varint
pub spelled : (most v : ℕ) → AreBytes (spelling most v)
unfolding spelling
spelled zero v = no-bytes
spelled (suc most) v = elim (cases_Bool (nat_lt v 128)) [
  | inl t ↦ rw (cond-true _ _ _ t) (let small = ltb-true v 128 t in byte-then v [] (omega (arith, small)) no-bytes)
  | inr f ↦ rw (cond-false _ _ _ f) (byte-then (v % 128 + 128) (spelling most (v / 128)) (omega arith) (spelled most (v / 128)))
]

-- ---- bits

-- a number of so many bits
number-small : (bits : List ℕ) → AreBits bits → number_of bits < 2 ^ length bits
number-small [] are = omega arith
number-small (b ∷ bits) are =
    let rest = number-small bits are.1 in
    let more : 2 ^ suc (length bits) ≡ 2 ^ length bits * 2 = pow-suc 2 (length bits) in
    omega (arith, rest, are.0, more)

eight-small : (bits : List ℕ) → AreBits bits → number_of (take 8 bits) < 256
eight-small bits are =
    let number = number-small (take 8 bits) (AreBits-take 8 bits are) in
    let few : length (take 8 bits) ≤ 8 = omega (arith, length-take 8 bits) in
    let room : 2 ^ length (take 8 bits) ≤ 2 ^ 8 = pow_mono {i = length (take 8 bits)} {j = 8} few in
    omega (arith, number, room)

packed_in-bytes : (n : ℕ) (bits : List ℕ) → AreBits bits → AreBytes (packed_in n bits)
packed_in-bytes zero bits are = no-bytes
packed_in-bytes (suc n) bits are =
    byte-then (number_of (take 8 bits)) (packed_in n (drop 8 bits)) (eight-small bits are) (packed_in-bytes n (drop 8 bits) (AreBits-drop 8 bits are))

-- bits in bytes
pub packed-bytes : (bits : List ℕ) → AreBits bits → AreBytes (packed bits)
unfolding packed
packed-bytes bits are = packed_in-bytes (bytes_for (length bits)) bits are
