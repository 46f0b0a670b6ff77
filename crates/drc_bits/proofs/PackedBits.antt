-- A packed sequence of bits is read again, whatever follows it.
use Rattle.std.proofs.Common.{◌≡◌, ℕ, zero, suc, ◌+◌, ◌-◌, ◌*◌, ◌/◌, ◌%◌, ◌≤◌, nat_lt, true, false, List, [], ◌∷◌, ◌++◌, length, take, drop, Result, Ok, Err, Bor, sym, refl, ap, ◌∙◌, inl, inr, arith, append_assoc, append-nil, le-ltb, lt-ltb, length-append, length-take-le, take_all}
use Rattle.std.proofs.lemmas.Bool.{cases_lt, cond-true, cond-false}
use Rattle.std.proofs.lemmas.List.{length-drop, take-append-drop, take-append-le, take_at}
use Rattle.drc_base.specs.declared.faults.Fault.{Fault}
use Rattle.drc_bits.specs.Reading.{Reading, Takes, advanced, bytes_at}
use Rattle.drc_bits.specs.Spells.{Spells}
use Rattle.drc_bits.specs.Bits.{AreBits, bits_at, bits_of, bytes_for, low_bits, number_of, packed, packed_in}
use Rattle.drc_bits.proofs.BitLists.{bits_of-append, length-bits_of, length-low_bits}
use Rattle.drc_bits.proofs.Results.{Err-injective, Ok-injective, err≢ok}
use Rattle.drc_bits.proofs.Written.{advanced-front, reading}

-- ---- lists of bits

pub AreBits-append : (xs ys : List ℕ) → AreBits xs → AreBits ys → AreBits (xs ++ ys)
AreBits-append [] ys a b = b
AreBits-append (x ∷ xs) ys a b = (a.0, AreBits-append xs ys a.1 b)

pub AreBits-low_bits : (n v : ℕ) → AreBits (low_bits n v)
unfolding low_bits
AreBits-low_bits zero v = tt
AreBits-low_bits (suc n) v = (omega arith, AreBits-low_bits n (v / 2))

pub AreBits-bits_of : (bytes : List ℕ) → AreBits (bits_of bytes)
unfolding bits_of
AreBits-bits_of [] = tt
AreBits-bits_of (b ∷ bytes) = AreBits-append (low_bits 8 b) (bits_of bytes) (AreBits-low_bits 8 b) (AreBits-bits_of bytes)

pub AreBits-drop : (n : ℕ) (xs : List ℕ) → AreBits xs → AreBits (drop n xs)
AreBits-drop zero xs a = a
AreBits-drop (suc n) [] a = tt
AreBits-drop (suc n) (x ∷ xs) a = AreBits-drop n xs a.1

pub AreBits-take : (n : ℕ) (xs : List ℕ) → AreBits xs → AreBits (take n xs)
AreBits-take zero xs a = tt
AreBits-take (suc n) [] a = tt
AreBits-take (suc n) (x ∷ xs) a = (a.0, AreBits-take n xs a.1)

-- ---- the bits of packed bytes

length-zero : (xs : List ℕ) → length xs ≡ 0 → xs ≡ []
length-zero [] h = refl
length-zero (x ∷ xs) h = absurd (omega (arith, h))

-- the bits of a number of bits are these, and then some
low-number : (m : ℕ) (bits : List ℕ) → AreBits bits → (more : List ℕ) × (low_bits m (number_of (take m bits)) ≡ take m bits ++ more)
unfolding low_bits
low-number zero bits are = ([], refl)
low-number (suc m) [] are = (low_bits (suc m) 0, refl)
low-number (suc m) (b ∷ bs) are =
    let x : ℕ = number_of (take m bs) in
    let low : (b + 2 * x) % 2 ≡ b = omega (arith, are.0) in
    let high : (b + 2 * x) / 2 ≡ x = omega (arith, are.0) in
    let rest = low-number m bs are.1 in
    (rest.0, rw (low, high) (ap (λ xs. b ∷ xs) rest.1))

-- eight whole bits
low-byte : (bits : List ℕ) → AreBits bits → 8 ≤ length bits → low_bits 8 (number_of (take 8 bits)) ≡ take 8 bits
low-byte bits are enough =
    let rest = low-number 8 bits are in
    let l : length (take 8 bits) ≡ 8 = length-take-le 8 bits enough in
    let a = length-append (take 8 bits) rest.0 in
    let lb = length-low_bits 8 (number_of (take 8 bits)) in
    let same = ap (λ xs. length xs) rest.1 in
    let none : rest.0 ≡ [] = length-zero rest.0 (omega (arith, l, a, lb, same)) in
    rest.1 ∙ ap (λ xs. take 8 bits ++ xs) none ∙ append-nil (take 8 bits)

packed_in-again : (n : ℕ) (bits : List ℕ) → AreBits bits → bytes_for (length bits) ≡ n → (more : List ℕ) × (bits_of (packed_in n bits) ≡ bits ++ more)
unfolding bits_of
packed_in-again zero bits are size =
    let none : bits ≡ [] = length-zero bits (omega (arith, size)) in
    ([], sym (ap (λ xs. xs ++ []) none))
packed_in-again (suc n) bits are size = elim (cases_lt (length bits) 8) [
  | inl few ↦
      let first = low-number 8 bits are in
      let whole : take 8 bits ≡ bits = take_all 8 bits (omega (arith, few)) in (
        first.0 ++ bits_of (packed_in n (drop 8 bits)),
        ap (λ xs. xs ++ bits_of (packed_in n (drop 8 bits))) (first.1 ∙ ap (λ xs. xs ++ first.0) whole) ∙ append_assoc bits first.0 (bits_of (packed_in n (drop 8 bits))),
      )
  | inr many ↦
      let d : length (drop 8 bits) ≡ length bits - 8 = length-drop 8 bits in
      let rest = packed_in-again n (drop 8 bits) (AreBits-drop 8 bits are) (omega (arith, d, size, many)) in (
        rest.0,
        ap (λ xs. xs ++ bits_of (packed_in n (drop 8 bits))) (low-byte bits are many) ∙ ap (λ xs. take 8 bits ++ xs) rest.1
            ∙ sym (append_assoc (take 8 bits) (drop 8 bits) rest.0) ∙ ap (λ xs. xs ++ rest.0) (take-append-drop 8 bits),
      )
]

-- the bits of packed bytes are those that were packed, and then some
pub packed-again : (bits : List ℕ) → AreBits bits → (more : List ℕ) × (bits_of (packed bits) ≡ bits ++ more)
unfolding packed
packed-again bits are = packed_in-again (bytes_for (length bits)) bits are refl

length-packed_in : (n : ℕ) (bits : List ℕ) → length (packed_in n bits) ≡ n
length-packed_in zero bits = refl
length-packed_in (suc n) bits = let r = length-packed_in n (drop 8 bits) in omega (arith, r)

-- they are as few as hold the bits
pub length-packed : (bits : List ℕ) → length (packed bits) ≡ bytes_for (length bits)
unfolding packed
length-packed bits = length-packed_in (bytes_for (length bits)) bits

-- packed bits are read as exactly these, with just their bytes
pub Spells-bits : (bits : List ℕ) → AreBits bits → Spells (bits_at (length bits)) (packed bits) bits
Spells-bits bits are =
    let n : ℕ = length bits in
    let more = packed-again bits are in
    let len : length (packed bits) ≡ bytes_for n = length-packed bits in record {
      reads = λ place rest.
          let a : length (packed bits ++ rest) ≡ length (packed bits) + length rest = length-append (packed bits) rest in
          let there : nat_lt (8 * length (packed bits ++ rest)) n ≡ false = le-ltb (8 * length (packed bits ++ rest)) n (omega (arith, a, len)) in
          let first : take n (bits_of (packed bits ++ rest)) ≡ bits =
          ap (take n) (bits_of-append (packed bits) rest ∙ ap (λ xs. xs ++ bits_of rest) more.1 ∙ append_assoc bits more.0 (bits_of rest)) ∙ take_at bits (more.0 ++ bits_of rest) n refl in
          let behind : advanced (bytes_for n) (reading place (packed bits ++ rest)) ≡ reading (place + length (packed bits)) rest =
          ap (λ k. advanced k (reading place (packed bits ++ rest))) (sym len) ∙ advanced-front place (packed bits) rest in
          cond-false _ _ _ there ∙ rw (first, behind) refl;
    }

-- ---- bits by the bytes that hold them

-- the first bits of the first bytes
take-bits_of : (n m : ℕ) (bytes : List ℕ) → n ≤ 8 * m → m ≤ length bytes → take n (bits_of (take m bytes)) ≡ take n (bits_of bytes)
take-bits_of n m bytes few there =
    let l : length (bits_of (take m bytes)) ≡ 8 * m = length-bits_of (take m bytes) ∙ ap (λ k. 8 * k) (length-take-le m bytes there) in
    sym (take-append-le n (bits_of (take m bytes)) (bits_of (drop m bytes)) (omega (arith, l, few)))
    ∙ ap (take n) (sym (bits_of-append (take m bytes) (drop m bytes)) ∙ ap bits_of (take-append-drop m bytes))

-- the bytes that n bits begin were read: the bits are their first ones
pub bits_at-bytes : (n m : ℕ) (bytes : List ℕ) (c d : Reading) → m ≡ bytes_for n → bytes_at m c ≡ Ok (bytes, d) → bits_at n c ≡ Ok (take n (bits_of bytes), d)
bits_at-bytes n m bytes c d is so = elim (cases_lt (length c.rest) m) [
  | inl few ↦ absurd (err≢ok (sym (cond-true _ _ _ (lt-ltb (length c.rest) m few)) ∙ so))
  | inr there ↦
      let both = Ok-injective (sym (cond-false _ _ _ (le-ltb (length c.rest) m there)) ∙ so) in
      let enough : nat_lt (8 * length c.rest) n ≡ false = le-ltb (8 * length c.rest) n (omega (arith, there, is)) in
      cond-false _ _ _ enough
      ∙ ap (λ bits. Ok (bits, advanced (bytes_for n) c)) (sym (take-bits_of n m c.rest (omega (arith, is)) there))
      ∙ ap (λ k. Ok (take n (bits_of (take m c.rest)), advanced k c)) (sym is)
      ∙ ap (λ (x : List ℕ × Reading). Ok (take n (bits_of x.0), x.1)) both
]

-- they aren't all there
pub bits_at-fault : (n m : ℕ) (c : Reading) (f : Fault) → m ≡ bytes_for n → bytes_at m c ≡ Err f → bits_at n c ≡ Err f
bits_at-fault n m c f is so = elim (cases_lt (length c.rest) m) [
  | inl few ↦
      let short : nat_lt (8 * length c.rest) n ≡ true = lt-ltb (8 * length c.rest) n (omega (arith, few, is)) in
      let same = Err-injective (sym (cond-true _ _ _ (lt-ltb (length c.rest) m few)) ∙ so) in
      cond-true _ _ _ short ∙ ap (λ e. Err e) same
  | inr there ↦ absurd (err≢ok (sym so ∙ cond-false _ _ _ (le-ltb (length c.rest) m there)))
]

-- what a cursor took as bytes it took as bits
pub Takes-bits : (n m : ℕ) (old new : Reading) (result : Result (Bor (List ℕ)) Fault) → m ≡ bytes_for n
    → Takes (λ s. s.now) (bytes_at m old) old new result → Takes (λ s. take n (bits_of s.now)) (bits_at n old) old new result
Takes-bits n m old new (Ok s) is h = bits_at-bytes n m s.now old new is h
Takes-bits n m old new (Err f) is h = (bits_at-fault n m old f is h.0, h.1)
