-- Loading bytes into a buffer of bits.
use Rattle.std.proofs.Common.{◌≡◌, ℕ, ◌+◌, ◌-◌, ◌*◌, ◌/◌, ◌%◌, ◌^◌, ◌<◌, ◌≤◌, List, ◌∷◌, ◌++◌, length, take, drop, get_or, sym, refl, ap, ◌∙◌, subst, arith, append_assoc}
use Rattle.std.proofs.Common.{true, false, nat_le, Some, None, le-leb}
use Rattle.std.proofs.lemmas.Bool.{lt-leb, cond-true, cond-false}
use Rattle.std.proofs.lemmas.Nat.{shr_below}
use Rattle.std.proofs.lemmas.List.{drop_more, drop-drop, length-append, length-drop}
use Rattle.drc_bits.specs.Bits.{BitPlace, HasBuffer, bits_left, low_bits, bits_of, number_of, next_bits, after_bits, bytes_for}
use Rattle.drc_bits.proofs.BitLists.{low_bits-byte, low_bits-word, low_bits-add, length-low_bits, length-bits_of, take-low_bits, drop-low_bits}

-- nothing is loaded at the start
pub no_buffer : (bytes : List ℕ) → HasBuffer bytes 0 0 0
unfolding low_bits
no_buffer bytes = record { within = omega arith; begun = omega arith; small = omega arith; fits = omega arith; holds = refl }

-- one byte more
pub loaded_byte : (bytes : List ℕ) (next buffer buffer' count : ℕ) → next < length bytes → count < 56 → HasBuffer bytes next buffer count →
    buffer' ≡ buffer + get_or bytes next 0 * 2 ^ count → buffer' < 2 ^ (count + 8) → HasBuffer bytes (next + 1) buffer' (count + 8)
loaded_byte bytes next buffer buffer' count n c h e f =
    let place : 8 * (next + 1) - (count + 8) ≡ 8 * next - count = omega arith in
    record {
      within = omega arith;
      begun = omega (arith, h.begun);
      small = omega arith;
      fits = f;
      holds = ap (λ k. drop k (bits_of bytes)) place ∙ h.holds
          ∙ ap (λ zs. low_bits count buffer ++ bits_of zs) (drop_more bytes next 0 n)
          ∙ sym (low_bits-byte count buffer (get_or bytes next 0) (drop (next + 1) bytes) h.fits)
          ∙ ap (λ b. low_bits (count + 8) b ++ bits_of (drop (next + 1) bytes)) (sym e);
    }

one_more : (bytes : List ℕ) (at next b : ℕ) → at < length bytes → next ≡ at + 1 → b ≡ get_or bytes at 0 → drop at bytes ≡ b ∷ drop next bytes
one_more bytes at next b h e g = rw (e, g) (drop_more bytes at 0 h)

four_more : (bytes : List ℕ) (next a b c d : ℕ) → next + 4 ≤ length bytes →
    a ≡ get_or bytes next 0 → b ≡ get_or bytes (next + 1) 0 → c ≡ get_or bytes (next + 2) 0 → d ≡ get_or bytes (next + 3) 0 →
    drop next bytes ≡ a ∷ b ∷ c ∷ d ∷ drop (next + 4) bytes
four_more bytes next a b c d n ea eb ec ed =
    one_more bytes next (next + 1) a (omega arith) refl ea
    ∙ ap (λ zs. a ∷ zs) (one_more bytes (next + 1) (next + 2) b (omega arith) (omega arith) eb
    ∙ ap (λ zs. b ∷ zs) (one_more bytes (next + 2) (next + 3) c (omega arith) (omega arith) ec
    ∙ ap (λ zs. c ∷ zs) (one_more bytes (next + 3) (next + 4) d (omega arith) (omega arith) ed)))

-- four bytes more
pub loaded_word : (bytes : List ℕ) (next buffer buffer' count a b c d : ℕ) → next + 4 ≤ length bytes → count < 32 → HasBuffer bytes next buffer count →
    a ≡ get_or bytes next 0 → b ≡ get_or bytes (next + 1) 0 → c ≡ get_or bytes (next + 2) 0 → d ≡ get_or bytes (next + 3) 0 → a < 256 → b < 256 → c < 256 →
    buffer' ≡ buffer + (a + 256 * (b + 256 * (c + 256 * d))) * 2 ^ count → buffer' < 2 ^ (count + 32) → HasBuffer bytes (next + 4) buffer' (count + 32)
loaded_word bytes next buffer buffer' count a b c d n small h ea eb ec ed fa fb fc e f =
    let place : 8 * (next + 4) - (count + 32) ≡ 8 * next - count = omega arith in
    let rest : List ℕ = drop (next + 4) bytes in
    let w : ℕ = a + 256 * (b + 256 * (c + 256 * d)) in
    let q : drop next bytes ≡ a ∷ b ∷ c ∷ d ∷ rest = four_more bytes next a b c d n ea eb ec ed in
    record {
      within = n;
      begun = omega (arith, h.begun);
      small = omega arith;
      fits = f;
      holds = ap (λ k. drop k (bits_of bytes)) place ∙ h.holds
          ∙ ap (λ zs. low_bits count buffer ++ zs) (ap bits_of q ∙ sym (low_bits-word a b c d rest fa fb fc))
          ∙ sym (append_assoc (low_bits count buffer) (low_bits 32 w) (bits_of rest))
          ∙ ap (λ zs. zs ++ bits_of rest) (sym (low_bits-add count 32 buffer w h.fits))
          ∙ ap (λ k. low_bits (count + 32) k ++ bits_of rest) (sym e);
    }

-- ---- taking bits from the buffer

abbrev pub placed : List ℕ → ℕ → BitPlace
placed bytes taken = record { bytes = bytes; taken = taken }

-- how many bits are left
pub length-left : (bytes : List ℕ) (next buffer count : ℕ) → HasBuffer bytes next buffer count →
    length (drop (8 * next - count) (bits_of bytes)) ≡ count + 8 * (length bytes - next)
length-left bytes next buffer count h =
    ap length h.holds ∙ length-append (low_bits count buffer) (bits_of (drop next bytes))
    ∙ (let a = length-low_bits count buffer in let b = length-bits_of (drop next bytes) in let c = length-drop next bytes in omega arith)

-- enough bits are there
pub bits_there : (bytes : List ℕ) (next buffer count n : ℕ) → HasBuffer bytes next buffer count → n ≤ count →
    (let r : BitPlace = record { bytes = bytes; taken = 8 * next - count } in
    (next_bits n r ≡ Some (buffer % 2 ^ n)) × (after_bits n r ≡ record { bytes = bytes; taken = 8 * next - (count - n) }))
bits_there bytes next buffer count n h k =
    let enough : nat_le n (length (drop (8 * next - count) (bits_of bytes))) ≡ true =
    le-leb n (length (drop (8 * next - count) (bits_of bytes))) (let e = length-left bytes next buffer count h in omega arith) in
    let place : 8 * next - count + n ≡ 8 * next - (count - n) = (let b = h.begun in omega arith) in (
      cond-true _ _ _ enough ∙ ap (λ v. Some v) (ap (λ zs. number_of (take n zs)) h.holds ∙ take-low_bits n count buffer (bits_of (drop next bytes)) k),
      cond-true _ _ _ enough ∙ ap (placed bytes) place,
    )

-- the buffer behind them
pub buffer_after : (bytes : List ℕ) (next buffer count n : ℕ) → HasBuffer bytes next buffer count → n ≤ count →
    HasBuffer bytes next (buffer / 2 ^ n) (count - n)
buffer_after bytes next buffer count n h k =
    let e : count ≡ (count - n) + n = omega arith in
    let place : 8 * next - (count - n) ≡ 8 * next - count + n = (let b = h.begun in omega arith) in
    record {
      within = h.within;
      begun = (let b = h.begun in omega arith);
      small = (let b = h.small in omega arith);
      fits = shr_below buffer (count - n) n (subst (λ j. buffer < 2 ^ j) e h.fits);
      holds = ap (λ j. drop j (bits_of bytes)) place
          ∙ sym (drop-drop n (8 * next - count) (bits_of bytes))
          ∙ ap (drop n) h.holds ∙ drop-low_bits n count buffer (bits_of (drop next bytes)) k;
    }

-- too few bits are left
pub bits_short : (bytes : List ℕ) (next buffer count n : ℕ) → HasBuffer bytes next buffer count → count < n → next ≡ length bytes →
    (let r : BitPlace = record { bytes = bytes; taken = 8 * next - count } in (next_bits n r ≡ None) × (after_bits n r ≡ r))
bits_short bytes next buffer count n h k e =
    let short : nat_le n (length (drop (8 * next - count) (bits_of bytes))) ≡ false =
    lt-leb n (length (drop (8 * next - count) (bits_of bytes))) (let l = length-left bytes next buffer count h in omega arith) in
    (cond-false _ _ _ short, cond-false _ _ _ short)

-- how many bytes were begun
pub bytes_begun : (next count : ℕ) → count ≤ 8 * next → bytes_for (8 * next - count) ≡ next - count / 8
bytes_begun next count h = omega arith

-- the bits that are left are those of the buffer and those of the bytes behind it
pub length-placed : (bytes : List ℕ) (next buffer count : ℕ) → HasBuffer bytes next buffer count
    → length (bits_left (placed bytes (8 * next - count))) ≡ 8 * (length bytes - next) + count
length-placed bytes next buffer count holds =
    let l : length (bits_left (placed bytes (8 * next - count))) ≡ length (bits_of bytes) - (8 * next - count) = length-drop (8 * next - count) (bits_of bytes) in
    let b = length-bits_of bytes in
    omega (arith, l, b, holds.within, holds.begun)
