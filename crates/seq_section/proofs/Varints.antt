-- Varints of up to three bytes.
use Rattle.std.proofs.Common.{◌≡◌, ℕ, ◌+◌, ◌-◌, ◌*◌, ◌/◌, ◌%◌, ◌^◌, ◌<◌, ◌≤◌, Bool, true, false, List, [], ◌∷◌, ◌++◌, length, get_or, nat_lt, if◌then◌else◌, Result, Ok, Err, refl, sym, ◌∙◌, ap, append_assoc, arith, inl, inr, lt-ltb, le-ltb}
use Rattle.std.proofs.lemmas.Bool.{cases_lt}
use Rattle.drc_base.specs.declared.kinds.Kind.{Kind}
use Rattle.drc_base.specs.declared.kinds.Kind.TheVariants as kind
use Rattle.drc_bits.specs.Varint.{with_group, varint_groups, value_of, fitting, spelling, varint}
use Rattle.drc_bits.proofs.Results.{Ok-injective, err≢ok}

pub one_byte : (n : ℕ) → n < 128 → spelling 5 n ≡ n ∷ []
unfolding spelling
one_byte n low = rw (lt-ltb n 128 low) refl

pub two_bytes : (n : ℕ) → 128 ≤ n → n < 16384 → spelling 5 n ≡ (n % 128 + 128) ∷ n / 128 ∷ []
unfolding spelling
two_bytes n high low =
    let below : n / 128 < 128 = omega arith in
    rw (le-ltb n 128 high, lt-ltb (n / 128) 128 below) refl

pub three_bytes : (n : ℕ) → 16384 ≤ n → n < 2097152 → spelling 5 n ≡ (n % 128 + 128) ∷ (n / 128 % 128 + 128) ∷ n / 128 / 128 ∷ []
unfolding spelling
three_bytes n high low =
    let first : 128 ≤ n = omega arith in
    let second : 128 ≤ n / 128 = omega arith in
    let below : n / 128 / 128 < 128 = omega arith in
    rw (le-ltb n 128 first, le-ltb (n / 128) 128 second, lt-ltb (n / 128 / 128) 128 below) refl

-- two bytes are pushed
pub push-two : (front one two : List ℕ) (n : ℕ) → 128 ≤ n → n < 16384 → one ≡ front ++ (n % 128 + 128) ∷ [] → two ≡ one ++ n / 128 ∷ []
    → two ≡ front ++ spelling 5 n
push-two front one two n high low first second =
    second ∙ ap (λ l. l ++ n / 128 ∷ []) first ∙ append_assoc front ((n % 128 + 128) ∷ []) (n / 128 ∷ []) ∙ ap (λ l. front ++ l) (sym (two_bytes n high low))

-- three bytes are pushed
pub push-three : (front one two three : List ℕ) (n : ℕ) → 16384 ≤ n → n < 2097152 → one ≡ front ++ (n % 128 + 128) ∷ []
    → two ≡ one ++ (n / 128 % 128 + 128) ∷ [] → three ≡ two ++ n / 128 / 128 ∷ [] → three ≡ front ++ spelling 5 n
push-three front one two three n high low first second third =
    third
    ∙ ap (λ l. l ++ n / 128 / 128 ∷ []) (second ∙ ap (λ l. l ++ (n / 128 % 128 + 128) ∷ []) first ∙ append_assoc front ((n % 128 + 128) ∷ []) ((n / 128 % 128 + 128) ∷ []))
    ∙ append_assoc front ((n % 128 + 128) ∷ (n / 128 % 128 + 128) ∷ []) (n / 128 / 128 ∷ [])
    ∙ ap (λ l. front ++ l) (sym (three_bytes n high low))

-- a varint of one byte is read
pub read-one : (bytes : List ℕ) → 0 < length bytes → get_or bytes 0 0 < 128 → varint 5 (2 ^ 32) bytes ≡ Ok (get_or bytes 0 0, 1)
unfolding varint
read-one [] has low = absurd (omega (arith, has))
read-one (a ∷ bytes) has low =
    let fits : nat_lt (a + 128 * 0) (2 ^ 32) ≡ true = lt-ltb (a + 128 * 0) (2 ^ 32) (omega (arith, low)) in
    let value : a + 128 * 0 ≡ a = omega arith in
    rw (lt-ltb a 128 low, fits, value) refl

-- a varint of two bytes is read
pub read-two : (bytes : List ℕ) → 1 < length bytes → 128 ≤ get_or bytes 0 0 → get_or bytes 0 0 < 256 → get_or bytes 1 0 < 128
    → varint 5 (2 ^ 32) bytes ≡ Ok (get_or bytes 0 0 - 128 + 128 * get_or bytes 1 0, 2)
unfolding varint
read-two [] has high byte low = absurd (omega (arith, has))
read-two (a ∷ []) has high byte low = absurd (omega (arith, has))
read-two (a ∷ b ∷ bytes) has high byte low =
    let value : a - 128 + 128 * (b + 128 * 0) ≡ a - 128 + 128 * b = omega arith in
    let fits : nat_lt (a - 128 + 128 * (b + 128 * 0)) (2 ^ 32) ≡ true = lt-ltb (a - 128 + 128 * (b + 128 * 0)) (2 ^ 32) (omega (arith, low, byte)) in
    rw (le-ltb a 128 high, lt-ltb b 128 low, fits, value) refl

-- a varint of three bytes is read
pub read-three : (bytes : List ℕ) → 2 < length bytes → 128 ≤ get_or bytes 0 0 → get_or bytes 0 0 < 256 → 128 ≤ get_or bytes 1 0 → get_or bytes 1 0 < 256
    → get_or bytes 2 0 < 128 → varint 5 (2 ^ 32) bytes ≡ Ok (get_or bytes 0 0 - 128 + 128 * (get_or bytes 1 0 - 128 + 128 * get_or bytes 2 0), 3)
unfolding varint
read-three [] has high byte high2 byte2 low = absurd (omega (arith, has))
read-three (a ∷ []) has high byte high2 byte2 low = absurd (omega (arith, has))
read-three (a ∷ b ∷ []) has high byte high2 byte2 low = absurd (omega (arith, has))
read-three (a ∷ b ∷ d ∷ bytes) has high byte high2 byte2 low =
    let value : a - 128 + 128 * (b - 128 + 128 * (d + 128 * 0)) ≡ a - 128 + 128 * (b - 128 + 128 * d) = omega arith in
    let fits : nat_lt (a - 128 + 128 * (b - 128 + 128 * (d + 128 * 0))) (2 ^ 32) ≡ true = lt-ltb (a - 128 + 128 * (b - 128 + 128 * (d + 128 * 0))) (2 ^ 32) (omega (arith, low, byte, byte2)) in
    rw (le-ltb a 128 high, le-ltb b 128 high2, lt-ltb d 128 low, fits, value) refl

-- a varint of at least four groups takes at least four bytes
four_groups : (limit a b d e v k : ℕ) (r : Result (List ℕ) Kind)
    → fitting limit (with_group a (with_group b (with_group d (with_group e r)))) ≡ Ok (v, k) → 3 < k
four_groups limit a b d e v k (Err f) is = absurd (err≢ok is)
four_groups limit a b d e v k (Ok groups) is =
    omega (arith, sized (nat_lt (value_of (a ∷ b ∷ d ∷ e ∷ groups)) limit) (value_of (a ∷ b ∷ d ∷ e ∷ groups)) (length (a ∷ b ∷ d ∷ e ∷ groups)) is)
  where
    sized : (t : Bool) (x n : ℕ) → ◌≡◌ {A = Result (ℕ × ℕ) Kind} (if t then Ok (x, n) else Err kind.Long) (Ok (v, k)) → n ≡ k
    sized true x n is = ap (λ p. p.1) (Ok-injective is)
    sized false x n is = absurd (err≢ok is)

-- three high bytes begin no varint of at most three
pub none-of-three : (bytes : List ℕ) (v k : ℕ) → 2 < length bytes → 128 ≤ get_or bytes 0 0 → 128 ≤ get_or bytes 1 0 → 128 ≤ get_or bytes 2 0
    → varint 5 (2 ^ 32) bytes ≡ Ok (v, k) → k ≤ 3 → ⊥
unfolding varint
none-of-three [] v k has high high2 high3 is few = absurd (omega (arith, has))
none-of-three (a ∷ []) v k has high high2 high3 is few = absurd (omega (arith, has))
none-of-three (a ∷ b ∷ []) v k has high high2 high3 is few = absurd (omega (arith, has))
none-of-three (a ∷ b ∷ d ∷ []) v k has high high2 high3 is few =
    err≢ok (rw (le-ltb a 128 high, le-ltb b 128 high2, le-ltb d 128 high3) at is)
none-of-three (a ∷ b ∷ d ∷ e ∷ bytes) v k has high high2 high3 is few = elim (cases_lt e 128) [
  | inl low ↦ let more = four_groups (2 ^ 32) (a - 128) (b - 128) (d - 128) e v k (Ok [])
      (rw (le-ltb a 128 high, le-ltb b 128 high2, le-ltb d 128 high3, lt-ltb e 128 low) at is) in omega (arith, more, few)
  | inr high4 ↦ let more = four_groups (2 ^ 32) (a - 128) (b - 128) (d - 128) (e - 128) v k (varint_groups 1 bytes)
      (rw (le-ltb a 128 high, le-ltb b 128 high2, le-ltb d 128 high3, le-ltb e 128 high4) at is) in omega (arith, more, few)
]
