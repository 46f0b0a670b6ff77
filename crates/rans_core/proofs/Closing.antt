-- A coder's bytes start with the state that they were closed with.
use Rattle.std.proofs.Common.{◌≡◌, ℕ, ◌+◌, ◌-◌, ◌*◌, ◌/◌, ◌%◌, ◌^◌, ◌<◌, ◌≤◌, nat_lt, List, [], ◌∷◌, ◌++◌, reverse, ◌⊎◌, Option, Some, refl, ap, ◌∙◌, inl, inr, arith, ltb-true, ltb-false, lt-ltb, add-one, All, pow_mono, pow_pos}
use Rattle.std.proofs.lemmas.Bool.{cases_Bool, cond-true, cond-false}
use Rattle.std.proofs.lemmas.List.{reverse-append, reverse-reverse, append_assoc}
use Rattle.rans_core.specs.Coder.{Fits, Interval, Unpacks, all_pushed, all_spelled, CoderState, low_bytes, end_bytes, spelled, joined_number, started_back, started}
use Rattle.rans_core.proofs.Pulling.{IsFull, all_pushed-Pulled}

-- the first state, from the parts of the last byte and the joined number
pub started_back-at : (tags base n more high last : ℕ) (before bytes : List ℕ) → more < tags → last / 64 ≡ more → last % 64 ≡ high →
    joined_number more high before ≡ Some (record { number = n; bytes = bytes }) → base + n < 256 * base →
    started_back tags base (last ∷ before) ≡ Some (record { number = base + n; bytes = bytes })
started_back-at tags base n more high last before bytes t q r j b =
    rw (q, r) (rw j (cond-true _ _ _ (lt-ltb more tags t) ∙ cond-true _ _ _ (lt-ltb (base + n) (256 * base) b)))

abbrev first : List ℕ → ℕ → Option CoderState
first bytes n = Some (record { number = n; bytes = bytes })

number_is : (bytes : List ℕ) (m n : ℕ) → m ≡ n → first bytes m ≡ first bytes n
number_is bytes m n e = ap (first bytes) e

pub started_back-one : (tags base n : ℕ) (bytes : List ℕ) → 0 < tags → n < 2 ^ 6 → base + n < 256 * base →
    started_back tags base (reverse (low_bytes 1 n) ++ bytes) ≡ Some (record { number = base + n; bytes = bytes })
started_back-one tags base n bytes t h b =
    started_back-at tags base n 0 n (n % 256) bytes bytes t (omega arith) (omega arith) refl b

pub started_back-two : (tags base n : ℕ) (bytes : List ℕ) → 1 < tags → n < 2 ^ 14 → base + n < 256 * base →
    started_back tags base (reverse (low_bytes 2 (n + 1 * 2 ^ 14)) ++ bytes) ≡ Some (record { number = base + n; bytes = bytes })
started_back-two tags base n bytes t h b =
    let w : ℕ = n + 16384 in
    started_back-at tags base n 1 (n / 256) (w / 256 % 256) (w % 256 ∷ bytes) bytes t (omega arith) (omega arith)
    (number_is bytes (256 * (n / 256) + w % 256) n (omega arith)) b

pub started_back-three : (tags base n : ℕ) (bytes : List ℕ) → 2 < tags → n < 2 ^ 22 → base + n < 256 * base →
    started_back tags base (reverse (low_bytes 3 (n + 2 * 2 ^ 22)) ++ bytes) ≡ Some (record { number = base + n; bytes = bytes })
started_back-three tags base n bytes t h b =
    let w : ℕ = n + 8388608 in
    started_back-at tags base n 2 (n / 65536) (w / 256 / 256 % 256) (w / 256 % 256 ∷ w % 256 ∷ bytes) bytes t (omega arith) (omega arith)
    (number_is bytes (256 * (256 * (n / 65536) + w / 256 % 256) + w % 256) n (omega arith)) b

pub started_back-four : (tags base n : ℕ) (bytes : List ℕ) → 3 < tags → n < 2 ^ 30 → base + n < 256 * base →
    started_back tags base (reverse (low_bytes 4 (n + 3 * 2 ^ 30)) ++ bytes) ≡ Some (record { number = base + n; bytes = bytes })
started_back-four tags base n bytes t h b =
    let w : ℕ = n + 3221225472 in
    started_back-at tags base n 3 (n / 16777216) (w / 256 / 256 / 256 % 256) (w / 256 / 256 % 256 ∷ w / 256 % 256 ∷ w % 256 ∷ bytes) bytes t (omega arith) (omega arith)
    (number_is bytes (256 * (256 * (256 * (n / 16777216) + w / 256 / 256 % 256) + w / 256 % 256) + w % 256) n (omega arith)) b

-- the closing bytes of a number say the number, whatever the tags above them are
pub started_back-end : (tags base n : ℕ) (bytes : List ℕ) → 2 < tags → (n < 2 ^ 22) ⊎ ((3 < tags) × (n < 2 ^ 30)) → base + n < 256 * base →
    started_back tags base (reverse (end_bytes n) ++ bytes) ≡ Some (record { number = base + n; bytes = bytes })
unfolding end_bytes
started_back-end tags base n bytes t h b =
    elim (cases_Bool (nat_lt n (2 ^ 6))) [
      | inl e ↦ rw (cond-true _ _ _ e) (started_back-one tags base n bytes (omega arith) (ltb-true n (2 ^ 6) e) b)
      | inr e ↦ rw (cond-false _ _ _ e) (elim (cases_Bool (nat_lt n (2 ^ 14))) [
        | inl e ↦ rw (cond-true _ _ _ e) (started_back-two tags base n bytes (omega arith) (ltb-true n (2 ^ 14) e) b)
        | inr e ↦ rw (cond-false _ _ _ e) (elim (cases_Bool (nat_lt n (2 ^ 22))) [
          | inl e ↦ rw (cond-true _ _ _ e) (started_back-three tags base n bytes t (ltb-true n (2 ^ 22) e) b)
          | inr e ↦ rw (cond-false _ _ _ e) (let big : 2 ^ 22 ≤ n = ltb-false n (2 ^ 22) e in elim h [
            | inl small ↦ absurd (omega arith)
            | inr g ↦ started_back-four tags base n bytes g.0 g.1 b
          ])
        ])
      ])
    ]

-- a full state's bytes start with that state
pub started-spelled : (tags base : ℕ) (s : CoderState) → 2 < tags → (255 * base ≤ 2 ^ 22) ⊎ ((3 < tags) × (255 * base ≤ 2 ^ 30)) → IsFull base s →
    started tags base (spelled base s) ≡ Some s
started-spelled tags base s t room full =
    let n : ℕ = s.number - base in
    let up : base + n ≡ s.number = omega arith in
    let regroup : reverse (spelled base s) ≡ reverse (end_bytes n) ++ s.bytes =
    reverse-append (reverse s.bytes) (end_bytes n) ∙ ap (λ xs. reverse (end_bytes n) ++ xs) (reverse-reverse s.bytes) in
    let small : (n < 2 ^ 22) ⊎ ((3 < tags) × (n < 2 ^ 30)) =
    elim room [ inl h ↦ inl (omega arith) | inr h ↦ inr (h.0, omega arith) ] in
    ap (started_back tags base) regroup
    ∙ started_back-end tags base n s.bytes t small (omega arith)
    ∙ number_is s.bytes (base + n) s.number up

-- one more low byte
pub low_bytes-step : (xs ys : List ℕ) (more more' n b : ℕ) → more' ≡ more + 1 → b ≡ n % 256 → ys ≡ xs ++ b ∷ [] →
    ys ++ low_bytes more (n / 256) ≡ xs ++ low_bytes more' n
low_bytes-step xs ys more more' n b m e p =
    rw (p, m, add-one more, e) (append_assoc xs (n % 256 ∷ []) (low_bytes more (n / 256)))

-- what was pushed into a coder for symbols is pulled from its bytes
pub all_spelled-Unpacks : (bits : ℕ) (is : List Interval) → bits ≤ 20 → All (Fits (2 ^ bits)) is → Unpacks 4 (2 ^ bits) (all_spelled 4 (2 ^ bits) is) is
all_spelled-Unpacks bits is high fits =
    let most : 2 ^ bits ≤ 2 ^ 20 = pow_mono {i = bits} {j = 20} high in
    let least : 1 ≤ 2 ^ bits = pow_pos bits in
    let both = all_pushed-Pulled 4 (2 ^ bits) is (omega arith) least (omega arith) fits in
    let s : CoderState = all_pushed 4 (2 ^ bits) is in
    (s, started-spelled 4 (4 * 2 ^ bits) s (omega arith) (inr (omega arith, omega arith)) both.0, both.1)
