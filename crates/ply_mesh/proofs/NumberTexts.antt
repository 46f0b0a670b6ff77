-- Numbers that are written are read again.
use Rattle.std.proofs.Common.{◌≡◌, ℕ, zero, suc, ◌+◌, ◌-◌, ◌*◌, ◌/◌, ◌%◌, ◌^◌, ◌<◌, ◌≤◌, true, cond, ltb, leb, List, [], ◌∷◌, ◌++◌, length, Option, Some, None, refl, ap, ◌∙◌, inl, inr, rules, arith}
use Rattle.std.specs.Prelude.{ℤ, pos, negsuc, neg_ℤ, option_map, option_and_then, fold}
use Rattle.std.specs.List.{list_all}
use Rattle.std.specs.Fmt.{decimal, signed_decimal}
use Rattle.std.proofs.lemmas.Bool.{cases_lt, cases_Bool, le-leb, leb-true, lt-leb, le-ltb, lt-ltb, ne_eqb, and_parts, and_from}
use Rattle.std.proofs.lemmas.Fmt.{digits_decimal, digits_value-decimal, decimal_nonempty}
use Rattle.std.proofs.lemmas.List.{length-append}
use Rattle.std.proofs.lemmas.Nat.{div_below}
use Rattle.std.proofs.Math.Nat.{pow-suc}
use Rattle.std.proofs.lemmas.Str.Parse.{IsNumeralModel, numerals_by_fold}
use Rattle.ply_text.specs.Numbers.{is_digit, is_digits, digits_value, natural_of, integer_of, only_if, natural_within, hex_value, hex_after, pattern_of}
use Rattle.ply_mesh.specs.Text.{hex_digit, hex_digits, pattern_text}
use Rattle.ply_mesh.proofs.Lexing.{is_token, list_all-append}

abbrev read_on : ℕ → List ℕ → ℕ
read_on n cs = fold (λ n c. n * 10 + (c - 48)) n cs

abbrev AreDigits : List ℕ → Type 0
AreDigits ds = list_all is_digit ds ≡ true

own : IsNumeralModel AreDigits (read_on 0)
own = numerals_by_fold AreDigits (search rules) read_on (search rules)

pub digits_again : (n : ℕ) → n < 2 ^ 64 → list_all is_digit (decimal n) ≡ true
digits_again n h = digits_decimal own n h

pub natural_again : (n : ℕ) → n < 2 ^ 64 → natural_of (decimal n) ≡ Some n
unfolding natural_of is_digits digits_value
natural_again n h = rw (lt-ltb 0 (length (decimal n)) (decimal_nonempty n h), digits_again n h) (ap (λ (m : ℕ). Some m) (digits_value-decimal own n h))

pub within_again : (most n : ℕ) → n ≤ most → most < 2 ^ 64 → natural_within most (decimal n) ≡ Some n
unfolding natural_within
within_again most n le h = ap (only_if (λ m. leb m most)) (natural_again n (omega arith)) ∙ ap (λ b. cond b (Some n) None) (le-leb n most le)

pub is_digits_again : (n : ℕ) → n < 2 ^ 64 → is_digits (decimal n) ≡ true
unfolding is_digits
is_digits_again n h = and_from _ _ (lt-ltb 0 (length (decimal n)) (decimal_nonempty n h)) (digits_again n h)

above : (ds : List ℕ) → list_all is_digit ds ≡ true → list_all (λ c. ltb 32 c) ds ≡ true
above [] h = refl
above (c ∷ cs) h =
    let q = and_parts (is_digit c) (list_all is_digit cs) h in
    let r = and_parts (leb 48 c) (leb c 57) q.0 in
    and_from (ltb 32 c) (list_all (λ c. ltb 32 c) cs) (lt-ltb 32 c (omega (arith, leb-true 48 c r.0))) (above cs q.1)

pub decimal_above : (n : ℕ) → n < 2 ^ 64 → list_all (λ c. ltb 32 c) (decimal n) ≡ true
decimal_above n h = above (decimal n) (digits_again n h)

pub decimal_token : (n : ℕ) → n < 2 ^ 64 → is_token (decimal n) ≡ true
decimal_token n h = and_from _ _ (lt-ltb 0 (length (decimal n)) (decimal_nonempty n h)) (decimal_above n h)

-- ---- signed numbers

digits_first : (ds : List ℕ) → 0 < length ds → list_all is_digit ds ≡ true → integer_of ds ≡ option_map pos (natural_of ds)
unfolding integer_of
digits_first [] long h = absurd (omega arith)
digits_first (c ∷ cs) long h =
    let q = and_parts (is_digit c) (list_all is_digit cs) h in
    let r = and_parts (leb 48 c) (leb c 57) q.0 in
    rw (ne_eqb c 45 (λ e. omega (arith, leb-true 48 c r.0))) refl

abbrev size : ℤ → ℕ
size (pos n) = n
size (negsuc n) = suc n

-- a number of few digits
pub record IsSmall (z : ℤ) : Type 0 where
  pub small : size z < 2 ^ 64

pub integer_again : (z : ℤ) → IsSmall z → integer_of (signed_decimal z) ≡ Some z
unfolding integer_of
integer_again (pos n) h = digits_first (decimal n) (decimal_nonempty n h.small) (digits_again n h.small) ∙ ap (option_map pos) (natural_again n h.small)
integer_again (negsuc n) h = ap (option_map (λ m. neg_ℤ (pos m))) (natural_again (suc n) h.small)

pub signed_token : (z : ℤ) → IsSmall z → is_token (signed_decimal z) ≡ true
signed_token (pos n) h = decimal_token n h.small
signed_token (negsuc n) h = and_from _ _ (lt-ltb 0 (length (45 ∷ decimal (suc n))) (omega arith)) (decimal_above (suc n) h.small)

-- ---- bit patterns

glyph_back : (d : ℕ) → d < 16 → hex_value (hex_digit d) ≡ Some d
glyph_back d h = elim (cases_lt d 10) [
  | inl lt ↦
      let e : 48 + d - 48 ≡ d = omega arith in
      rw (lt-ltb d 10 lt, le-leb 48 (48 + d) (omega arith), le-leb (48 + d) 57 (omega arith), e) refl
  | inr le ↦
      let e : 87 + d - 87 ≡ d = omega arith in
      rw (le-ltb d 10 le, lt-leb (87 + d) 57 (omega arith), le-leb 48 (87 + d) (omega arith), le-leb 97 (87 + d) (omega arith), le-leb (87 + d) 102 (omega arith), e) refl
]

glyph_above : (d : ℕ) → 32 < hex_digit d
glyph_above d = elim (cases_Bool (ltb d 10)) [
  | inl yes' ↦ rw yes' (omega arith)
  | inr no' ↦ rw no' (omega arith)
]

hex_step : (n : ℕ) (o : Option ℕ) (xs ys : List ℕ) → ((m : ℕ) → hex_after m (xs ++ ys) ≡ option_and_then (λ k. hex_after k ys) (hex_after m xs)) → option_and_then (λ d. hex_after (n * 16 + d) (xs ++ ys)) o ≡ option_and_then (λ m. hex_after m ys) (option_and_then (λ d. hex_after (n * 16 + d) xs) o)
hex_step n None xs ys f = refl
hex_step n (Some d) xs ys f = f (n * 16 + d)

hex_push : (n : ℕ) (xs ys : List ℕ) → hex_after n (xs ++ ys) ≡ option_and_then (λ m. hex_after m ys) (hex_after n xs)
hex_push n [] ys = refl
hex_push n (x ∷ xs) ys = hex_step n (hex_value x) xs ys (λ m. hex_push m xs ys)

hex_again : (k v : ℕ) → v < 16 ^ k → hex_after 0 (hex_digits k v) ≡ Some v
hex_again zero v h = let e : v ≡ 0 = omega arith in rw e refl
hex_again (suc k) v h =
    let small : v / 16 < 16 ^ k = div_below v 16 (16 ^ k) (omega arith) (omega (arith, pow-suc 16 k)) in
    let digit : v % 16 < 16 = omega arith in
    let whole : v / 16 * 16 + v % 16 ≡ v = omega arith in
    hex_push 0 (hex_digits k (v / 16)) (hex_digit (v % 16) ∷ [])
    ∙ ap (option_and_then (λ m. hex_after m (hex_digit (v % 16) ∷ []))) (hex_again k (v / 16) small)
    ∙ ap (option_and_then (λ d. Some (v / 16 * 16 + d))) (glyph_back (v % 16) digit)
    ∙ ap (λ (m : ℕ). Some m) whole

length-hex : (k v : ℕ) → length (hex_digits k v) ≡ k
length-hex zero v = refl
length-hex (suc k) v = length-append (hex_digits k (v / 16)) (hex_digit (v % 16) ∷ []) ∙ ap (λ n. n + 1) (length-hex k (v / 16)) ∙ omega arith

pub pattern_again : (v : ℕ) → v < 2 ^ 32 → pattern_of (pattern_text v) ≡ Some v
unfolding pattern_of pattern_text
pattern_again v h = hex_again 8 v h

hex_above : (k v : ℕ) → list_all (λ c. ltb 32 c) (hex_digits k v) ≡ true
hex_above zero v = refl
hex_above (suc k) v = list_all-append (λ c. ltb 32 c) (hex_digits k (v / 16)) (hex_digit (v % 16) ∷ []) (hex_above k (v / 16)) (and_from _ _ (lt-ltb 32 (hex_digit (v % 16)) (glyph_above (v % 16))) refl)

pub pattern_token : (v : ℕ) → is_token (pattern_text v) ≡ true
unfolding pattern_text
pattern_token v = hex_above 8 v
