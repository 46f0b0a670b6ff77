-- Numbers in their one spelling, digit by digit.
use Rattle.std.proofs.Common.{◌≡◌, ◌≢◌, ℕ, ◌+◌, ◌-◌, ◌*◌, ◌^◌, ◌<◌, ◌≤◌, true, false, ltb, eqb, List, [], ◌∷◌, length, drop, get_or, Option, Some, None, refl, sym, ap, ◌∙◌, subst, inl, inr, lit<, arith, rules}
use Rattle.std.specs.Prelude.{option_map}
use Rattle.std.specs.Fmt.{decimal}
use Rattle.std.proofs.lemmas.Bool.{cases_lt, cases_Bool, false≢true, cond-true, eq-eqb, ne_eqb, lt-ltb, le-ltb}
use Rattle.std.proofs.lemmas.Slice.Eq.{bytes_eq-Decides}
use Rattle.std.proofs.lemmas.Str.Parse.{IsNumeralModel, numerals_by_fold}
use Rattle.std.proofs.lemmas.Fmt.{decimal-digits_value, first_decimal, decimal_digit}
use Rattle.std.proofs.lemmas.List.{drop_more, drop_all}
use Rattle.mesh_model.specs.NumberText.{is_digit, digits_of, value_after, behind_byte, digits_then, is_spelled, number_then, IsReadAt}

le_value_after : (n : ℕ) (cs : List ℕ) → n ≤ value_after n cs
le_value_after n [] = omega arith
le_value_after n (c ∷ cs) = omega (arith, le_value_after (n * 10 + (c - 48)) cs)

-- one digit more
pub digits-more : (c n b : ℕ) (bs : List ℕ) → is_digit b ≡ true → digits_then c n (b ∷ bs) ≡ digits_then c (n * 10 + (b - 48)) bs
unfolding digits_then
digits-more c n b bs digit = rw digit refl

-- the byte behind the digits
pub digits-stop : (c n b : ℕ) (bs : List ℕ) → is_digit b ≡ false → n < 2 ^ 32 → digits_then c n (b ∷ bs) ≡ option_map (λ rest. (n, rest)) (behind_byte c (b ∷ bs))
unfolding digits_then
digits-stop c n b bs other small = rw (other, lt-ltb n (2 ^ 32) small) refl

-- no byte behind them
pub digits-end : (c n : ℕ) → digits_then c n [] ≡ None
unfolding digits_then
digits-end c n = elim (cases_Bool (ltb n (2 ^ 32))) [ inl e ↦ rw e refl | inr e ↦ rw e refl ]

-- a number that is too large
digits-none : (c n : ℕ) (bs : List ℕ) → 2 ^ 32 ≤ value_after n (digits_of bs) → digits_then c n bs ≡ None
unfolding digits_then
digits-none c n bs wide = rw (le-ltb (value_after n (digits_of bs)) (2 ^ 32) wide) refl

pub digits-wide : (c n : ℕ) (bs : List ℕ) → 2 ^ 32 ≤ n → digits_then c n bs ≡ None
digits-wide c n bs wide = digits-none c n bs (omega (arith, le_value_after n (digits_of bs)))

-- the same in a text, from a place on
pub digits-more_at : (c n i : ℕ) (text : List ℕ) → i < length text → is_digit (get_or text i 0) ≡ true
    → digits_then c n (drop i text) ≡ digits_then c (n * 10 + (get_or text i 0 - 48)) (drop (i + 1) text)
digits-more_at c n i text inside digit = ap (digits_then c n) (drop_more text i 0 inside) ∙ digits-more c n (get_or text i 0) (drop (i + 1) text) digit

pub digits-stop_at : (c n i : ℕ) (text : List ℕ) → i < length text → is_digit (get_or text i 0) ≡ false → n < 2 ^ 32
    → digits_then c n (drop i text) ≡ option_map (λ rest. (n, rest)) (behind_byte c (drop i text))
digits-stop_at c n i text inside other small =
    let e = drop_more text i 0 inside in
    ap (digits_then c n) e ∙ digits-stop c n (get_or text i 0) (drop (i + 1) text) other small ∙ ap (λ (t : List ℕ). option_map (λ rest. (n, rest)) (behind_byte c t)) (sym e)

pub digits-end_at : (c n i : ℕ) (text : List ℕ) → length text ≤ i → digits_then c n (drop i text) ≡ None
digits-end_at c n i text past = ap (digits_then c n) (drop_all i text past) ∙ digits-end c n

-- the byte at a place
pub byte-at : (c i : ℕ) (text : List ℕ) → i < length text → get_or text i 0 ≡ c → behind_byte c (drop i text) ≡ Some (drop (i + 1) text)
byte-at c i text inside is = rw (drop_more text i 0 inside, eq-eqb (get_or text i 0) c is) refl

pub byte-other_at : (c i : ℕ) (text : List ℕ) → i < length text → get_or text i 0 ≢ c → behind_byte c (drop i text) ≡ None
byte-other_at c i text inside other = rw (drop_more text i 0 inside, ne_eqb (get_or text i 0) c other) refl

pub byte-end_at : (c i : ℕ) (text : List ℕ) → length text ≤ i → behind_byte c (drop i text) ≡ None
byte-end_at c i text past = rw (drop_all i text past) refl

-- digits alone
abbrev pub AreDigits : List ℕ → Type 0
AreDigits [] = Unit {0}
AreDigits (c ∷ cs) = (is_digit c ≡ true) × AreDigits cs

pub own : IsNumeralModel AreDigits (value_after 0)
own = numerals_by_fold AreDigits (search rules) value_after (search rules)

pub digits_of-are : (text : List ℕ) → AreDigits (digits_of text)
digits_of-are [] = tt
digits_of-are (c ∷ cs) = elim (cases_Bool (is_digit c)) [
  | inl e ↦ rw e (e, digits_of-are cs)
  | inr e ↦ rw e tt
]

-- no text begins with a number where it begins with no digit
pub number-none : (c : ℕ) (text : List ℕ) → digits_of text ≡ [] → number_then c text ≡ None
unfolding number_then
number-none c text none = rw (none, decimal_digit 0 (lit< tt)) refl

pub number-empty : (c : ℕ) → number_then c [] ≡ None
number-empty c = number-none c [] refl

pub number-other : (c b : ℕ) (bs : List ℕ) → is_digit b ≡ false → number_then c (b ∷ bs) ≡ None
number-other c b bs other = number-none c (b ∷ bs) (rw other refl)

-- zero stands in front of no other digit
number-leading : (c b : ℕ) (bs : List ℕ) → is_digit b ≡ true → number_then c (48 ∷ b ∷ bs) ≡ None
unfolding number_then
number-leading c b bs digit =
    let text = 48 ∷ b ∷ bs in
    let v = value_after 0 (digits_of text) in
    elim (cases_Bool (is_spelled text)) [
      | inr other ↦ rw other refl
      | inl spelled ↦ elim (cases_lt v (2 ^ 32)) [
        | inr wide ↦ cond-true (is_spelled text) (digits_then c 0 text) None spelled ∙ digits-none c 0 text wide
        | inl small ↦
            let same : decimal v ≡ digits_of text = (bytes_eq-Decides (decimal v) (digits_of text)).0 spelled in
            let long : digits_of text ≡ 48 ∷ b ∷ digits_of bs = rw digit refl in
            let is : decimal v ≡ 48 ∷ b ∷ digits_of bs = same ∙ long in
            elim (cases_lt 0 v) [
              | inl more ↦
                  let first : 48 < get_or (decimal v) 0 0 = first_decimal v more (omega arith) in
                  absurd (omega (arith, ap (λ (t : List ℕ). get_or t 0 0) is))
              | inr none ↦
                  let zero : v ≡ 0 = omega arith in
                  absurd (omega (arith, ap length (sym (ap decimal zero ∙ decimal_digit 0 (lit< tt)) ∙ is)))
            ]
      ]
    ]

-- zero is written by itself
pub number-zero : (c : ℕ) (bs : List ℕ) → is_digit c ≡ false → number_then c (48 ∷ bs) ≡ option_map (λ rest. (0, rest)) (behind_byte c bs)
unfolding number_then
number-zero c [] other = rw (decimal_digit 0 (lit< tt)) (digits-more c 0 48 [] refl ∙ digits-end c 0)
number-zero c (b ∷ bs) other = elim (cases_Bool (is_digit b)) [
  | inr e ↦ rw (e, decimal_digit 0 (lit< tt)) (digits-more c 0 48 (b ∷ bs) refl ∙ digits-stop c 0 b bs e (lit< tt))
  | inl e ↦
      let ne : eqb b c ≡ false = ne_eqb b c (λ (same : b ≡ c). false≢true (sym other ∙ ap is_digit (sym same) ∙ e)) in
      number-leading c b bs e ∙ rw ne refl
]

-- other numbers begin with another digit
pub number-first : (c b : ℕ) (bs : List ℕ) → is_digit b ≡ true → b ≢ 48 → number_then c (b ∷ bs) ≡ digits_then c 0 (b ∷ bs)
unfolding number_then
number-first c b bs digit first =
    let text = b ∷ bs in
    let v = value_after 0 (digits_of text) in
    elim (cases_lt v (2 ^ 32)) [
      | inr wide ↦
          let none : digits_then c 0 text ≡ None = digits-none c 0 text wide in
          elim (cases_Bool (is_spelled text)) [ inl e ↦ rw e refl | inr e ↦ rw e (sym none) ]
      | inl small ↦
          let long : digits_of text ≡ b ∷ digits_of bs = rw digit refl in
          let same : decimal v ≡ digits_of text =
          decimal-digits_value own (digits_of text) (digits_of-are text) (omega (arith, ap length long))
          (λ zero. absurd (first (sym (ap (λ (t : List ℕ). get_or t 0 0) long) ∙ zero)))
          (omega arith) in
          cond-true (is_spelled text) (digits_then c 0 text) None ((bytes_eq-Decides (decimal v) (digits_of text)).1 same)
    ]

-- the same in a text, from a place on
pub number-end_at : (c i : ℕ) (text : List ℕ) → length text ≤ i → number_then c (drop i text) ≡ None
number-end_at c i text past = ap (number_then c) (drop_all i text past) ∙ number-empty c

pub number-other_at : (c i : ℕ) (text : List ℕ) → i < length text → is_digit (get_or text i 0) ≡ false → number_then c (drop i text) ≡ None
number-other_at c i text inside other = ap (number_then c) (drop_more text i 0 inside) ∙ number-other c (get_or text i 0) (drop (i + 1) text) other

pub number-zero_at : (c i : ℕ) (text : List ℕ) → i < length text → is_digit c ≡ false → get_or text i 0 ≡ 48
    → number_then c (drop i text) ≡ option_map (λ rest. (0, rest)) (behind_byte c (drop (i + 1) text))
number-zero_at c i text inside other zero =
    ap (number_then c) (drop_more text i 0 inside)
    ∙ ap (λ b. number_then c (b ∷ drop (i + 1) text)) zero
    ∙ number-zero c (drop (i + 1) text) other

pub number-first_at : (c i : ℕ) (text : List ℕ) → i < length text → is_digit (get_or text i 0) ≡ true → get_or text i 0 ≢ 48
    → number_then c (drop i text) ≡ digits_then c 0 (drop i text)
number-first_at c i text inside digit first =
    let e = drop_more text i 0 inside in
    ap (number_then c) e ∙ number-first c (get_or text i 0) (drop (i + 1) text) digit first ∙ ap (digits_then c 0) (sym e)

-- what is read is the item that is due
pub read_as : {A : Type 0} (text : List ℕ) (due item : Option (A × List ℕ)) (found : Option (A × ℕ)) → due ≡ item → IsReadAt text item found → IsReadAt text due found
read_as text due item found same read = subst (λ x. IsReadAt text x found) (sym same) read
