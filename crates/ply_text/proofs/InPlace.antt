-- Digits at a place of a line, and the token that they are or end.
use Rattle.std.proofs.Common.{◌≡◌, ℕ, suc, ◌+◌, ◌-◌, ◌*◌, ◌<◌, ◌≤◌, true, false, leb, List, [], ◌∷◌, ◌++◌, length, take, drop, get_or, Some, refl, sym, ap, ◌∙◌, inl, inr, arith}
use Rattle.std.specs.Prelude.{fold, pos, neg_ℤ, option_map}
use Rattle.std.specs.List.{list_all}
use Rattle.std.proofs.lemmas.Bool.{cases_lt, le-leb, lt-ltb, leb-true, ne_eqb, and_parts}
use Rattle.std.proofs.lemmas.List.{take_more, drop_more, get_or-drop, get_or-take, length-take, length-drop}
use Rattle.ply_text.specs.Tokens.{is_blank, tokens_of}
use Rattle.ply_text.specs.Numbers.{is_digit, is_digits, digits_value, natural_of, integer_of, first_integer}
use Rattle.ply_text.specs.InPlace.{AreDigits}
use Rattle.ply_text.proofs.Splitting.{IsSolid, takes_token}
use Rattle.std.proofs.lemmas.List.Sums.{AllPass-from_list_all}
use Rattle.ply_text.specs.Numbers.{is_between}
use Rattle.ply_text.proofs.Signs.{plus_between, minus_between}

pub no_digits : (line : List ℕ) (i : ℕ) → AreDigits line i i 0
unfolding digits_value
no_digits line i = let e : i - i ≡ 0 = omega arith in record { digits = rw e refl; value = rw e refl }

all_push : (xs : List ℕ) (c : ℕ) → list_all is_digit xs ≡ true → is_digit c ≡ true → list_all is_digit (xs ++ c ∷ []) ≡ true
all_push [] c h d = rw d refl
all_push (x ∷ xs) c h d = let p = and_parts (is_digit x) (list_all is_digit xs) h in rw (p.0) (all_push xs c p.1 d)

value_push : (n : ℕ) (xs : List ℕ) (c : ℕ) → fold (λ n c. n * 10 + (c - 48)) n (xs ++ c ∷ []) ≡ fold (λ n c. n * 10 + (c - 48)) n xs * 10 + (c - 48)
value_push n [] c = refl
value_push n (x ∷ xs) c = value_push (n * 10 + (x - 48)) xs c

one_more : (line : List ℕ) (i j : ℕ) → i ≤ j → j < length line → take (j + 1 - i) (drop i line) ≡ take (j - i) (drop i line) ++ get_or line j 0 ∷ []
one_more line i j le lt =
    let n : j + 1 - i ≡ (j - i) + 1 = omega arith in
    let inside : j - i < length (drop i line) = omega (arith, length-drop i line) in
    let at : i + (j - i) ≡ j = omega arith in
    ap (λ k. take k (drop i line)) n ∙ take_more (drop i line) (j - i) 0 inside ∙ ap (λ c. take (j - i) (drop i line) ++ c ∷ []) (get_or-drop i line (j - i) 0 ∙ ap (λ k. get_or line k 0) at)

pub more_digits : (line : List ℕ) (i j n : ℕ) → i ≤ j → j < length line → 48 ≤ get_or line j 0 → get_or line j 0 ≤ 57 → AreDigits line i j n → AreDigits line i (j + 1) (n * 10 + (get_or line j 0 - 48))
unfolding digits_value
more_digits line i j n le lt low high h =
    let e = one_more line i j le lt in
    let d : is_digit (get_or line j 0) ≡ true = rw (le-leb 48 (get_or line j 0) low) (le-leb (get_or line j 0) 57 high) in
    record {
      digits = ap (list_all is_digit) e ∙ all_push (take (j - i) (drop i line)) (get_or line j 0) h.digits d;
      value = ap digits_value e ∙ value_push 0 (take (j - i) (drop i line)) (get_or line j 0) ∙ ap (λ m. m * 10 + (get_or line j 0 - 48)) h.value;
    }

digit_solid : (c : ℕ) → is_digit c ≡ true → is_blank c ≡ false
digit_solid c h =
    let p = and_parts (leb 48 c) (leb c 57) h in
    let low : 48 ≤ c = leb-true 48 c p.0 in
    rw (ne_eqb c 32 (λ e. omega arith)) (ne_eqb c 9 (λ e. omega arith))

pub digits_solid : (line : List ℕ) (i j n : ℕ) → i ≤ j → j ≤ length line → AreDigits line i j n → IsSolid line i j
digits_solid line i j n le in' h = record {
  solid = λ k from below.
      let t = take (j - i) (drop i line) in
      let short : k - i < j - i = omega arith in
      let inside : k - i < length t = omega (arith, length-take (j - i) (drop i line), length-drop i line) in
      let at : i + (k - i) ≡ k = omega arith in
      let e : get_or t (k - i) 0 ≡ get_or line k 0 = get_or-take (j - i) (drop i line) (k - i) 0 short ∙ get_or-drop i line (k - i) 0 ∙ ap (λ m. get_or line m 0) at in
      ap is_blank (sym e) ∙ digit_solid (get_or t (k - i) 0) (AllPass-from_list_all is_digit t h.digits (k - i) 0 inside);
}

digits_natural : (t : List ℕ) → 0 < length t → list_all is_digit t ≡ true → natural_of t ≡ Some (digits_value t)
unfolding natural_of is_digits
digits_natural t long h = rw (lt-ltb 0 (length t) long, h) refl

digits_integer : (t : List ℕ) → 0 < length t → list_all is_digit t ≡ true → integer_of t ≡ Some (pos (digits_value t))
unfolding integer_of
digits_integer [] long h = absurd (omega arith)
digits_integer (c ∷ cs) long h =
    let p = and_parts (is_digit c) (list_all is_digit cs) h in
    let q = and_parts (leb 48 c) (leb c 57) p.0 in
    let low : 48 ≤ c = leb-true 48 c q.0 in
    rw (ne_eqb c 45 (λ e. omega arith)) (ap (option_map pos) (digits_natural (c ∷ cs) long h))

pub plus_at : (line : List ℕ) (i j n : ℕ) → AreDigits line i j n → i < j → j ≤ length line → (j < length line → is_blank (get_or line j 0) ≡ true) → first_integer (tokens_of (drop i line)) ≡ Some (pos n, tokens_of (drop j line))
plus_at line i j n h lt in' stops =
    let t = take (j - i) (drop i line) in
    let long : 0 < length t = omega (arith, length-take (j - i) (drop i line), length-drop i line) in
    let taken = takes_token line i j lt in' (digits_solid line i j n (omega arith) in' h) stops in
    ap first_integer taken ∙ ap (option_map (λ v. (v, tokens_of (drop j line)))) (digits_integer t long h.digits ∙ ap (λ m. Some (pos m)) h.value)

pub minus_at : (line : List ℕ) (i j n : ℕ) → get_or line i 0 ≡ 45 → AreDigits line (i + 1) j n → i + 1 < j → j ≤ length line → (j < length line → is_blank (get_or line j 0) ≡ true) → first_integer (tokens_of (drop i line)) ≡ Some (neg_ℤ (pos n), tokens_of (drop j line))
unfolding integer_of
minus_at line i j n minus h lt in' stops =
    let ds = take (j - (i + 1)) (drop (i + 1) line) in
    let long : 0 < length ds = omega (arith, length-take (j - (i + 1)) (drop (i + 1) line), length-drop (i + 1) line) in
    let rest = digits_solid line (i + 1) j n (omega arith) in' h in
    let whole : IsSolid line i j = record {
      solid = λ k from below. elim (cases_lt i k) [
        | inl after ↦ rest.solid k (omega arith) below
        | inr at ↦ let e : k ≡ i = omega arith in ap (λ m. is_blank (get_or line m 0)) e ∙ ap is_blank minus
      ];
    } in
    let n-is : j - i ≡ suc (j - (i + 1)) = omega arith in
    let front : take (j - i) (drop i line) ≡ 45 ∷ ds = ap (λ k. take k (drop i line)) n-is ∙ ap (take (suc (j - (i + 1)))) (drop_more line i 0 (omega arith)) ∙ ap (λ c. c ∷ ds) minus in
    let taken = takes_token line i j (omega arith) in' whole stops ∙ ap (λ (t : List ℕ). t ∷ tokens_of (drop j line)) front in
    ap first_integer taken ∙ ap (option_map (λ v. (v, tokens_of (drop j line)))) (ap (option_map (λ n. neg_ℤ (pos n))) (digits_natural ds long h.digits ∙ ap (λ m. Some m) h.value))

pub between : (below most n : ℕ) → (n ≤ most → is_between below most (pos n) ≡ true) × (n ≤ below → is_between below most (neg_ℤ (pos n)) ≡ true)
between below most n = (λ le. plus_between below most n ∙ le-leb n most le, λ le. minus_between below most n ∙ le-leb n below le)
