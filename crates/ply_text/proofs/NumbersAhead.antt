-- Numbers that are read before the end of their line is known.
use Rattle.std.proofs.Common.{◌≡◌, ℕ, ◌+◌, ◌-◌, ◌*◌, ◌^◌, ◌<◌, ◌≤◌, true, leb, List, length, take, drop, get_or, ap, subst, ◌∙◌, inl, inr, add-one, arith}
use Rattle.std.specs.Prelude.{pos, neg_ℤ}
use Rattle.std.specs.List.{list_all}
use Rattle.std.proofs.lemmas.Bool.{cases_lt, leb-true, and_parts}
use Rattle.std.proofs.lemmas.List.{drop-take, take-take, get_or-drop, get_or-take, length-take, length-drop}
use Rattle.std.proofs.lemmas.List.Sums.{AllPass-from_list_all}
use Rattle.std.proofs.Math.Nat.{pow-suc, pow-le-pow_right}
use Rattle.ply_text.specs.Tokens.{is_blank}
use Rattle.ply_text.specs.Numbers.{is_digit, digits_value}
use Rattle.ply_text.specs.InPlace.{AreDigits, IsNumberAt}
use Rattle.ply_text.proofs.InPlace.{no_digits, more_digits, plus_at, minus_at}

-- nine digits are a small number
pub small : (k v : ℕ) → k < 10 → v < 10 ^ k → v < 1000000000
small k v few below =
    let most : 10 ^ k ≤ 10 ^ 9 = pow-le-pow_right {n = 10} (omega arith) {i = k} {j = 9} (omega arith) in
    omega (arith, most)

pub pow_more : (k v d : ℕ) → v < 10 ^ k → d ≤ 9 → v * 10 + d < 10 ^ (k + 1)
pow_more k v d below digit = rw (add-one k) (omega (arith, pow-suc 10 k))

pub ahead_begun : (text : List ℕ) (start : ℕ) → AreDigits text start (start + 0) 0
ahead_begun text start = let e : start + 0 ≡ start = omega arith in rw e (no_digits text start)

pub ahead_more : (text : List ℕ) (start k v : ℕ) → start + k < length text → 48 ≤ get_or text (start + k) 0 → get_or text (start + k) 0 ≤ 57 → AreDigits text start (start + k) v → AreDigits text start (start + (k + 1)) (v * 10 + (get_or text (start + k) 0 - 48))
ahead_more text start k v inside low high h =
    let e : start + k + 1 ≡ start + (k + 1) = omega arith in
    subst (λ j. AreDigits text start j (v * 10 + (get_or text (start + k) 0 - 48))) e (more_digits text start (start + k) v (omega arith) inside low high h)

part_of_line : (text : List ℕ) (i j e : ℕ) → i ≤ j → j ≤ e → take (j - i) (drop i (take e text)) ≡ take (j - i) (drop i text)
part_of_line text i j e le in' =
    let n : e ≡ i + (e - i) = omega arith in
    ap (λ m. take (j - i) (drop i (take m text))) n ∙ ap (take (j - i)) (drop-take i (e - i) text) ∙ take-take (j - i) (e - i) (drop i text) (omega arith)

-- the digits of a text are those of a line that goes beyond them
digits_of_line : (text : List ℕ) (i j e n : ℕ) → i ≤ j → j ≤ e → AreDigits text i j n → AreDigits (take e text) i j n
digits_of_line text i j e n le in' h = record {
  digits = ap (list_all is_digit) (part_of_line text i j e le in') ∙ h.digits;
  value = ap digits_value (part_of_line text i j e le in') ∙ h.value;
}

stops_in_line : (text : List ℕ) (j e : ℕ) → e ≤ length text → (j < e → is_blank (get_or text j 0) ≡ true) → j < length (take e text) → is_blank (get_or (take e text) j 0) ≡ true
stops_in_line text j e in' stops below =
    let inside : j < e = omega (arith, length-take e text) in
    ap is_blank (get_or-take e text j 0 inside) ∙ stops inside

digit_bytes : (text : List ℕ) (i j n : ℕ) → j ≤ length text → AreDigits text i j n → (k : ℕ) → i ≤ k → k < j → 48 ≤ get_or text k 0
digit_bytes text i j n in' h k from below =
    let t = take (j - i) (drop i text) in
    let inside : k - i < length t = omega (arith, length-take (j - i) (drop i text), length-drop i text) in
    let at : i + (k - i) ≡ k = omega arith in
    let e : get_or t (k - i) 0 ≡ get_or text k 0 = get_or-take (j - i) (drop i text) (k - i) 0 (omega arith) ∙ get_or-drop i text (k - i) 0 ∙ ap (λ m. get_or text m 0) at in
    let p = and_parts (leb 48 (get_or t (k - i) 0)) (leb (get_or t (k - i) 0) 57) (AllPass-from_list_all is_digit t h.digits (k - i) 0 inside) in
    omega (arith, leb-true 48 (get_or t (k - i) 0) p.0, e)

pub natural_at : (text : List ℕ) (i j n : ℕ) → AreDigits text i j n → i < j → j < length text → IsNumberAt text i j (pos n)
natural_at text i j n h lt in' = record {
  after = lt;
  within = omega arith;
  reads = λ e le most stops.
      plus_at (take e text) i j n (digits_of_line text i j e n (omega arith) le h) lt (omega (arith, length-take e text)) (stops_in_line text j e most stops);
  plain = λ k from below. omega (arith, digit_bytes text i j n (omega arith) h k from below);
}

pub minus_ahead : (text : List ℕ) (i j n : ℕ) → get_or text i 0 ≡ 45 → AreDigits text (i + 1) j n → i + 1 < j → j < length text → IsNumberAt text i j (neg_ℤ (pos n))
minus_ahead text i j n minus h lt in' = record {
  after = omega arith;
  within = omega arith;
  reads = λ e le most stops.
      minus_at (take e text) i j n (get_or-take e text i 0 (omega arith) ∙ minus) (digits_of_line text (i + 1) j e n (omega arith) le h) lt (omega (arith, length-take e text)) (stops_in_line text j e most stops);
  plain = λ k from below. elim (cases_lt i k) [
    | inl after ↦ omega (arith, digit_bytes text (i + 1) j n (omega arith) h k (omega arith) below)
    | inr at ↦ let e : k ≡ i = omega arith in omega (arith, ap (λ m. get_or text m 0) e ∙ minus)
  ];
}
