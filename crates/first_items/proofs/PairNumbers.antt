-- Numbers for pairs of numbers, one list of items after another.
use Rattle.std.proofs.Common.{◌≡◌, ◌≢◌, ℕ, ◌+◌, ◌/◌, ◌%◌, ◌^◌, ◌<◌, ◌≤◌, List, length, get_or, set, map, inl, inr, sym, ap, ◌∙◌, subst, arith, get_or-set_same, get_or-set_other}
use Rattle.std.proofs.lemmas.Bool.{cases_eq, cases_lt}
use Rattle.std.proofs.lemmas.List.{get_or-map, length-map}
use Rattle.first_items.specs.Chains.{AreLinked}
use Rattle.first_items.specs.FirstItems.{AreNumbered}
use Rattle.first_items.specs.FirstItems.{IsFirstWith, AreFirstItems, AreNumberedBelow, AreKeptTo}

-- from one item of a list to the next one
pub record IsPassing (firsts seconds nexts kept numbers : List ℕ) (list at number : ℕ) : Type 0 where
  pub here : get_or firsts at 0 ≡ list
  pub inside : at < length firsts
  pub each : length numbers ≡ length firsts
  pub linked : AreLinked firsts nexts 0
  pub kept_to : AreKeptTo firsts seconds kept list (at + 1)
  pub number_is : IsFirstWith firsts seconds at number
  pub earlier : AreNumberedBelow firsts seconds numbers list
  pub so_far : (x : ℕ) → x < length firsts → get_or firsts x 0 ≡ list → x < at → IsFirstWith firsts seconds x (get_or numbers x 0)

module _ {firsts seconds nexts kept numbers : List ℕ} {list at number : ℕ} (P : IsPassing firsts seconds nexts kept numbers list at number) where
  -- items of the list below the next one come no later than this one
  none_between : (x : ℕ) → x < length firsts → get_or firsts x 0 ≡ list → x < get_or nexts at 0 → x < at + 1
  none_between x h e k = elim (cases_lt x (at + 1)) [
    | inl l ↦ l
    | inr m ↦ absurd (let n = P.linked.none_between at x (omega arith) (omega arith) h (e ∙ sym P.here) in omega arith)
  ]

  pub passes : at < get_or nexts at 0
  passes = P.linked.later at (omega arith) P.inside

  pub next_here : get_or nexts at 0 < length firsts → get_or firsts (get_or nexts at 0) 0 ≡ list
  next_here h = P.linked.same at (omega arith) P.inside h ∙ P.here

  pub next_kept : AreKeptTo firsts seconds kept list (get_or nexts at 0)
  next_kept = record {
    below = P.kept_to.below;
    before = λ b h k e. (let l = P.kept_to.before b h k e in let p = passes in omega arith);
    least = P.kept_to.least;
    known = λ x h k e. P.kept_to.known x h (none_between x h e k) e;
  }

  pub next_earlier : AreNumberedBelow firsts seconds (set numbers at number) list
  next_earlier x h k =
      let ne : x ≢ at = λ e. (let v = ap (λ (i : ℕ). get_or firsts i 0) e in let t = P.here in omega arith) in
      subst (IsFirstWith firsts seconds x) (sym (get_or-set_other numbers at x number 0 ne)) (P.earlier x h k)

  pub next_so_far : (x : ℕ) → x < length firsts → get_or firsts x 0 ≡ list → x < get_or nexts at 0 → IsFirstWith firsts seconds x (get_or (set numbers at number) x 0)
  next_so_far x h e k = elim (cases_eq x at) [
    | inl p ↦ (
        let l = P.each in
        let i = P.inside in
        let v = get_or-set_same numbers at number 0 (omega arith) in
        subst (λ (y : ℕ). IsFirstWith firsts seconds y (get_or (set numbers at number) y 0)) (sym p) (subst (IsFirstWith firsts seconds at) (sym v) P.number_is))
    | inr m ↦ (
        let b = none_between x h e k in
        subst (IsFirstWith firsts seconds x) (sym (get_or-set_other numbers at x number 0 m)) (P.so_far x h e (omega arith)))
  ]

  pub next_rest : ((x : ℕ) → x < length firsts → list ≤ get_or firsts x 0 → (get_or firsts x 0 ≡ list → at ≤ x) → get_or numbers x 0 ≡ get_or seconds x 0) →
      (x : ℕ) → x < length firsts → list ≤ get_or firsts x 0 → (get_or firsts x 0 ≡ list → get_or nexts at 0 ≤ x) → get_or (set numbers at number) x 0 ≡ get_or seconds x 0
  next_rest rest x h k later =
      let p = passes in
      let ne : x ≢ at = λ e. (let l = later (ap (λ (i : ℕ). get_or firsts i 0) e ∙ P.here) in omega arith) in
      get_or-set_other numbers at x number 0 ne ∙ rest x h k (λ e. (let l = later e in omega arith))

-- a whole list is numbered
pub list_ends : (firsts seconds numbers : List ℕ) (list : ℕ) → AreNumberedBelow firsts seconds numbers list →
    ((x : ℕ) → x < length firsts → get_or firsts x 0 ≡ list → IsFirstWith firsts seconds x (get_or numbers x 0)) → AreNumberedBelow firsts seconds numbers (list + 1)
list_ends firsts seconds numbers list earlier all x h k = elim (cases_eq (get_or firsts x 0) list) [
  | inl e ↦ all x h e
  | inr m ↦ earlier x h (omega arith)
]

-- items that are alike have one first item
pub one_first : {firsts seconds : List ℕ} {x y v w : ℕ} → IsFirstWith firsts seconds x v → IsFirstWith firsts seconds y w → get_or firsts x 0 ≡ get_or firsts y 0 → get_or seconds x 0 ≡ get_or seconds y 0 → v ≡ w
one_first {firsts} {seconds} {x} {y} {v} {w} I J e f = elim (cases_lt v w) [
  | inl l ↦ absurd (J.none_before v l (I.first ∙ e) (I.second ∙ f))
  | inr m ↦ elim (cases_lt w v) [
    | inl l ↦ absurd (I.none_before w l (J.first ∙ sym e) (J.second ∙ sym f))
    | inr n ↦ omega arith
  ]
]

pub firsts_number : {firsts seconds numbers : List ℕ} → AreFirstItems firsts seconds numbers → AreNumbered firsts seconds numbers (length firsts)
firsts_number {firsts} {seconds} {numbers} F = record {
  each = F.each;
  below = λ i h. (let l = (F.first_is i h).no_later in omega arith);
  alike = λ i j h k e f. one_first (F.first_is i h) (F.first_is j k) e f;
  apart = λ i j h k e. (
      let I = F.first_is i h in
      let J = F.first_is j k in
      (sym I.first ∙ ap (λ (v : ℕ). get_or firsts v 0) e ∙ J.first, sym I.second ∙ ap (λ (v : ℕ). get_or seconds v 0) e ∙ J.second));
}

-- halves are below 2^16
pub upper_small : (seconds : List ℕ) → ((x : ℕ) → x < length seconds → get_or seconds x 0 < 2 ^ 32) → (x : ℕ) → x < length (map (λ (b : ℕ). b / 65536) seconds) → get_or (map (λ (b : ℕ). b / 65536) seconds) x 0 < 65536
upper_small seconds h x k =
    let l = length-map seconds (λ (b : ℕ). b / 65536) in
    let e = get_or-map (λ (b : ℕ). b / 65536) seconds x 0 0 (omega arith) in
    let f = h x (omega arith) in
    omega arith

pub lower_small : (seconds : List ℕ) (x : ℕ) → x < length (map (λ (b : ℕ). b % 65536) seconds) → get_or (map (λ (b : ℕ). b % 65536) seconds) x 0 < 65536
lower_small seconds x k =
    let l = length-map seconds (λ (b : ℕ). b % 65536) in
    let e = get_or-map (λ (b : ℕ). b % 65536) seconds x 0 0 (omega arith) in
    omega arith

-- by the upper halves, and then by the lower ones
pub halves_first : {firsts seconds halfway numbers : List ℕ} → length seconds ≡ length firsts → AreFirstItems firsts (map (λ (b : ℕ). b / 65536) seconds) halfway →
    AreFirstItems halfway (map (λ (b : ℕ). b % 65536) seconds) numbers → AreFirstItems firsts seconds numbers
halves_first {firsts} {seconds} {halfway} {numbers} l H F = record { each = F.each ∙ H.each; first_is = first_is }
  where
    high : (x : ℕ) → x < length firsts → get_or (map (λ (b : ℕ). b / 65536) seconds) x 0 ≡ get_or seconds x 0 / 65536
    high x h = get_or-map (λ (b : ℕ). b / 65536) seconds x 0 0 (omega arith)

    low : (x : ℕ) → x < length firsts → get_or (map (λ (b : ℕ). b % 65536) seconds) x 0 ≡ get_or seconds x 0 % 65536
    low x h = get_or-map (λ (b : ℕ). b % 65536) seconds x 0 0 (omega arith)

    first_is : (x : ℕ) → x < length firsts → IsFirstWith firsts seconds x (get_or numbers x 0)
    first_is x h =
        let e = H.each in
        let I = F.first_is x (omega arith) in
        let n = I.no_later in
        let small : get_or numbers x 0 < length firsts = omega arith in
        let J = H.first_is x h in
        let K = H.first_is (get_or numbers x 0) small in
        let q = I.first in
        let first : get_or firsts (get_or numbers x 0) 0 ≡ get_or firsts x 0 = sym K.first ∙ ap (λ (v : ℕ). get_or firsts v 0) q ∙ J.first in
        let upper : get_or seconds (get_or numbers x 0) 0 / 65536 ≡ get_or seconds x 0 / 65536 =
        sym (high (get_or numbers x 0) small) ∙ sym K.second ∙ ap (λ (v : ℕ). get_or (map (λ (b : ℕ). b / 65536) seconds) v 0) q ∙ J.second ∙ high x h in
        let lower : get_or seconds (get_or numbers x 0) 0 % 65536 ≡ get_or seconds x 0 % 65536 = sym (low (get_or numbers x 0) small) ∙ I.second ∙ low x h in
        record {
          no_later = n;
          first = first;
          second = omega arith;
          none_before = λ z k f s. (
              let zs : z < length firsts = omega arith in
              I.none_before z k (one_first (H.first_is z zs) J f (high z zs ∙ ap (λ (b : ℕ). b / 65536) s ∙ sym (high x h)))
              (low z zs ∙ ap (λ (b : ℕ). b % 65536) s ∙ sym (low x h)));
        }

-- by the lower halves alone, where the upper ones are one
pub lower_enough : {firsts seconds numbers : List ℕ} → length seconds ≡ length firsts →
    ((x : ℕ) → x < length seconds → get_or seconds x 0 / 65536 ≡ get_or seconds 0 0 / 65536) →
    AreFirstItems firsts (map (λ (b : ℕ). b % 65536) seconds) numbers → AreFirstItems firsts seconds numbers
lower_enough {firsts} {seconds} {numbers} l one F = record { each = F.each; first_is = first_is }
  where
    high : (x : ℕ) → x < length firsts → get_or seconds x 0 / 65536 ≡ get_or seconds 0 0 / 65536
    high x h = one x (omega arith)

    low : (x : ℕ) → x < length firsts → get_or (map (λ (b : ℕ). b % 65536) seconds) x 0 ≡ get_or seconds x 0 % 65536
    low x h = get_or-map (λ (b : ℕ). b % 65536) seconds x 0 0 (omega arith)

    first_is : (x : ℕ) → x < length firsts → IsFirstWith firsts seconds x (get_or numbers x 0)
    first_is x h =
        let I = F.first_is x h in
        let n = I.no_later in
        let small : get_or numbers x 0 < length firsts = omega arith in
        let upper : get_or seconds (get_or numbers x 0) 0 / 65536 ≡ get_or seconds x 0 / 65536 = high (get_or numbers x 0) small ∙ sym (high x h) in
        let lower : get_or seconds (get_or numbers x 0) 0 % 65536 ≡ get_or seconds x 0 % 65536 = sym (low (get_or numbers x 0) small) ∙ I.second ∙ low x h in
        record {
          no_later = n;
          first = I.first;
          second = omega arith;
          none_before = λ z k f s. I.none_before z k f (low z (omega arith) ∙ ap (λ (b : ℕ). b % 65536) s ∙ sym (low x h));
        }
