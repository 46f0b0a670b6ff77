-- One more side, before all others, is linked.
use Rattle.std.proofs.Common.{◌≡◌, ◌≢◌, ℕ, ◌+◌, ◌<◌, ◌≤◌, List, length, get_or, set, replicate, inl, inr, sym, ap, ◌∙◌, arith, length-set, get_or-set_same, get_or-set_other}
use Rattle.std.proofs.lemmas.Bool.{cases_eq}
use Rattle.std.proofs.lemmas.List.{get_or-replicate, length-replicate}
use Rattle.first_items.specs.Chains.{AreLinked, AreFirsts}

pub record IsLinking (classes nexts firsts : List ℕ) (count x : ℕ) : Type 0 where
  pub inside : x < length classes
  pub below : (z : ℕ) → z < length classes → get_or classes z 0 < count
  pub linked : AreLinked classes nexts (x + 1)
  pub firsts_are : AreFirsts classes firsts count (x + 1)

module _ {classes nexts firsts : List ℕ} {count x : ℕ} (L : IsLinking classes nexts firsts count x) where
  new_next : get_or (set nexts x (get_or firsts (get_or classes x 0) 0)) x 0 ≡ get_or firsts (get_or classes x 0) 0
  new_next = let l = L.linked.each in let h = L.inside in get_or-set_same nexts x (get_or firsts (get_or classes x 0) 0) 0 (omega arith)

  old_next : (y : ℕ) → y ≢ x → get_or (set nexts x (get_or firsts (get_or classes x 0) 0)) y 0 ≡ get_or nexts y 0
  old_next y h = get_or-set_other nexts x y (get_or firsts (get_or classes x 0) 0) 0 h

  pub linked_more : AreLinked classes (set nexts x (get_or firsts (get_or classes x 0) 0)) x
  linked_more = record { each = length-set nexts x (get_or firsts (get_or classes x 0) 0) ∙ L.linked.each; later = later; same = same; none_between = none_between }
    where
      later : (y : ℕ) → x ≤ y → y < length classes → y < get_or (set nexts x (get_or firsts (get_or classes x 0) 0)) y 0
      later y h k = elim (cases_eq y x) [
        | inl e ↦ (
            let n = new_next in
            let f = L.firsts_are.later (get_or classes x 0) (L.below x L.inside) in
            let q = ap (λ (i : ℕ). get_or (set nexts x (get_or firsts (get_or classes x 0) 0)) i 0) e in
            omega arith)
        | inr m ↦ (let o = old_next y m in let f = L.linked.later y (omega arith) k in omega arith)
      ]

      same : (y : ℕ) → x ≤ y → y < length classes → get_or (set nexts x (get_or firsts (get_or classes x 0) 0)) y 0 < length classes → get_or classes (get_or (set nexts x (get_or firsts (get_or classes x 0) 0)) y 0) 0 ≡ get_or classes y 0
      same y h k l = elim (cases_eq y x) [
        | inl e ↦ (
            let q : get_or (set nexts x (get_or firsts (get_or classes x 0) 0)) y 0 ≡ get_or firsts (get_or classes x 0) 0 = ap (λ (i : ℕ). get_or (set nexts x (get_or firsts (get_or classes x 0) 0)) i 0) e ∙ new_next in
            let less : get_or firsts (get_or classes x 0) 0 < length classes = omega arith in
            ap (λ (i : ℕ). get_or classes i 0) q ∙ L.firsts_are.same (get_or classes x 0) (L.below x L.inside) less ∙ ap (λ (i : ℕ). get_or classes i 0) (sym e))
        | inr m ↦ (
            let o = old_next y m in
            let less : get_or nexts y 0 < length classes = omega arith in
            ap (λ (i : ℕ). get_or classes i 0) o ∙ L.linked.same y (omega arith) k less)
      ]

      none_between : (y z : ℕ) → x ≤ y → y < z → z < length classes → get_or classes z 0 ≡ get_or classes y 0 → get_or (set nexts x (get_or firsts (get_or classes x 0) 0)) y 0 ≤ z
      none_between y z h k l e = elim (cases_eq y x) [
        | inl p ↦ (
            let q : get_or (set nexts x (get_or firsts (get_or classes x 0) 0)) y 0 ≡ get_or firsts (get_or classes x 0) 0 = ap (λ (i : ℕ). get_or (set nexts x (get_or firsts (get_or classes x 0) 0)) i 0) p ∙ new_next in
            let c : get_or classes z 0 ≡ get_or classes x 0 = e ∙ ap (λ (i : ℕ). get_or classes i 0) p in
            let f = L.firsts_are.least z (omega arith) l in
            let g = ap (λ (i : ℕ). get_or firsts i 0) c in
            omega arith)
        | inr m ↦ (let o = old_next y m in let f = L.linked.none_between y z (omega arith) k l e in omega arith)
      ]

  pub firsts_more : AreFirsts classes (set firsts (get_or classes x 0) x) count x
  firsts_more = record { each = length-set firsts (get_or classes x 0) x ∙ L.firsts_are.each; later = later; same = same; least = least }
    where
      at_class : get_or (set firsts (get_or classes x 0) x) (get_or classes x 0) 0 ≡ x
      at_class = let b = L.below x L.inside in let e = L.firsts_are.each in get_or-set_same firsts (get_or classes x 0) x 0 (omega arith)

      at_other : (c : ℕ) → c ≢ get_or classes x 0 → get_or (set firsts (get_or classes x 0) x) c 0 ≡ get_or firsts c 0
      at_other c h = get_or-set_other firsts (get_or classes x 0) c x 0 h

      later : (c : ℕ) → c < count → x ≤ get_or (set firsts (get_or classes x 0) x) c 0
      later c h = elim (cases_eq c (get_or classes x 0)) [
        | inl e ↦ (let q = at_class in let p = ap (λ (i : ℕ). get_or (set firsts (get_or classes x 0) x) i 0) e in omega arith)
        | inr m ↦ (let o = at_other c m in let f = L.firsts_are.later c h in omega arith)
      ]

      same : (c : ℕ) → c < count → get_or (set firsts (get_or classes x 0) x) c 0 < length classes → get_or classes (get_or (set firsts (get_or classes x 0) x) c 0) 0 ≡ c
      same c h k = elim (cases_eq c (get_or classes x 0)) [
        | inl e ↦ (
            let p : get_or (set firsts (get_or classes x 0) x) c 0 ≡ x = ap (λ (i : ℕ). get_or (set firsts (get_or classes x 0) x) i 0) e ∙ at_class in
            ap (λ (i : ℕ). get_or classes i 0) p ∙ sym e)
        | inr m ↦ (
            let o = at_other c m in
            let less : get_or firsts c 0 < length classes = omega arith in
            ap (λ (i : ℕ). get_or classes i 0) o ∙ L.firsts_are.same c h less)
      ]

      least : (z : ℕ) → x ≤ z → z < length classes → get_or (set firsts (get_or classes x 0) x) (get_or classes z 0) 0 ≤ z
      least z h k = elim (cases_eq (get_or classes z 0) (get_or classes x 0)) [
        | inl e ↦ (let q = at_class in let p = ap (λ (i : ℕ). get_or (set firsts (get_or classes x 0) x) i 0) e in omega arith)
        | inr m ↦ (
            let ne : z ≢ x = λ e. m (ap (λ (i : ℕ). get_or classes i 0) e) in
            let o = at_other (get_or classes z 0) m in
            let f = L.firsts_are.least z (omega arith) k in
            omega arith)
      ]

-- no side yet
pub linked_begins : (classes nexts : List ℕ) → length nexts ≡ length classes → AreLinked classes nexts (length classes)
linked_begins classes nexts e = record {
  each = e;
  later = λ x h k. absurd (omega arith);
  same = λ x h k l. absurd (omega arith);
  none_between = λ x z h k l s. absurd (omega arith);
}

pub firsts_begin : (classes : List ℕ) (count none : ℕ) → length classes ≤ none → ((x : ℕ) → x < length classes → get_or classes x 0 < count) → AreFirsts classes (replicate count none) count (length classes)
firsts_begin classes count none h below = record {
  each = length-replicate count none;
  later = λ c k. (let e = get_or-replicate count c none 0 k in omega arith);
  same = λ c k l. absurd (let e = get_or-replicate count c none 0 k in omega arith);
  least = λ z k l. absurd (omega arith);
}
