-- The two places of a class, and what they find.
use Rattle.std.proofs.Common.{◌≡◌, ℕ, ◌-◌, ◌^◌, ◌<◌, ◌≤◌, Bool, true, false, List, length, get_or, set, inl, inr, sym, ap, ◌∙◌, subst, arith, length-set, get_or-set_same, get_or-set_other}
use Rattle.std.proofs.lemmas.List.{get_or_read}
use Rattle.std.proofs.lemmas.Bool.{cases_eq, cases_lt, cases_order}
use Rattle.first_items.specs.Chains.{AreLinked}
use Rattle.pairing.specs.Choosing.{IsPassed, IsFirstLeft, ArePlaced, IsFirstFree, IsFirstOther, AreKnown}

-- on the way along a class, at a side that is passed
pub record IsAlong (classes thirds : List ℕ) (taken : List Bool) (nexts : List ℕ) (from skip at : ℕ) : Type 0 where
  pub linked : AreLinked classes nexts 0
  pub inside : at < length classes
  pub here : IsPassed thirds taken skip at
  pub later : from ≤ at
  pub same : from < length classes → at < length classes → get_or classes at 0 ≡ get_or classes from 0
  pub passed : (z : ℕ) → from ≤ z → z < at → z < length classes → get_or classes z 0 ≡ get_or classes from 0 → IsPassed thirds taken skip z

-- the way so far
pub record IsWay (classes thirds : List ℕ) (taken : List Bool) (from skip at : ℕ) : Type 0 where
  pub later : from ≤ at
  pub same : from < length classes → at < length classes → get_or classes at 0 ≡ get_or classes from 0
  pub passed : (z : ℕ) → from ≤ z → z < at → z < length classes → get_or classes z 0 ≡ get_or classes from 0 → IsPassed thirds taken skip z

pub along_more : {classes thirds : List ℕ} {taken : List Bool} {nexts : List ℕ} {from skip at : ℕ} → IsAlong classes thirds taken nexts from skip at → IsWay classes thirds taken from skip (get_or nexts at 0)
along_more {classes} {thirds} {taken} {nexts} {from} {skip} {at} A = record {
  later = (let n = A.linked.later at (omega arith) A.inside in let l = A.later in omega arith);
  same = λ h k. A.linked.same at (omega arith) A.inside k ∙ A.same h A.inside;
  passed = passed;
}
  where
    passed : (z : ℕ) → from ≤ z → z < get_or nexts at 0 → z < length classes → get_or classes z 0 ≡ get_or classes from 0 → IsPassed thirds taken skip z
    passed z h k l e = elim (cases_order z at) [
      | inl q ↦ subst (IsPassed thirds taken skip) (sym q) A.here
      | inr q ↦ elim q [
        | inl less ↦ A.passed z h less l e
        | inr more ↦ absurd (
            let f : from < length classes = (let a = A.later in let b = A.inside in omega arith) in
            let n = A.linked.none_between at z (omega arith) more l (e ∙ sym (A.same f A.inside)) in
            omega arith)
      ]
    ]

get_at : (l : List ℕ) (i j v : ℕ) → i < length l → j ≡ i → get_or (set l i v) j 0 ≡ v
get_at l i j v h e = ap (λ (k : ℕ). get_or (set l i v) k 0) e ∙ get_or-set_same l i v 0 h

false_taken : (b : Bool) → b ≡ true → b ≡ false → ⊥
false_taken b p q = let no : true ≡ false = sym p ∙ q in cc

-- the first place, moved
pub record IsMovingFirst (classes thirds : List ℕ) (taken : List Bool) (firsts others : List ℕ) (count class none found : ℕ) : Type 0 where
  pub placed : ArePlaced classes thirds taken firsts others count
  pub in_count : class < count
  pub real : (x : ℕ) → x < length classes → get_or thirds x 0 < none
  pub way : IsFirstLeft classes thirds taken (get_or firsts class 0) none found

module _ {classes thirds : List ℕ} {taken : List Bool} {firsts others : List ℕ} {count class none found : ℕ} (M : IsMovingFirst classes thirds taken firsts others count class none found) where
  pub first_found : IsFirstFree classes taken class found
  first_found = record { same = same; free = λ h. (M.way.left h).0; taken_before = taken_before }
    where
      same : found < length classes → get_or classes found 0 ≡ class
      same h =
          let l = M.way.later in
          let less : get_or firsts class 0 < length classes = omega arith in
          M.way.same less h ∙ M.placed.first_same class M.in_count less

      taken_before : (z : ℕ) → z < found → z < length classes → get_or classes z 0 ≡ class → get_or taken z false ≡ true
      taken_before z h k e = elim (cases_lt z (get_or firsts class 0)) [
        | inl l ↦ M.placed.passed z k (subst (λ (c : ℕ). z < get_or firsts c 0) (sym e) l)
        | inr l ↦ (
            let less : get_or firsts class 0 < length classes = omega arith in
            elim (M.way.passed z l h k (e ∙ sym (M.placed.first_same class M.in_count less))) [
              | inl t ↦ t
              | inr t ↦ absurd (let r = M.real z k in omega arith)
            ])
      ]

  pub first_placed : ArePlaced classes thirds taken (set firsts class found) others count
  first_placed = record {
    each_first = length-set firsts class found ∙ M.placed.each_first;
    each_other = M.placed.each_other;
    first_same = first_same;
    other_same = M.placed.other_same;
    passed = passed;
    alike = alike;
  }
    where
      inside : class < length firsts
      inside = let e = M.placed.each_first in let h = M.in_count in omega arith

      first_same : (c : ℕ) → c < count → get_or (set firsts class found) c 0 < length classes → get_or classes (get_or (set firsts class found) c 0) 0 ≡ c
      first_same c h k = elim (cases_eq c class) [
        | inl e ↦ (
            let p = get_at firsts class c found inside e in
            let less : found < length classes = omega arith in
            ap (λ (i : ℕ). get_or classes i 0) p ∙ first_found.same less ∙ sym e)
        | inr m ↦ (
            let p : get_or (set firsts class found) c 0 ≡ get_or firsts c 0 = get_or-set_other firsts class c found 0 m in
            let less : get_or firsts c 0 < length classes = omega arith in
            ap (λ (i : ℕ). get_or classes i 0) p ∙ M.placed.first_same c h less)
      ]

      passed : (z : ℕ) → z < length classes → z < get_or (set firsts class found) (get_or classes z 0) 0 → get_or taken z false ≡ true
      passed z h k = elim (cases_eq (get_or classes z 0) class) [
        | inl e ↦ (let p = get_at firsts class (get_or classes z 0) found inside e in first_found.taken_before z (omega arith) h e)
        | inr m ↦ (
            let p : get_or (set firsts class found) (get_or classes z 0) 0 ≡ get_or firsts (get_or classes z 0) 0 = get_or-set_other firsts class (get_or classes z 0) found 0 m in
            M.placed.passed z h (omega arith))
      ]

      -- a free side before the other place: so is the first one, which is no later
      as_found : (z : ℕ) → z < length classes → z < get_or others class 0 → get_or taken z false ≡ false → get_or classes z 0 ≡ class → get_or thirds z 0 ≡ get_or thirds found 0
      as_found z h k f e = elim (cases_lt z found) [
        | inl l ↦ absurd (false_taken (get_or taken z false) (first_found.taken_before z l h e) f)
        | inr l ↦ (
            let less : found < length classes = omega arith in
            let s = first_found.same less in
            let a = M.placed.alike z h (subst (λ (c : ℕ). z < get_or others c 0) (sym e) k) f in
            let b = M.placed.alike found less (subst (λ (c : ℕ). found < get_or others c 0) (sym s) (omega arith)) (first_found.free less) in
            a ∙ ap (λ (c : ℕ). get_or thirds (get_or firsts c 0) 0) (e ∙ sym s) ∙ sym b)
      ]

      alike : (z : ℕ) → z < length classes → z < get_or others (get_or classes z 0) 0 → get_or taken z false ≡ false → get_or thirds z 0 ≡ get_or thirds (get_or (set firsts class found) (get_or classes z 0) 0) 0
      alike z h k f = elim (cases_eq (get_or classes z 0) class) [
        | inl e ↦
            as_found z h (subst (λ (c : ℕ). z < get_or others c 0) e k) f e
            ∙ ap (λ (i : ℕ). get_or thirds i 0) (sym (get_at firsts class (get_or classes z 0) found inside e))
        | inr m ↦ M.placed.alike z h k f ∙ ap (λ (i : ℕ). get_or thirds i 0) (sym (get_or-set_other firsts class (get_or classes z 0) found 0 m))
      ]

-- the other place, moved
pub record IsMovingOther (classes thirds : List ℕ) (taken : List Bool) (firsts others : List ℕ) (count class least found : ℕ) : Type 0 where
  pub placed : ArePlaced classes thirds taken firsts others count
  pub in_count : class < count
  pub here : get_or firsts class 0 ≡ least
  pub way : IsFirstLeft classes thirds taken (get_or others class 0) (get_or thirds least 0) found

module _ {classes thirds : List ℕ} {taken : List Bool} {firsts others : List ℕ} {count class least found : ℕ} (M : IsMovingOther classes thirds taken firsts others count class least found) where
  pub other_found : IsFirstOther classes thirds taken class (get_or thirds least 0) found
  other_found = record { same = same; free = λ h. (M.way.left h).0; other = λ h. (M.way.left h).1; alike_before = alike_before }
    where
      same : found < length classes → get_or classes found 0 ≡ class
      same h =
          let l = M.way.later in
          let less : get_or others class 0 < length classes = omega arith in
          M.way.same less h ∙ M.placed.other_same class M.in_count less

      alike_before : (z : ℕ) → z < found → z < length classes → get_or classes z 0 ≡ class → get_or taken z false ≡ false → get_or thirds z 0 ≡ get_or thirds least 0
      alike_before z h k e f = elim (cases_lt z (get_or others class 0)) [
        | inl l ↦
            M.placed.alike z k (subst (λ (c : ℕ). z < get_or others c 0) (sym e) l) f
            ∙ ap (λ (c : ℕ). get_or thirds (get_or firsts c 0) 0) e ∙ ap (λ (i : ℕ). get_or thirds i 0) M.here
        | inr l ↦ (
            let less : get_or others class 0 < length classes = omega arith in
            elim (M.way.passed z l h k (e ∙ sym (M.placed.other_same class M.in_count less))) [
              | inl t ↦ absurd (false_taken (get_or taken z false) t f)
              | inr t ↦ t
            ])
      ]

  pub other_placed : ArePlaced classes thirds taken firsts (set others class found) count
  other_placed = record {
    each_first = M.placed.each_first;
    each_other = length-set others class found ∙ M.placed.each_other;
    first_same = M.placed.first_same;
    other_same = other_same;
    passed = M.placed.passed;
    alike = alike;
  }
    where
      inside : class < length others
      inside = let e = M.placed.each_other in let h = M.in_count in omega arith

      other_same : (c : ℕ) → c < count → get_or (set others class found) c 0 < length classes → get_or classes (get_or (set others class found) c 0) 0 ≡ c
      other_same c h k = elim (cases_eq c class) [
        | inl e ↦ (
            let p = get_at others class c found inside e in
            let less : found < length classes = omega arith in
            ap (λ (i : ℕ). get_or classes i 0) p ∙ other_found.same less ∙ sym e)
        | inr m ↦ (
            let p : get_or (set others class found) c 0 ≡ get_or others c 0 = get_or-set_other others class c found 0 m in
            let less : get_or others c 0 < length classes = omega arith in
            ap (λ (i : ℕ). get_or classes i 0) p ∙ M.placed.other_same c h less)
      ]

      alike : (z : ℕ) → z < length classes → z < get_or (set others class found) (get_or classes z 0) 0 → get_or taken z false ≡ false → get_or thirds z 0 ≡ get_or thirds (get_or firsts (get_or classes z 0) 0) 0
      alike z h k f = elim (cases_eq (get_or classes z 0) class) [
        | inl e ↦ (
            let p = get_at others class (get_or classes z 0) found inside e in
            other_found.alike_before z (omega arith) h e f ∙ ap (λ (i : ℕ). get_or thirds i 0) (sym M.here) ∙ ap (λ (c : ℕ). get_or thirds (get_or firsts c 0) 0) (sym e))
        | inr m ↦ (
            let p : get_or (set others class found) (get_or classes z 0) 0 ≡ get_or others (get_or classes z 0) 0 = get_or-set_other others class (get_or classes z 0) found 0 m in
            M.placed.alike z h (omega arith) f)
      ]

-- the same, from what the code reads
pub moving_first : {classes thirds nexts : List ℕ} {taken read_taken : List Bool} {firsts others : List ℕ} {count class from found : ℕ} → AreKnown classes thirds nexts count → ArePlaced classes thirds taken firsts others count → class < count → read_taken ≡ taken → from ≡ get_or firsts class from →
    IsFirstLeft classes thirds read_taken from (2 ^ 32 - 1) found → IsMovingFirst classes thirds taken firsts others count class (2 ^ 32 - 1) found
moving_first {classes} {thirds} {taken = taken} {firsts = firsts} {class = class} {from = from} {found = found} K P h t f W =
    let e = P.each_first in
    let inside : class < length firsts = omega arith in
    let read = get_or_read firsts class from inside f 0 in
    record {
      placed = P;
      in_count = h;
      real = K.third_below;
      way = subst (λ (n : ℕ). IsFirstLeft classes thirds taken n (2 ^ 32 - 1) found) read (subst (λ (m : List Bool). IsFirstLeft classes thirds m from (2 ^ 32 - 1) found) t W);
    }

pub moving_other : {classes thirds nexts : List ℕ} {taken read_taken : List Bool} {firsts others : List ℕ} {count class least from skip found : ℕ} → AreKnown classes thirds nexts count → ArePlaced classes thirds taken firsts others count → class < count → get_or firsts class 0 ≡ least → least < length classes → read_taken ≡ taken →
    from ≡ get_or others class from → skip ≡ get_or thirds least skip → IsFirstLeft classes thirds read_taken from skip found → IsMovingOther classes thirds taken firsts others count class least found
moving_other {classes} {thirds} {taken = taken} {others = others} {class = class} {least = least} {from = from} {skip = skip} {found = found} K P h l m t f s W =
    let e = P.each_other in
    let k = K.each_third in
    let inside : class < length others = omega arith in
    let in_thirds : least < length thirds = omega arith in
    let read = get_or_read others class from inside f 0 in
    let read_third = get_or_read thirds least skip in_thirds s 0 in
    record {
      placed = P;
      in_count = h;
      here = l;
      way = subst (λ (n : ℕ). IsFirstLeft classes thirds taken n (get_or thirds least 0) found) read (subst (λ (i : ℕ). IsFirstLeft classes thirds taken from i found) read_third (subst (λ (m : List Bool). IsFirstLeft classes thirds m from skip found) t W));
    }
