-- One side more has its edge.
use Rattle.std.proofs.Common.{◌≡◌, ◌≢◌, ℕ, ◌+◌, ◌*◌, ◌/◌, ◌<◌, ◌≤◌, eqb, max, List, length, get_or, set, inl, inr, sym, ap, ◌∙◌, arith, get_or-set_same, get_or-set_other}
use Rattle.std.proofs.lemmas.Bool.{cases_eq, cond-true, cond-false, eq-eqb, ne_eqb}
use Rattle.first_items.specs.FirstItems.{AreFirstItems}
use Rattle.pairing.specs.Classes.{class_at, AreEdges}
use Rattle.first_items.proofs.PairNumbers.{one_first}

-- the edge of a class is its half
pub class_half : (edge start low : ℕ) → class_at edge start low / 2 ≡ edge
class_half edge start low = elim (cases_eq start low) [
  | inl e ↦ (let c = cond-true (eqb start low) (2 * edge) (2 * edge + 1) (eq-eqb start low e) in omega arith)
  | inr n ↦ (let c = cond-false (eqb start low) (2 * edge) (2 * edge + 1) (ne_eqb start low n) in omega arith)
]

pub record IsNextEdge (lows highs firsts classes : List ℕ) (edges x edge class : ℕ) : Type 0 where
  pub inside : x < length lows
  pub each : length classes ≡ length lows
  pub first_items : AreFirstItems lows highs firsts
  pub so_far : AreEdges firsts classes edges x
  pub new : get_or firsts x 0 ≡ x → edge ≡ edges
  pub old : get_or firsts x 0 ≢ x → edge ≡ get_or classes (get_or firsts x 0) 0 / 2
  pub half : class / 2 ≡ edge

module _ {lows highs firsts classes : List ℕ} {edges x edge class : ℕ} (E : IsNextEdge lows highs firsts classes edges x edge class) where
  no_later : (k : ℕ) → k < x + 1 → get_or firsts k 0 < k + 1
  no_later k h = let i = E.inside in let l = (E.first_items.first_is k (omega arith)).no_later in omega arith

  -- the first side like a first side is itself
  first_itself : get_or firsts (get_or firsts x 0) 0 ≡ get_or firsts x 0
  first_itself =
      let i = E.inside in
      let l = no_later x (omega arith) in
      let I = E.first_items.first_is x i in
      one_first (E.first_items.first_is (get_or firsts x 0) (omega arith)) I I.first I.second

  alike_here : (k : ℕ) → k < x → get_or firsts k 0 ≡ get_or firsts x 0 → get_or classes k 0 / 2 ≡ edge
  alike_here k h e = elim (cases_eq (get_or firsts x 0) x) [
    | inl p ↦ absurd (let l = no_later k (omega arith) in omega arith)
    | inr n ↦ (let l = no_later x (omega arith) in E.so_far.alike k (get_or firsts x 0) h (omega arith) (e ∙ sym first_itself) ∙ sym (E.old n))
  ]

  apart_here : (k : ℕ) → k < x → get_or classes k 0 / 2 ≡ edge → get_or firsts k 0 ≡ get_or firsts x 0
  apart_here k h e = elim (cases_eq (get_or firsts x 0) x) [
    | inl p ↦ absurd (let b = E.so_far.below k h in let q = E.new p in omega arith)
    | inr n ↦ (let l = no_later x (omega arith) in E.so_far.apart k (get_or firsts x 0) h (omega arith) (e ∙ E.old n) ∙ first_itself)
  ]

  pub edge_counted : edge ≤ edges
  edge_counted = elim (cases_eq (get_or firsts x 0) x) [
    | inl p ↦ (let q = E.new p in omega arith)
    | inr n ↦ (let l = no_later x (omega arith) in let b = E.so_far.below (get_or firsts x 0) (omega arith) in let q = E.old n in omega arith)
  ]

  here : get_or (set classes x class) x 0 / 2 ≡ edge
  here = let i = E.inside in let l = E.each in ap (λ (c : ℕ). c / 2) (get_or-set_same classes x class 0 (omega arith)) ∙ E.half

  before : (k : ℕ) → k ≢ x → get_or (set classes x class) k 0 / 2 ≡ get_or classes k 0 / 2
  before k n = ap (λ (c : ℕ). c / 2) (get_or-set_other classes x k class 0 n)

  pub edges_more : AreEdges firsts (set classes x class) (max edges (edge + 1)) (x + 1)
  edges_more = record { below = below; alike = alike; apart = apart }
    where
      half_of : ℕ → ℕ
      half_of k = get_or (set classes x class) k 0 / 2

      below : (k : ℕ) → k < x + 1 → get_or (set classes x class) k 0 / 2 < max edges (edge + 1)
      below k h = elim (cases_eq k x) [
        | inl p ↦ (let q = ap half_of p ∙ here in omega arith)
        | inr n ↦ (let q = before k n in let b = E.so_far.below k (omega arith) in omega arith)
      ]

      alike : (j k : ℕ) → j < x + 1 → k < x + 1 → get_or firsts j 0 ≡ get_or firsts k 0 → get_or (set classes x class) j 0 / 2 ≡ get_or (set classes x class) k 0 / 2
      alike j k h i e = elim (cases_eq j x) [
        | inl p ↦ elim (cases_eq k x) [
          | inl q ↦ ap half_of p ∙ sym (ap half_of q)
          | inr n ↦ ap half_of p ∙ here ∙ sym (alike_here k (omega arith) (sym e ∙ ap (λ (i : ℕ). get_or firsts i 0) p)) ∙ sym (before k n)
        ]
        | inr m ↦ elim (cases_eq k x) [
          | inl q ↦ before j m ∙ alike_here j (omega arith) (e ∙ ap (λ (i : ℕ). get_or firsts i 0) q) ∙ sym here ∙ sym (ap half_of q)
          | inr n ↦ before j m ∙ E.so_far.alike j k (omega arith) (omega arith) e ∙ sym (before k n)
        ]
      ]

      apart : (j k : ℕ) → j < x + 1 → k < x + 1 → get_or (set classes x class) j 0 / 2 ≡ get_or (set classes x class) k 0 / 2 → get_or firsts j 0 ≡ get_or firsts k 0
      apart j k h i e = elim (cases_eq j x) [
        | inl p ↦ elim (cases_eq k x) [
          | inl q ↦ ap (λ (i : ℕ). get_or firsts i 0) (p ∙ sym q)
          | inr n ↦ ap (λ (i : ℕ). get_or firsts i 0) p ∙ sym (apart_here k (omega arith) (sym (before k n) ∙ sym e ∙ ap half_of p ∙ here))
        ]
        | inr m ↦ elim (cases_eq k x) [
          | inl q ↦ apart_here j (omega arith) (sym (before j m) ∙ e ∙ ap half_of q ∙ here) ∙ sym (ap (λ (i : ℕ). get_or firsts i 0) q)
          | inr n ↦ E.so_far.apart j k (omega arith) (omega arith) (sym (before j m) ∙ e ∙ before k n)
        ]
      ]

-- no side yet
pub edges_begin : (firsts classes : List ℕ) → AreEdges firsts classes 0 0
edges_begin firsts classes = record { below = λ x h. absurd (omega arith); alike = λ x y h. absurd (omega arith); apart = λ x y h. absurd (omega arith) }

-- a list of classes with one more, each of the form that its edge gives
pub classed_more : (form : ℕ → ℕ → ℕ) (classes : List ℕ) (x class : ℕ) → x < length classes → class ≡ form x (class / 2) → ((k : ℕ) → k < x → get_or classes k 0 ≡ form k (get_or classes k 0 / 2)) →
    (k : ℕ) → k < x + 1 → get_or (set classes x class) k 0 ≡ form k (get_or (set classes x class) k 0 / 2)
classed_more form classes x class l e h k m = elim (cases_eq k x) [
  | inl q ↦ (
      let v : get_or (set classes x class) k 0 ≡ class = ap (λ (i : ℕ). get_or (set classes x class) i 0) q ∙ get_or-set_same classes x class 0 l in
      v ∙ e ∙ ap (λ (i : ℕ). form i (class / 2)) (sym q) ∙ ap (λ (c : ℕ). form k (c / 2)) (sym v))
  | inr n ↦ (let o = get_or-set_other classes x k class 0 n in o ∙ h k (omega arith) ∙ ap (λ (c : ℕ). form k (c / 2)) (sym o))
]
