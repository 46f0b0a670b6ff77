-- How often a name stands in triangles, after one triangle more and after a renaming; and what a raised number reads as.
use Rattle.std.proofs.Common.{◌≡◌, ◌≢◌, ℕ, zero, suc, ◌+◌, ◌*◌, ◌<◌, ◌≤◌, Bool, true, false, ◌==◌, cond, List, [], ◌∷◌, ◌++◌, length, get_or, map, take, inl, inr, sym, refl, ap, ◌∙◌, arith, eqb-true, eq-eqb, sum_by, get_or-set_other, get_or-set_same}
use Rattle.std.proofs.lemmas.Bool.{cases_Bool, cases_eq, cond-true, cond-false}
use Rattle.std.proofs.lemmas.List.{take_all}
use Rattle.std.proofs.lemmas.List.Sums.{sum_by-cons, sum_by_push, sum_by_more}
use Rattle.corner_table.specs.Sides.{Side, first, second, third, side, number, next, prev, Gluing, IsFree}
use Rattle.corner_table.proofs.Places.{next_injective, prev_injective, same_tells}
use Rattle.corner_table.proofs.Numbers.{number_injective}
use Rattle.corner_table.proofs.Walks.{starts_once, ends_once}
use Rattle.corner_table.proofs.Boundary.{free-left, free-right}
use Rattle.eb_machine.specs.Named.{Triangle, Row, no_triangle, renamed, renamed_triangle}
use Rattle.eb_machine.specs.Shown.{name_of, AreNames}
use Rattle.eb_machine.proofs.NamedRules.{renamed_from, renamed_case}
use Rattle.eb_rebuild.specs.Counted.{times_in}
use Rattle.eb_rebuild.specs.KeptDegrees.{degree_raised}

-- 1 where two names are one
abbrev pub bit : ℕ → ℕ → ℕ
bit v w = cond (v == w) 1 0

pub bit_same : (v w : ℕ) → v ≡ w → bit v w ≡ 1
bit_same v w e = cond-true (v == w) 1 0 (eq-eqb v w e)

never : (t : Bool) → (t ≡ true → ⊥) → t ≡ false
never true h = absurd (h refl)
never false h = refl

pub apart_false : (v w : ℕ) → v ≢ w → (v == w) ≡ false
apart_false v w ne = never (v == w) (λ e. ne (eqb-true v w e))

pub bit_other : (v w : ℕ) → v ≢ w → bit v w ≡ 0
bit_other v w ne = cond-false (v == w) 1 0 (apart_false v w ne)

bit_small : (v w : ℕ) → bit v w ≤ 1
bit_small v w = elim (cases_eq v w) [ inl e ↦ (let b = bit_same v w e in omega arith) | inr e ↦ (let b = bit_other v w e in omega arith) ]

abbrev pub count : ℕ → List Triangle → ℕ
count v ts = sum_by (times_in v) ts

pub count_more : (v : ℕ) (ts : List Triangle) (t : Triangle) → count v (ts ++ (t ∷ [])) ≡ count v ts + times_in v t
count_more v ts t = sum_by_push (times_in v) ts t

pub count_small : (v : ℕ) (ts : List Triangle) → count v ts ≤ 3 * length ts
count_small v [] = omega arith
count_small v (t ∷ ts) =
    let e = sum_by-cons (times_in v) t ts in
    let h = count_small v ts in
    let a = bit_small v t.0 in
    let b = bit_small v t.1 in
    let c = bit_small v t.2 in
    omega arith

-- a name that stands at no corner
count_part : (v : ℕ) (ts : List Triangle) → ((c : Side) → c.face < length ts → v ≢ name_of ts c) → (m : ℕ) → m ≤ length ts → sum_by (times_in v) (take m ts) ≡ 0
count_part v ts ne zero l = refl
count_part v ts ne (suc m) l =
    let before = count_part v ts ne m (omega arith) in
    let step : sum_by (times_in v) (take (m + 1) ts) ≡ sum_by (times_in v) (take m ts) + times_in v (get_or ts m no_triangle) = sum_by_more (times_in v) ts m no_triangle l in
    let more : sum_by (times_in v) (take (suc m) ts) ≡ sum_by (times_in v) (take (m + 1) ts) = ap (λ (n : ℕ). sum_by (times_in v) (take n ts)) (let q : suc m ≡ m + 1 = omega arith in q) in
    let a = bit_other v (name_of ts (side m first)) (ne (side m first) l) in
    let b = bit_other v (name_of ts (side m second)) (ne (side m second) l) in
    let c = bit_other v (name_of ts (side m third)) (ne (side m third) l) in
    omega arith

pub count_none : (v : ℕ) (ts : List Triangle) → ((c : Side) → c.face < length ts → v ≢ name_of ts c) → count v ts ≡ 0
count_none v ts ne = ap (count v) (sym (take_all (length ts) ts (omega arith))) ∙ count_part v ts ne (length ts) (omega arith)

-- n becomes p, which stands there as often as both did
bit_renamed : (n p v x : ℕ) → v ≢ n → bit v (renamed n p x) ≡ bit v x + cond (v == p) (bit n x) 0
bit_renamed n p v x ne = elim (cases_eq x n) [
  | inl e ↦ (
      let a : renamed n p x ≡ p = ap (renamed n p) e ∙ renamed_from n p in
      let b = ap (bit v) a in
      let c = bit_other v x (λ q. ne (q ∙ e)) in
      let d = bit_same n x (sym e) in
      let f : ◌≡◌ {A = ℕ} (cond (v == p) (bit n x) 0) (cond (v == p) 1 0) = ap (λ (k : ℕ). cond (v == p) k 0) d in
      omega arith)
  | inr e ↦ (
      let a : renamed n p x ≡ x = elim (renamed_case n p x) [ inl c ↦ absurd (e c.0) | inr c ↦ c ] in
      let b = ap (bit v) a in
      let d = bit_other n x (λ q. e (sym q)) in
      let f : ◌≡◌ {A = ℕ} (cond (v == p) (bit n x) 0) (cond (v == p) 0 0) = ap (λ (k : ℕ). cond (v == p) k 0) d in
      let z : ◌≡◌ {A = ℕ} (cond (v == p) 0 0) 0 = none (v == p) in
      omega arith)
]
  where
    none : (t : Bool) → ◌≡◌ {A = ℕ} (cond t 0 0) 0
    none true = refl
    none false = refl

cond_sum : (t : Bool) (a b : ℕ) → cond t a 0 + cond t b 0 ≡ cond t (a + b) 0
cond_sum true a b = refl
cond_sum false a b = refl

pub count_renamed : (n p v : ℕ) (ts : List Triangle) → v ≢ n → count v (map (renamed_triangle (renamed n p)) ts) ≡ count v ts + cond (v == p) (count n ts) 0
count_renamed n p v [] ne = elim (cases_Bool (v == p)) [
  | inl t ↦ (let c : ◌≡◌ {A = ℕ} (cond (v == p) (count n []) 0) (count n []) = cond-true (v == p) (count n []) 0 t in let z : count n [] ≡ 0 = refl in let y : count v [] ≡ 0 = refl in omega arith)
  | inr t ↦ (let c : ◌≡◌ {A = ℕ} (cond (v == p) (count n []) 0) 0 = cond-false (v == p) (count n []) 0 t in let y : count v [] ≡ 0 = refl in omega arith)
]
count_renamed n p v (t ∷ ts) ne =
    let r = renamed n p in
    let e = sum_by-cons (times_in v) (renamed_triangle r t) (map (renamed_triangle r) ts) in
    let f = sum_by-cons (times_in v) t ts in
    let g : count n (t ∷ ts) ≡ times_in n t + count n ts = sum_by-cons (times_in n) t ts in
    let h = count_renamed n p v ts ne in
    let a = bit_renamed n p v t.0 ne in
    let b = bit_renamed n p v t.1 ne in
    let c = bit_renamed n p v t.2 ne in
    let x = cond_sum (v == p) (bit n t.0) (bit n t.1) in
    let y = cond_sum (v == p) (bit n t.0 + bit n t.1) (bit n t.2) in
    let z = cond_sum (v == p) (times_in n t) (count n ts) in
    let w : ◌≡◌ {A = ℕ} (cond (v == p) (count n (t ∷ ts)) 0) (cond (v == p) (times_in n t + count n ts) 0) = ap (λ (k : ℕ). cond (v == p) k 0) g in
    omega arith

-- one free side starts at a vertex, and one ends there
pub one_start : {ts : List Triangle} {rows : List Row} {g : Gluing} {made : ℕ} → AreNames ts rows g made → (s x : Side) → IsFree (length ts) g s → IsFree (length ts) g x → name_of ts (next s) ≡ name_of ts (next x) → s ≡ x
one_start {ts} {rows} {g} {made} N s x A B e = next_injective s x (starts_once N.gluing (N.one_fan (next s) (next x) A.within B.within e) (free-right g s A.free) (free-right g x B.free))

pub one_end : {ts : List Triangle} {rows : List Row} {g : Gluing} {made : ℕ} → AreNames ts rows g made → (s x : Side) → IsFree (length ts) g s → IsFree (length ts) g x → name_of ts (prev s) ≡ name_of ts (prev x) → s ≡ x
one_end {ts} {rows} {g} {made} N s x A B e = prev_injective s x (ends_once N.gluing (N.one_fan (prev s) (prev x) A.within B.within e) (free-left g s A.free) (free-left g x B.free))

-- the number at a side that follows a is raised: what is read at a free side
pub raised_is : {ts : List Triangle} {rows : List Row} {g : Gluing} {made : ℕ} → AreNames ts rows g made → (a na s : Side) → IsFree (length ts) g na → name_of ts (next na) ≡ name_of ts (prev a) → IsFree (length ts) g s →
    (k : ℕ) (ds : List ℕ) → number na < length ds →
    get_or (degree_raised (number na) k ds) (number s) 0 ≡ get_or ds (number s) 0 + cond (name_of ts (next s) == name_of ts (prev a)) k 0
raised_is {ts} {rows} {g} {made} N a na s B e A k ds l = elim (same_tells s na) [
  | inl q ↦ (
      let i : number s ≡ number na = ap number q in
      let x = ap (λ (j : ℕ). get_or (degree_raised (number na) k ds) j 0) i in
      let y = get_or-set_same ds (number na) (get_or ds (number na) 0 + k) 0 l in
      let z = ap (λ (j : ℕ). get_or ds j 0) i in
      let w : ◌≡◌ {A = ℕ} (cond (name_of ts (next s) == name_of ts (prev a)) k 0) k = cond-true (name_of ts (next s) == name_of ts (prev a)) k 0 (eq-eqb (name_of ts (next s)) (name_of ts (prev a)) (ap (λ (y : Side). name_of ts (next y)) q ∙ e)) in
      omega arith)
  | inr q ↦ (
      let y = get_or-set_other ds (number na) (number s) (get_or ds (number na) 0 + k) 0 (λ i. q (number_injective s na i)) in
      let w : ◌≡◌ {A = ℕ} (cond (name_of ts (next s) == name_of ts (prev a)) k 0) 0 = cond-false (name_of ts (next s) == name_of ts (prev a)) k 0 (apart_false (name_of ts (next s)) (name_of ts (prev a)) (λ i. q (one_start N s na A B (i ∙ sym e)))) in
      omega arith)
]
