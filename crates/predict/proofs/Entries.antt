-- Entry after entry: where its components stand, what predicts them, and what one more of them does.
use Rattle.std.proofs.Common.{◌≡◌, ℕ, zero, suc, ◌+◌, ◌-◌, ◌*◌, ◌/◌, ◌%◌, ◌<◌, ◌≤◌, ℤ, pos, List, [], ◌∷◌, ◌++◌, length, take, get_or, set, refl, sym, subst, ◌∙◌, ap, arith, add-zero, ◌≢◌, eqb, eqb-true, eq-eqb, Some, None, inl, inr}
use Rattle.std.proofs.lemmas.Bool.{cases_Bool, cond-true, cond-false}
use Rattle.std.proofs.Math.Nat.{mul-le-mul_right}
use Rattle.std.proofs.lemmas.Nat.{div-mul-add, mod-mul-add}
use Rattle.std.proofs.lemmas.List.{length-take-le, get_or-take, take_more_set, take_all}
use Rattle.corner_table.specs.declared.corner_lists.FaceAcross.{FaceAcross}
use Rattle.predict.specs.Wrap.{Range, correction_of}
use Rattle.predict.specs.Restored.{corrections, entry_before}
use Rattle.corner_table.specs.Table.{free_entry}
use Rattle.corner_table.specs.Ordered.{Ordered, IsBelow, corner_at, at_corner, kept_face}
use Rattle.predict.specs.Parallelogram.{component, fourth, by_one, parallelogram}
use Rattle.predict.specs.Entry.{Foretells, Corrected}
use Rattle.predict.proofs.Restoring.{take-corrections, length-corrections, entry_before-first, entry_before-later}

-- the values of an entry end before those of a later one
pub entry_below : (k e comps : ℕ) → k < e → k * comps + comps ≤ e * comps
entry_below k e comps h =
    let m : suc k * comps ≤ e * comps = mul-le-mul_right comps (omega arith) in
    omega (arith, m)

-- a component of an entry before is read alike in the front part of the values
pub component_take : (comps : ℕ) (v : List ℤ) (k e j : ℕ) → j < comps → k < e
    → component comps (take (e * comps + j) v) k j ≡ component comps v k j
component_take comps v k e j h b =
    let m = entry_below k e comps b in
    get_or-take (e * comps + j) v (k * comps + j) (pos 0) (omega arith)

-- and so is a parallelogram over a face whose entries are before
pub fourth_take : (comps : ℕ) (t : FaceAcross) (v : List ℤ) (e j : ℕ) → j < comps → IsBelow e t
    → fourth comps t j (take (e * comps + j) v) ≡ fourth comps t j v
unfolding fourth
fourth_take comps t v e j h b =
    let a = component_take comps v t.after e j h b.after in
    let c = component_take comps v t.before e j h b.before in
    let o = component_take comps v t.across e j h b.across in
    rw (a, c, o) refl

-- the entry before, in the front part of the values
pub before_first : (comps : ℕ) (v : List ℤ) (e j : ℕ) → j < comps → e ≡ 0 → e * comps + comps ≤ length v
    → pos 0 ≡ entry_before comps (take (e * comps + j) v)
before_first comps v e j h z has =
    let n : e * comps + j < comps = rw z (omega arith) in
    entry_before-first comps v (e * comps + j) (omega arith) n

pub before_later : (comps : ℕ) (v : List ℤ) (e j : ℕ) → j < comps → 0 < e → e * comps + comps ≤ length v
    → component comps v (e - 1) j ≡ entry_before comps (take (e * comps + j) v)
before_later comps v e j h p has =
    let m = entry_below (e - 1) e comps (omega arith) in
    let k : (e - 1) * comps + comps ≡ e * comps = one_less e p in
    let at : (e - 1) * comps + j ≡ (e * comps + j) - comps = omega arith in
    ap (λ (i : ℕ). get_or v i (pos 0)) at ∙ entry_before-later comps v (e * comps + j) (omega arith) (omega arith) (omega arith)
  where
    one_less : (e : ℕ) → 0 < e → (e - 1) * comps + comps ≡ e * comps
    one_less zero p = absurd (omega arith)
    one_less (suc e) p =
        let k : suc e - 1 ≡ e = omega arith in
        ap (λ (n : ℕ). n * comps + comps) k ∙ (let z : e * comps + comps ≡ suc e * comps = omega arith in z)

-- the number of an entry and of its component, from the number of values before
pub entry_of : (comps e j n : ℕ) → j < comps → n ≡ e * comps + j → n / comps ≡ e
entry_of comps e j n h is = ap (λ (m : ℕ). m / comps) is ∙ div-mul-add e comps j h

pub component_of : (comps e j n : ℕ) → j < comps → n ≡ e * comps + j → n % comps ≡ j
component_of comps e j n h is = ap (λ (m : ℕ). m % comps) is ∙ mod-mul-add e comps j h

-- one correction more is put
pub corrected_more : (f : List ℤ → ℤ) (r : Range) (v out new : List ℤ) (comps e j : ℕ) (p : ℕ → List ℤ → ℤ) (x : ℤ)
    → Foretells f comps e p → j < comps → e * comps + comps ≤ length v → length out ≡ length v
    → x ≡ correction_of r (p j (take (e * comps + j) v)) (get_or v (e * comps + j) (pos 0))
    → new ≡ set out (e * comps + j) x
    → Corrected f r v out (e * comps + j) → Corrected f r v new (e * comps + (j + 1))
corrected_more f r v out new comps e j p x foretells h has room is write so =
    let at : e * comps + j < length v = omega arith in
    let in_out : e * comps + j < length out = omega arith in
    let len : length (take (e * comps + j) v) ≡ e * comps + j = length-take-le (e * comps + j) v (omega arith) in
    let told : p j (take (e * comps + j) v) ≡ f (take (e * comps + j) v) = sym (foretells j (take (e * comps + j) v) h len) in
    let value : x ≡ correction_of r (f (take (e * comps + j) v)) (get_or v (e * comps + j) (pos 0)) =
    is ∙ ap (λ (q : ℤ). correction_of r q (get_or v (e * comps + j) (pos 0))) told in
    let next : e * comps + (j + 1) ≡ e * comps + j + 1 = omega arith in
    rw (write, next) (
    take_more_set out (e * comps + j) x in_out
    ∙ ap (λ (front : List ℤ). front ++ x ∷ []) so
    ∙ ap (λ (y : ℤ). take (e * comps + j) (corrections f r v) ++ y ∷ []) value
    ∙ sym (take-corrections f r v (e * comps + j) at))

-- all corrections are put
pub corrected_end : (f : List ℤ → ℤ) (r : Range) (v out : List ℤ) (k : ℕ) → length out ≡ length v → length v ≤ k → Corrected f r v out k → out ≡ corrections f r v
corrected_end f r v out k room done so =
    sym (take_all k out (omega arith)) ∙ so ∙ take_all k (corrections f r v) (omega (arith, length-corrections f r v))

-- the parallelogram foretells an entry from the face at its corner
pub foretells_one : (w : Ordered) (comps e : ℕ) → Foretells (parallelogram w comps) comps e (by_one comps (at_corner w e (corner_at w e)))
unfolding parallelogram
foretells_one w comps e j before h len =
    let k : length before / comps ≡ e = entry_of comps e j (length before) h len in
    let m : length before % comps ≡ j = component_of comps e j (length before) h len in
    rw (k, m) refl

-- no component yet, and all of them
pub corrected_none : (f : List ℤ → ℤ) (r : Range) (v out : List ℤ) (i : ℕ) → Corrected f r v out i → Corrected f r v out (i + 0)
corrected_none f r v out i so = rw (add-zero i) so

pub corrected_all : (f : List ℤ → ℤ) (r : Range) (v out : List ℤ) (i j n : ℕ) → j ≡ n → Corrected f r v out (i + j) → Corrected f r v out (i + n)
corrected_all f r v out i j n e so = subst (λ (k : ℕ). Corrected f r v out (i + k)) e so

-- the corrections of one entry more
pub corrected_on : (f : List ℤ → ℤ) (r : Range) (v out : List ℤ) (comps e : ℕ) → Corrected f r v out (e * comps + comps) → Corrected f r v out ((e + 1) * comps)
corrected_on f r v out comps e so = let next : (e + 1) * comps ≡ e * comps + comps = omega arith in rw next so

-- what foretells with one prediction does so with one that is alike
pub foretells_alike : (f : List ℤ → ℤ) (comps e : ℕ) (p q : ℕ → List ℤ → ℤ) → ((j : ℕ) (before : List ℤ) → p j before ≡ q j before) → Foretells f comps e p → Foretells f comps e q
foretells_alike f comps e p q alike foretells j before h len = foretells j before h len ∙ alike j before

-- nothing is corrected yet
pub corrected_start : (f : List ℤ → ℤ) (r : Range) (v out : List ℤ) (comps : ℕ) → Corrected f r v out (0 * comps)
corrected_start f r v out comps = let z : 0 * comps ≡ 0 = omega arith in rw z refl

-- all entries are passed
pub all_entries : (n e comps len : ℕ) → n ≤ e → len ≡ n * comps → len ≤ e * comps
all_entries n e comps len h is = let m : n * comps ≤ e * comps = mul-le-mul_right comps h in omega arith

-- a face that is kept, and none
pub kept_some : (t : FaceAcross) → t.across ≢ free_entry → kept_face t ≡ Some t
kept_some t h = elim (cases_Bool (eqb t.across free_entry)) [ inl e ↦ absurd (h (eqb-true t.across free_entry e)) | inr n ↦ cond-false _ _ _ n ]

pub kept_nothing : (t : FaceAcross) → t.across ≡ free_entry → kept_face t ≡ None
kept_nothing t h = cond-true _ _ _ (eq-eqb t.across free_entry h)
