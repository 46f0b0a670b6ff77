-- Integers that are whole rows for C are whole rows of the heads that are meant.
use Rattle.std.proofs.Common.{◌≡◌, ◌≤◌, ◌<◌, ◌%◌, ◌+◌, ℕ, ℤ, true, cond, eqb, ltb, List, [], ◌∷◌, length, map, Result, Ok, Err, refl, ap, ◌∙◌, sym, subst, inl, inr, arith}
use Rattle.std.specs.Prelude.{◌||◌}
use Rattle.std.proofs.lemmas.Bool.{and_parts, or_cases, eqb-true, le-ltb}
use Rattle.std.proofs.lemmas.List.{length-map}
use Rattle.std.proofs.lemmas.List.Sums.{sum_by-cons}
use Rattle.drc_base.specs.declared.faults.Fault.{Fault}
use Rattle.drc_base.specs.declared.faults.Refusal.{Refusal}
use Rattle.drc_base.specs.Refusals.{Answers}
use Rattle.attr_heads.specs.declared.heads.Head.{Head}
use Rattle.attr_heads.specs.FirstFault.{answer_of}
use Rattle.attr_heads.specs.Head.{width_of}
use Rattle.mesh_model.specs.Parts.{AreRows}
use Rattle.attr_heads.proofs.Widths.{width_of-bounds}
use Rattle.drc_c.specs.declared.heads.DrcHead.{DrcHead}
use Rattle.drc_c.specs.Heads.{head_meant}
use Rattle.drc_c.specs.Inputs.{width_told, do_fit}
use Rattle.drc_c.proofs.FewHeads.{heads_few}

-- the width of the heads that are meant
pub width_of-meant : (heads : List DrcHead) → width_of (map head_meant heads) ≡ width_told heads
width_of-meant [] = refl
width_of-meant (h ∷ heads) =
    sum_by-cons (λ (g : Head). g.comps) (head_meant h) (map head_meant heads)
    ∙ ap (λ (n : ℕ). h.comps + n) (width_of-meant heads)
    ∙ sym (sum_by-cons (λ (g : DrcHead). g.comps) h heads)

-- where the width isn't 0, the rows are whole
whole : (width count : ℕ) → (eqb width 0 || eqb (count % width) 0) ≡ true → 0 < width → count % width ≡ 0
whole width count e wide =
    elim (or_cases (eqb width 0) (eqb (count % width) 0) e) [
      | inl none ↦ absurd (omega (arith, eqb-true width 0 none))
      | inr is ↦ eqb-true (count % width) 0 is
    ]

-- of few attributes the rows are whole
few_whole : (n width count : ℕ) → cond (ltb 16 n) true (eqb width 0 || eqb (count % width) 0) ≡ true → n ≤ 16 → 0 < width → count % width ≡ 0
few_whole n width count e few wide =
    whole width count (rw (le-ltb 16 n few) at e) wide

-- arrays that fit have whole rows
pub rows_whole : (mesh : ℕ) (heads : List DrcHead) (corners : List (List ℕ)) (values : List ℤ) → do_fit mesh heads corners values ≡ true → AreRows (map head_meant heads) values
rows_whole mesh heads corners values fit pass =
    let width = width_of-meant heads in
    let wide : 0 < width_told heads = subst (λ (n : ℕ). 0 < n) width (width_of-bounds (map head_meant heads) pass).0 in
    let few : length heads ≤ 16 = omega (arith, length-map heads head_meant, heads_few (map head_meant heads) pass) in
    rw width (few_whole (length heads) (width_told heads) (length values) (and_parts _ _ fit).1 few wide)

-- an exact answer is one that is due
pub answers-exact : {A : Type 0} (due : Result A Fault) (r : Result A Refusal) → r ≡ answer_of due → Answers (λ x. x) due r
answers-exact (Ok x) r e = subst (Answers (λ y. y) (Ok x)) (sym e) refl
answers-exact (Err f) r e = subst (Answers (λ y. y) (Err f)) (sym e) refl
