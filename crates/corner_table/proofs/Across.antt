-- What lies across a side, by the number in the list of a table.
use Rattle.std.proofs.Common.{◌≡◌, ◌≢◌, ℕ, ◌/◌, ◌<◌, List, get_or, eqb, eqb-true, eq-eqb, Option, Some, None, inl, inr, sym, ap, ◌∙◌}
use Rattle.std.proofs.lemmas.Bool.{cases_Bool, cond-true, cond-false}
use Rattle.corner_table.specs.declared.corner_lists.FaceAcross.{FaceAcross}
use Rattle.corner_table.specs.Sides.{Side, number, side_at, IsGluing}
use Rattle.corner_table.specs.Table.{free_entry, other_at, glued_in}
use Rattle.corner_table.specs.Ordered.{Ordered, at_corner, face_entries, only_below}

-- a number that isn't free is that of the side across
pub glued_some : (across : List ℕ) (x : Side) (v : ℕ) → v ≡ get_or across (number x) free_entry → v ≢ free_entry → glued_in across x ≡ Some (side_at v)
glued_some across x v e h = ap other_at (sym e) ∙ (elim (cases_Bool (eqb v free_entry)) [ inl t ↦ absurd (h (eqb-true v free_entry t)) | inr t ↦ cond-false _ _ _ t ])

-- where it is free there is none
pub glued_none : (across : List ℕ) (x : Side) (v : ℕ) → v ≡ get_or across (number x) free_entry → v ≡ free_entry → glued_in across x ≡ None
glued_none across x v e h = ap other_at (sym e) ∙ cond-true _ _ _ (eq-eqb v free_entry h)

-- a number that isn't free is that of a side of one of the faces
pub found_within : {faces : ℕ} (across : List ℕ) → IsGluing faces (glued_in across) → (x : Side) (v : ℕ)
    → v ≡ get_or across (number x) free_entry → v ≢ free_entry → v / 3 < faces
found_within {faces} across G x v e h = G.within (side_at v) x (G.paired x (side_at v) (glued_some across x v e h))

-- what the side of a corner gives, where there is a side across
pub at_found : (w : Ordered) (e : ℕ) (c d : Side) → w.gluing c ≡ Some d → at_corner w e c ≡ only_below e (face_entries w d)
unfolding at_corner
at_found w e c d g = ap (λ (o : Option Side). elim o as (λ (x : Option Side). Option FaceAcross) [ None ↦ None | Some o ↦ only_below e (face_entries w o) ]) g

-- and where there is none
pub at_nothing : (w : Ordered) (e : ℕ) (c : Side) → w.gluing c ≡ None → at_corner w e c ≡ None
unfolding at_corner
at_nothing w e c g = ap (λ (o : Option Side). elim o as (λ (x : Option Side). Option FaceAcross) [ None ↦ None | Some o ↦ only_below e (face_entries w o) ]) g
