-- The last steps of reading: the geometry is made, and never refused.
use Rattle.std.proofs.Common.{◌≡◌, ℕ, ◌+◌, List, Some, None, Result, Ok, Err, sym, ap, ◌∙◌}
use Rattle.std.specs.Prelude.{ℤ, unwrap_or}
use Rattle.drc_base.specs.declared.faults.Refusal.{Refusal}
use Rattle.attr_heads.specs.declared.heads.Head.{Head}
use Rattle.mesh_model.specs.declared.geometries.Geometry.{Geometry}
use Rattle.mesh_model.specs.declared.geometries.Geometry.TheVariants.{Mesh, Cloud}
use Rattle.attr_heads.specs.FirstFault.{answer_of}
use Rattle.mesh_model.specs.Parts.{MeshParts, CloudParts, AreRows, cloud_of, mesh_of}
use Rattle.ply_text.specs.declared.headers.Header.{Header}
use Rattle.ply_text.specs.IsHeader.{IsHeader}
use Rattle.ply_mesh.specs.Body.{face_of, items_from, ends, AreRowsRead}
use Rattle.ply_mesh.specs.Read.{body_of}
use Rattle.ply_mesh.proofs.WellFormed.{cloud_fits, mesh_fits}
use Rattle.ply_mesh.proofs.BodySteps.{rows_from, cloud_from, mesh_ends}

abbrev ok_answer : {A : Type 0} → A → Result A Refusal
ok_answer x = Ok x

ok_same : {A : Type 0} (x y : A) → ok_answer x ≡ ok_answer y → x ≡ y
ok_same x y e = cc

never : {A : Type 0} (r : Result A Refusal) (x : A) (e : Refusal) → r ≡ Ok x → r ≡ Err e → ⊥
never r x e p q = let n : ok_answer x ≡ Err e = sym p ∙ q in cc

module _ (h : Header) (is : IsHeader h) (lines rest : List (List (List ℕ))) (heads : List Head) (cells : List ℤ) (he : heads ≡ h.heads) (read : AreRowsRead (rows_from h lines) cells rest) where
  pub cloud_rows : AreRows heads cells
  cloud_rows = (cloud_fits h is lines rest read.0 heads cells he read.2 read.1).0

  cloud_made : answer_of (cloud_of heads cells) ≡ Ok (record { heads = heads; points = read.0 })
  cloud_made = ap answer_of (cloud_fits h is lines rest read.0 heads cells he read.2 read.1).1

  pub cloud_never : (r : Result CloudParts Refusal) (e : Refusal) → r ≡ answer_of (cloud_of heads cells) → r ≡ Err e → ⊥
  cloud_never r e a b = never r (record { heads = heads; points = read.0 }) e (a ∙ cloud_made) b

  pub cloud_is : (r : Result CloudParts Refusal) (cloud : CloudParts) → h.faces ≡ None → ((g : Geometry) → ends g (h.body_line + h.vertices) rest ≡ Ok g) → r ≡ answer_of (cloud_of heads cells) → r ≡ Ok cloud → body_of h lines ≡ Ok (Cloud cloud)
  cloud_is r cloud none last a b =
      let made : CloudParts = record { heads = heads; points = read.0 } in
      let same : made ≡ cloud = ok_same made cloud (sym (a ∙ cloud_made) ∙ b) in
      cloud_from h lines rest read.0 none read.1 ∙ last (Cloud (record { heads = h.heads; points = read.0 }))
      ∙ ap (λ (hs : List Head). Ok (Cloud (record { heads = hs; points = read.0 }))) (sym he) ∙ ap (λ (c : CloudParts). Ok (Cloud c)) same

  module _ (count : ℕ) (faces : List (List ℕ)) (more : List (List (List ℕ))) (some : h.faces ≡ Some count) (fs : items_from (face_of (unwrap_or h.list (0, 0)) h.vertices) count (h.body_line + h.vertices) rest ≡ Ok (faces, more)) where
    pub mesh_rows : AreRows heads cells
    mesh_rows = (mesh_fits h (unwrap_or h.list (0, 0)) count (h.body_line + h.vertices) is lines rest more read.0 faces heads cells he read.2 read.1 some fs).0

    mesh_made : answer_of (mesh_of heads cells faces) ≡ Ok (record { heads = heads; points = read.0; faces = faces })
    mesh_made = ap answer_of (mesh_fits h (unwrap_or h.list (0, 0)) count (h.body_line + h.vertices) is lines rest more read.0 faces heads cells he read.2 read.1 some fs).1

    pub mesh_never : (r : Result MeshParts Refusal) (e : Refusal) → r ≡ answer_of (mesh_of heads cells faces) → r ≡ Err e → ⊥
    mesh_never r e a b = never r (record { heads = heads; points = read.0; faces = faces }) e (a ∙ mesh_made) b

    pub mesh_is : (r : Result MeshParts Refusal) (mesh : MeshParts) → ((g : Geometry) → ends g (h.body_line + h.vertices + count) more ≡ Ok g) → r ≡ answer_of (mesh_of heads cells faces) → r ≡ Ok mesh → body_of h lines ≡ Ok (Mesh mesh)
    mesh_is r mesh last a b =
        let made : MeshParts = record { heads = heads; points = read.0; faces = faces } in
        let same : made ≡ mesh = ok_same made mesh (sym (a ∙ mesh_made) ∙ b) in
        mesh_ends h lines rest more read.0 faces count some read.1 fs ∙ last (Mesh (record { heads = h.heads; points = read.0; faces = faces }))
        ∙ ap (λ (hs : List Head). Ok (Mesh (record { heads = hs; points = read.0; faces = faces }))) (sym he) ∙ ap (λ (c : MeshParts). Ok (Mesh c)) same
