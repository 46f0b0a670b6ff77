-- A body part by part.
use Rattle.std.proofs.Common.{◌≡◌, ℕ, ◌+◌, ◌-◌, drop, List, map, Option, Some, None, Result, Ok, Err, refl, sym, ap, ◌∙◌, add-zero}
use Rattle.std.specs.Prelude.{ℤ, unwrap_or}
use Rattle.drc_base.specs.declared.faults.Fault.{Fault}
use Rattle.drc_base.specs.declared.faults.Refusal.{Refusal}
use Rattle.drc_base.specs.declared.faults.Refusal.TheVariants as refusal
use Rattle.drc_base.specs.Refusals.{Refuses}
use Rattle.drc_base.specs.Steps.{◌>>=◌}
use Rattle.mesh_model.specs.declared.geometries.Geometry.TheVariants.{Mesh, Cloud}
use Rattle.attr_heads.specs.Head.{row_bounds}
use Rattle.ply_text.specs.declared.headers.Header.{Header}
use Rattle.ply_mesh.specs.Body.{row_read, face_of, items_from, ends}
use Rattle.ply_mesh.specs.Read.{geometry_of_rows, body_of, ply_read_in}
use Rattle.std.specs.Str.Lines.{lines}
use Rattle.std.proofs.lemmas.List.{drop-map}
use Rattle.ply_text.specs.Tokens.{tokens_of, token_lines}
use Rattle.ply_text.specs.Header.{header_of_in}

abbrev pub rows_from : Header → List (List (List ℕ)) → Result (List (List ℤ) × List (List (List ℕ))) Fault
rows_from h lines = items_from (row_read (row_bounds h.heads)) h.vertices h.body_line lines

pub rows_fault : (h : Header) (lines : List (List (List ℕ))) (e : Refusal) → Refuses (rows_from h lines) e → Refuses (body_of h lines) e
unfolding body_of
rows_fault h lines refusal.Memory r = tt
rows_fault h lines (refusal.Fault f) r = rw r refl

abbrev pub Rest : Type 0
Rest = List (List (List ℕ))

-- what follows the points of a cloud
pub cloud_from : (h : Header) (lines rest : Rest) (rows : List (List ℤ)) → h.faces ≡ None → rows_from h lines ≡ Ok (rows, rest) → body_of h lines ≡ ends (Cloud (record { heads = h.heads; points = rows })) (h.body_line + h.vertices) rest
unfolding body_of
cloud_from h lines rest rows none e = rw (e, none, add-zero) refl

-- what follows the points of a mesh
pub mesh_from : (h : Header) (lines rest : Rest) (rows : List (List ℤ)) (count : ℕ) → h.faces ≡ Some count → rows_from h lines ≡ Ok (rows, rest)
    → body_of h lines ≡ (items_from (face_of (unwrap_or h.list (0, 0)) h.vertices) count (h.body_line + h.vertices) rest >>= λ (faces : List (List ℕ) × Rest). ends (Mesh (record { heads = h.heads; points = rows; faces = faces.0 })) (h.body_line + h.vertices + count) faces.1)
unfolding body_of
mesh_from h lines rest rows count some e = rw (e, some) (through (items_from (face_of (unwrap_or h.list (0, 0)) h.vertices) count (h.body_line + h.vertices) rest)) where
  through : (r : Result (List (List ℕ) × Rest) Fault) → ((r >>= λ (faces : List (List ℕ) × Rest). Ok (Some faces.0, faces.1)) >>= λ (faces : Option (List (List ℕ)) × Rest). ends (geometry_of_rows h.heads rows faces.0) (h.body_line + h.vertices + count) faces.1)
      ≡ (r >>= λ (faces : List (List ℕ) × Rest). ends (Mesh (record { heads = h.heads; points = rows; faces = faces.0 })) (h.body_line + h.vertices + count) faces.1)
  through (Ok x) = refl
  through (Err f) = refl

pub faces_fault : (h : Header) (lines rest : Rest) (rows : List (List ℤ)) (count : ℕ) (e : Refusal) → h.faces ≡ Some count → rows_from h lines ≡ Ok (rows, rest) → Refuses (items_from (face_of (unwrap_or h.list (0, 0)) h.vertices) count (h.body_line + h.vertices) rest) e → Refuses (body_of h lines) e
faces_fault h lines rest rows count refusal.Memory some r f = tt
faces_fault h lines rest rows count (refusal.Fault d) some r f = mesh_from h lines rest rows count some r ∙ ap (λ (x : Result (List (List ℕ) × Rest) Fault). x >>= λ (faces : List (List ℕ) × Rest). ends (Mesh (record { heads = h.heads; points = rows; faces = faces.0 })) (h.body_line + h.vertices + count) faces.1) f

pub mesh_ends : (h : Header) (lines rest more : Rest) (rows : List (List ℤ)) (faces : List (List ℕ)) (count : ℕ) → h.faces ≡ Some count → rows_from h lines ≡ Ok (rows, rest) → items_from (face_of (unwrap_or h.list (0, 0)) h.vertices) count (h.body_line + h.vertices) rest ≡ Ok (faces, more)
    → body_of h lines ≡ ends (Mesh (record { heads = h.heads; points = rows; faces = faces })) (h.body_line + h.vertices + count) more
mesh_ends h lines rest more rows faces count some r f = mesh_from h lines rest rows count some r ∙ ap (λ (x : Result (List (List ℕ) × Rest) Fault). x >>= λ (faces : List (List ℕ) × Rest). ends (Mesh (record { heads = h.heads; points = rows; faces = faces.0 })) (h.body_line + h.vertices + count) faces.1) f

-- ---- the whole text

pub header_fault : (profile : ℕ) (text : List ℕ) (e : Refusal) → Refuses (header_of_in profile text) e → Refuses (ply_read_in profile text) e
unfolding ply_read_in
header_fault profile text refusal.Memory r = tt
header_fault profile text (refusal.Fault f) r = rw r refl

pub body_is : (profile : ℕ) (text : List ℕ) (h : Header) (left : List (List ℕ)) → header_of_in profile text ≡ Ok h → left ≡ drop (h.body_line - 1) (lines text) → body_of h (map tokens_of left) ≡ ply_read_in profile text
unfolding ply_read_in token_lines
body_is profile text h left e l =
    let at : map tokens_of left ≡ drop (h.body_line - 1) (map tokens_of (lines text)) = ap (map tokens_of) l ∙ sym (drop-map tokens_of (h.body_line - 1) (lines text)) in
    ap (body_of h) at ∙ sym (ap (λ (x : Result Header Fault). x >>= λ (y : Header). body_of y (drop (y.body_line - 1) (map tokens_of (lines text)))) e)
