-- What a PLY text means: a definition on its lines and each line's tokens (PLY 1.0, in this project's
-- profile).
use Rattle.std.specs.Prelude.{ℕ, ◌+◌, ◌-◌, List, drop, Option, None, Some, unwrap_or, Result, Ok, ℤ}
use Rattle.drc_base.specs.declared.faults.Fault.{Fault}
use Rattle.drc_base.specs.Steps.{◌>>=◌}
use Rattle.drc_base.specs.declared.profiles.TheConstants.{PROFILE_TWO}
use Rattle.attr_heads.specs.declared.heads.Head.{Head}
use Rattle.attr_heads.specs.Head.{row_bounds}
use Rattle.mesh_model.specs.declared.geometries.Geometry.{Geometry}
use Rattle.mesh_model.specs.declared.geometries.Geometry.TheVariants.{Mesh, Cloud}
use Rattle.ply_text.specs.declared.headers.Header.{Header}
use Rattle.ply_text.specs.Tokens.{token_lines}
use Rattle.ply_text.specs.Header.{header_of_in}
use Rattle.ply_mesh.specs.Body.{row_read, face_of, items_from, ends}

-- the geometry of a header, points and faces: without an element of faces it is a cloud
abbrev pub geometry_of_rows : List Head → List (List ℤ) → Option (List (List ℕ)) → Geometry
geometry_of_rows heads points None = Cloud (record { heads = heads; points = points })
geometry_of_rows heads points (Some faces) = Mesh (record { heads = heads; points = points; faces = faces })

-- the faces, where there is an element of them, and the lines after them
abbrev pub face_items_from : Header → ℕ → List (List (List ℕ)) → Option ℕ → Result (Option (List (List ℕ)) × List (List (List ℕ))) Fault
face_items_from h at lines None = Ok (None, lines)
face_items_from h at lines (Some count) = do
  faces ← items_from (face_of (unwrap_or h.list (0, 0)) h.vertices) count at lines
  Ok (Some faces.0, faces.1)

-- the lines of a body: the points, then the faces, then nothing
unfoldable pub body_of : Header → List (List (List ℕ)) → Result Geometry Fault
body_of h lines = do
  points ← items_from (row_read (row_bounds h.heads)) h.vertices h.body_line lines
  faces ← face_items_from h (h.body_line + h.vertices) points.1 h.faces
  ends (geometry_of_rows h.heads points.0 faces.0) (h.body_line + h.vertices + unwrap_or h.faces 0) faces.1

-- the geometry of a PLY text in the profile of this number, or its first fault
unfoldable pub ply_read_in : ℕ → List ℕ → Result Geometry Fault
ply_read_in profile text = do
  h ← header_of_in profile text
  body_of h (drop (h.body_line - 1) (token_lines text))

-- the same in the profile for which no other one is chosen
abbrev pub ply_read : List ℕ → Result Geometry Fault
ply_read text = ply_read_in PROFILE_TWO.number text
