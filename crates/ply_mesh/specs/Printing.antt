-- A text that is put to a sink by way of a chunk (this project's choice).
use Rattle.std.specs.Prelude.{◌≡◌, ℕ, List, ◌++◌, length, take, Option, Result, Ok, Err}
use Rattle.std.specs.Io.KnownBytes.{Appends}
use Rattle.drc_base.specs.Sinks.{AppendsPrefix}
use Rattle.mesh_model.specs.declared.geometries.Geometry.{Geometry}
use Rattle.mesh_model.specs.declared.geometries.Geometry.TheVariants.{Mesh, Cloud}
use Rattle.ply_mesh.specs.Text.{points_header, faces_header, last_line, point_lines, face_lines}

-- the lines of the header
abbrev pub header_lines : Geometry → List (List (List ℕ))
header_lines (Mesh m) = points_header m.heads (length m.points) ++ faces_header (length m.faces) ++ last_line
header_lines (Cloud c) = points_header c.heads (length c.points) ++ last_line

-- the lines behind it
abbrev pub body_lines : Geometry → List (List (List ℕ))
body_lines (Mesh m) = point_lines m.points ++ face_lines m.faces
body_lines (Cloud c) = point_lines c.points

-- these bytes were appended, all but the rest
pub record AppendsAllBut (held held' : Option (List ℕ)) (bytes rest : List ℕ) : Type 0 where
  pub prefix : List ℕ
  pub split : bytes ≡ prefix ++ rest
  pub appended : Appends held held' prefix

-- these bytes were appended, all but what the chunk now holds; or, where the sink failed, a prefix of them
abbrev pub Prints : {E : Type 0} → Option (List ℕ) → Option (List ℕ) → List ℕ → List ℕ → Result ℕ E → Type 0
Prints held held' bytes chunk (Ok now) = AppendsAllBut held held' bytes (take now chunk)
Prints held held' bytes chunk (Err e) = AppendsPrefix held held' bytes
