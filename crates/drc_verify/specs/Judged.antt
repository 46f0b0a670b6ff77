-- The verdict on two geometries and the rows of a renumbering (this project's choice).
use Rattle.std.specs.Prelude.{◌≡◌, ℕ, ◌==◌, ◌&&◌, Bool, true, false, not, length, Option, None, Some}
use Rattle.mesh_model.specs.declared.geometries.Geometry.{Geometry}
use Rattle.mesh_model.specs.declared.geometries.Geometry.TheVariants.{Mesh, Cloud}
use Rattle.mesh_model.specs.Contents.{is_mesh}
use Rattle.mesh_model.specs.Parts.{MeshParts, CloudParts}
use Rattle.mesh_model.specs.Same.{Rows}
use Rattle.drc_verify.specs.declared.verdicts.Verdict.{Verdict}
use Rattle.drc_verify.specs.declared.verdicts.Verdict.TheVariants as verdict
use Rattle.drc_verify.specs.HeadTests.{same_heads}
use Rattle.drc_verify.specs.Firsts.{first_failing}
use Rattle.drc_verify.specs.RowTests.{face_is_right, point_is_right}

-- by the first row that is wrong
abbrev pub found_verdict : Option ℕ → Verdict
found_verdict None = verdict.Same
found_verdict (Some i) = verdict.Row i

-- by what is tested in turn: the heads, whether so many rows are as many as each geometry has, and the rows
abbrev pub verdict_by : Bool → Bool → ℕ → Option ℕ → Verdict
verdict_by false counts count wrong = verdict.Heads
verdict_by true false count wrong = verdict.Rows count
verdict_by true true count wrong = found_verdict wrong

-- the rows are as many as the faces or points of each
abbrev pub count_fits : ℕ → ℕ → ℕ → Bool
count_fits rows given read = rows == given && rows == read

-- on two meshes
abbrev pub mesh_verdict : MeshParts → MeshParts → Rows → Verdict
mesh_verdict m n rows =
    verdict_by (same_heads m.heads n.heads) (count_fits (length rows) (length m.faces) (length n.faces)) (length rows)
    (first_failing (face_is_right m n rows) (length rows))

-- on two clouds
abbrev pub cloud_verdict : CloudParts → CloudParts → Rows → Verdict
cloud_verdict m n rows =
    verdict_by (same_heads m.heads n.heads) (count_fits (length rows) (length m.points) (length n.points)) (length rows)
    (first_failing (point_is_right m n rows) (length rows))

-- on two geometries, with the rows of a map of a cloud or of a mesh
abbrev pub rows_verdict : Bool → Geometry → Geometry → Rows → Verdict
rows_verdict false (Mesh m) (Mesh n) rows = mesh_verdict m n rows
rows_verdict true (Mesh m) (Mesh n) rows = verdict.Heads
rows_verdict true (Cloud m) (Cloud n) rows = cloud_verdict m n rows
rows_verdict false (Cloud m) (Cloud n) rows = verdict.Heads
rows_verdict cloud (Mesh m) (Cloud n) rows = verdict.Heads
rows_verdict cloud (Cloud m) (Mesh n) rows = verdict.Heads

-- the rows and both geometries are all of meshes or all of clouds
abbrev pub AreOneKind : Bool → Geometry → Geometry → Type 0
AreOneKind cloud g n = (is_mesh g ≡ not cloud) × (is_mesh n ≡ not cloud)
