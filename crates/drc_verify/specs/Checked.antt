-- What the check of a stream answers (this project's choice).
use Rattle.std.specs.Prelude.{◌≡◌, ℕ, ◌*◌, ◌==◌, Bool, true, false, List, [], ◌∷◌, length, Option, None, Some, Result, Ok, Err}
use Rattle.drc_base.specs.declared.faults.Fault.{Fault}
use Rattle.drc_base.specs.declared.kinds.Kind.TheVariants.{Choice, NoPosition}
use Rattle.drc_base.specs.Profile.{Profile, profile}
use Rattle.drc_base.specs.Steps.{◌>>=◌}
use Rattle.attr_heads.specs.declared.heads.Head.{Head}
use Rattle.mesh_model.specs.declared.geometries.Geometry.{Geometry}
use Rattle.mesh_model.specs.declared.geometries.Geometry.TheVariants.{Mesh, Cloud}
use Rattle.mesh_model.specs.Contents.{faces_in}
use Rattle.attr_heads.specs.FirstFault.{unless, value_unless}
use Rattle.mesh_model.specs.Parts.{MeshParts}
use Rattle.mesh_model.specs.Same.{Rows, Same}
use Rattle.corner_table.specs.Sides.{Gluing}
use Rattle.corner_table.specs.Table.{Table, gluing_of}
use Rattle.pairing.specs.Pairing.{pairing}
use Rattle.pairing.specs.CarriedPairs.{carried}
use Rattle.pairing.specs.Degenerate.{degenerate_fault}
use Rattle.ply_mesh.specs.Read.{ply_read_in}
use Rattle.drc_container.specs.reading.Meaning.{Surface, Meaning}
use Rattle.drc_container.specs.reading.Stream.{stream_in}
use Rattle.drc_verify.specs.declared.verdicts.Verdict.{Verdict}
use Rattle.drc_verify.specs.declared.verdicts.Verdict.TheVariants as verdict
use Rattle.drc_verify.specs.Judged.{rows_verdict, AreOneKind}
use Rattle.drc_verify.specs.SideTests.{first_other}

-- ---- with surfaces: what must be there

-- the surface of a stream, which none but Edgebreaker has
abbrev pub surface_asked : Option Surface → Result Surface Fault
surface_asked None = Err (record { kind = Choice; at = 0 })
surface_asked (Some s) = Ok s

-- the surface that a table is
abbrev pub table_surface : Table → Surface
table_surface t = record { faces = t.faces; glued = gluing_of t }

-- whether the first attribute is a position, usage 0
abbrev pub has_position : List Head → Bool
has_position [] = false
has_position (h ∷ heads) = h.usage == 0

-- the mesh of a text, whose first attribute is a position
abbrev pub mesh_asked : Geometry → Result MeshParts Fault
mesh_asked (Mesh m) = value_unless (unless (has_position m.heads) NoPosition 0) m
mesh_asked (Cloud c) = Err (record { kind = NoPosition; at = 0 })

-- the pairs of a mesh, none of whose faces has two corners at one position
abbrev pub pairs_asked : MeshParts → Result Gluing Fault
pairs_asked m = value_unless (degenerate_fault m) (pairing m)

-- the same of a text that means a geometry
abbrev pub text_pairs : Geometry → Result Gluing Fault
text_pairs g = mesh_asked g >>= λ m. pairs_asked m

-- ---- the verdict

-- where the rows are right, by the first side that has another partner
abbrev pub with_pairs : Verdict → Option ℕ → Verdict
with_pairs verdict.Same None = verdict.Same
with_pairs verdict.Same (Some s) = verdict.Pair s
with_pairs verdict.Heads other = verdict.Heads
with_pairs (verdict.Rows r) other = verdict.Rows r
with_pairs (verdict.Row i) other = verdict.Row i
with_pairs (verdict.Pair s) other = verdict.Pair s

-- on rows and pairs, of a mesh with these pairs, and of a stream with this surface: the pairs that are due are those of the mesh under the
-- new numbers that the rows give to the faces
abbrev pub glued_verdict : Bool → MeshParts → Geometry → Rows → Gluing → Surface → Verdict
glued_verdict cloud m n rows pairs s =
    with_pairs (rows_verdict cloud (Mesh m) n rows) (first_other (3 * s.faces) s.glued (carried pairs rows))

-- with surfaces, or what is missing
unfoldable pub surface_verdict : Bool → Rows → Geometry → Meaning → Result Verdict Fault
surface_verdict cloud rows g n = do
  s ← surface_asked n.surface
  m ← mesh_asked g
  pairs ← pairs_asked m
  Ok (glued_verdict cloud m n.geometry rows pairs s)

-- with surfaces or without
abbrev pub verdict_asked : Bool → Bool → Rows → Geometry → Meaning → Result Verdict Fault
verdict_asked false cloud rows g n = Ok (rows_verdict cloud g n.geometry rows)
verdict_asked true cloud rows g n = surface_verdict cloud rows g n

-- what is due of the rows of a map of a cloud or of a mesh, the geometry of a text, and a stream in a profile: the verdict on the geometry
-- that this means, or its first fault
abbrev pub read_in : Profile → Bool → Bool → Rows → Geometry → List ℕ → Result Verdict Fault
read_in p surface cloud rows g bytes = stream_in p bytes >>= λ n. verdict_asked surface cloud rows g n

-- the same in the profile of decoding
abbrev pub read_due : Bool → Bool → Rows → Geometry → List ℕ → Result Verdict Fault
read_due surface cloud rows g bytes = read_in profile surface cloud rows g bytes

-- what is due of a text in place of its geometry, which is read in the profile too: the verdict, or the first fault of both
unfoldable pub verdict_in : Profile → Bool → Bool → Rows → List ℕ → List ℕ → Result Verdict Fault
verdict_in p surface cloud rows text bytes = do
  g ← ply_read_in p.number text
  read_in p surface cloud rows g bytes

-- the same in the profile of decoding
abbrev pub verdict_due : Bool → Bool → Rows → List ℕ → List ℕ → Result Verdict Fault
verdict_due surface cloud rows text bytes = verdict_in profile surface cloud rows text bytes

-- ---- what a yes means

-- the glued pairs of a stream's surface are those of the mesh, carried by the rows
abbrev pub HasPairs : Geometry → Option Surface → Rows → Type 0
HasPairs (Mesh m) (Some s) rows = s.glued ≡ carried (pairing m) rows
HasPairs (Mesh m) None rows = ⊥
HasPairs (Cloud c) s rows = ⊥

-- map, text and stream are all of meshes or all of clouds, and the stream's geometry is the text's by the rows; with surfaces the glued
-- pairs are besides those of the text's mesh
abbrev pub IsSame : Bool → Bool → Rows → Geometry → Meaning → Type 0
IsSame false cloud rows g n = AreOneKind cloud g n.geometry × Same g n.geometry rows
IsSame true cloud rows g n = (AreOneKind cloud g n.geometry × Same g n.geometry rows) × HasPairs g n.surface rows

-- a stream's surface has the faces of its mesh
pub record HasFaces (n : Meaning) : Type 0 where
  pub faces : (s : Surface) → n.surface ≡ Some s → length (faces_in n.geometry) ≡ s.faces

abbrev pub SurfaceHasFaces : Type 0
SurfaceHasFaces = (p : Profile) (bytes : List ℕ) (n : Meaning) → stream_in p bytes ≡ Ok n → HasFaces n
