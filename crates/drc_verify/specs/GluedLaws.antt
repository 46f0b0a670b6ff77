-- What the verdicts on rows and glued pairs say (this project's choice).
use Rattle.std.specs.Prelude.{◌≡◌, ◌↔◌, ℕ, ◌*◌, ◌<◌, Bool, true, Option, None, Some, Ok}
use Rattle.mesh_model.specs.declared.geometries.Geometry.{Geometry}
use Rattle.mesh_model.specs.declared.geometries.Geometry.TheVariants.{Mesh, Cloud}
use Rattle.mesh_model.specs.Same.{Rows, Same}
use Rattle.corner_table.specs.Sides.{Side, Gluing}
use Rattle.pairing.specs.Pairing.{pairing}
use Rattle.pairing.specs.CarriedPairs.{carried}
use Rattle.pairing.specs.Degenerate.{degenerate_fault}
use Rattle.drc_container.specs.reading.Meaning.{Surface, Meaning}
use Rattle.drc_verify.specs.declared.verdicts.Verdict.{Verdict}
use Rattle.drc_verify.specs.declared.verdicts.Verdict.TheVariants as verdict
use Rattle.drc_verify.specs.Judged.{AreOneKind}
use Rattle.drc_verify.specs.Checked.{has_position, surface_verdict}
use Rattle.drc_verify.specs.Laws.{VerdictSays, SaysSides}

-- pairs can be compared: the stream has a surface, and the text is a mesh that begins with a position and has no face with two corners
-- at one position
abbrev pub HavePairs : Geometry → Option Surface → Type 0
HavePairs (Mesh m) (Some s) = (has_position m.heads ≡ true) × (degenerate_fault m ≡ None)
HavePairs (Mesh m) None = ⊥
HavePairs (Cloud c) s = ⊥

-- each side of a surface has the same partner in a gluing, or none there either
abbrev pub IsGluedAs : Surface → Gluing → Type 0
IsGluedAs s h = (x : Side) → x.face < s.faces → s.glued x ≡ h x

-- the stream's surface is glued as the mesh is under the new numbers that the rows give to its faces
abbrev pub IsGluedByRows : Geometry → Option Surface → Rows → Type 0
IsGluedByRows (Mesh m) (Some s) rows = IsGluedAs s (carried (pairing m) rows)
IsGluedByRows (Mesh m) None rows = ⊥
IsGluedByRows (Cloud c) s rows = ⊥

-- side number i is the least one of the stream's surface whose partner, or lack of one, is another there
abbrev pub IsFirstOther : Geometry → Option Surface → Rows → ℕ → Type 0
IsFirstOther (Mesh m) (Some s) rows i = SaysSides (3 * s.faces) s.glued (carried (pairing m) rows) (Some i)
IsFirstOther (Mesh m) None rows i = ⊥
IsFirstOther (Cloud c) s rows i = ⊥

-- map, text and stream are all of meshes or all of clouds, and the stream's geometry is the text's by the rows
abbrev pub IsByRows : Bool → Geometry → Geometry → Rows → Type 0
IsByRows cloud g n rows = AreOneKind cloud g n × Same g n rows

-- a yes is given exactly where pairs can be compared, the rows are right, and the stream's surface is glued as they say
abbrev pub GluedYesIsSame : Type 0
GluedYesIsSame = (cloud : Bool) (rows : Rows) (g : Geometry) (n : Meaning)
    → (surface_verdict cloud rows g n ≡ Ok verdict.Same)
    ↔ (HavePairs g n.surface × (IsByRows cloud g n.geometry rows × IsGluedByRows g n.surface rows))

-- what a verdict with surfaces says; that all before it is right is said too
abbrev pub GluedSays : Bool → Geometry → Meaning → Rows → Verdict → Type 0
GluedSays cloud g n rows verdict.Same = IsByRows cloud g n.geometry rows × IsGluedByRows g n.surface rows
GluedSays cloud g n rows (verdict.Pair i) = IsByRows cloud g n.geometry rows × IsFirstOther g n.surface rows i
GluedSays cloud g n rows verdict.Heads = VerdictSays cloud g n.geometry rows verdict.Heads
GluedSays cloud g n rows (verdict.Rows r) = VerdictSays cloud g n.geometry rows (verdict.Rows r)
GluedSays cloud g n rows (verdict.Row i) = VerdictSays cloud g n.geometry rows (verdict.Row i)

-- each verdict says so, and is given only where pairs can be compared
abbrev pub GluedVerdictsAreTold : Type 0
GluedVerdictsAreTold = (cloud : Bool) (rows : Rows) (g : Geometry) (n : Meaning) (v : Verdict)
    → surface_verdict cloud rows g n ≡ Ok v → HavePairs g n.surface × GluedSays cloud g n rows v
