-- What the verdicts on rows say (this project's choice).
use Rattle.std.specs.Prelude.{◌≡◌, ◌↔◌, ℕ, ◌<◌, Bool, length, Option, None, Some}
use Rattle.mesh_model.specs.declared.geometries.Geometry.{Geometry}
use Rattle.mesh_model.specs.declared.geometries.Geometry.TheVariants.{Mesh, Cloud}
use Rattle.mesh_model.specs.Same.{Rows, Same}
use Rattle.mesh_model.specs.SameLaws.{count_of}
use Rattle.mesh_model.specs.Contents.{heads_in}
use Rattle.drc_verify.specs.declared.verdicts.Verdict.{Verdict}
use Rattle.drc_verify.specs.declared.verdicts.Verdict.TheVariants as verdict
use Rattle.corner_table.specs.Sides.{side_at, Gluing}
use Rattle.drc_verify.specs.RowTests.{FaceIsRight, PointIsRight}
use Rattle.drc_verify.specs.SideTests.{first_other}
use Rattle.drc_verify.specs.Judged.{rows_verdict, AreOneKind}

-- a yes is given exactly where all is of one kind, and the one geometry is the other by the rows
abbrev pub YesIsSame : Type 0
YesIsSame = (cloud : Bool) (g n : Geometry) (rows : Rows)
    → (rows_verdict cloud g n rows ≡ verdict.Same) ↔ (AreOneKind cloud g n × Same g n rows)

-- row i is right, where both are meshes or both are clouds
abbrev pub RowIsRight : Geometry → Geometry → Rows → ℕ → Type 0
RowIsRight (Mesh m) (Mesh n) rows i = FaceIsRight m n rows i
RowIsRight (Cloud m) (Cloud n) rows i = PointIsRight m n rows i
RowIsRight (Mesh m) (Cloud n) rows i = ⊥
RowIsRight (Cloud m) (Mesh n) rows i = ⊥

-- the rows are of geometries of one kind, which have the same heads
abbrev pub HaveHeads : Bool → Geometry → Geometry → Type 0
HaveHeads cloud g n = AreOneKind cloud g n × (heads_in g ≡ heads_in n)

-- the rows are as many as each geometry has faces or points
abbrev pub HaveCounts : Geometry → Geometry → Rows → Type 0
HaveCounts g n rows = (length rows ≡ count_of g) × (length rows ≡ count_of n)

-- what a verdict says; that all before it is right is said too
abbrev pub VerdictSays : Bool → Geometry → Geometry → Rows → Verdict → Type 0
VerdictSays cloud g n rows verdict.Same = AreOneKind cloud g n × Same g n rows
VerdictSays cloud g n rows verdict.Heads = HaveHeads cloud g n → ⊥
VerdictSays cloud g n rows (verdict.Rows r) = HaveHeads cloud g n × (HaveCounts g n rows → ⊥) × (r ≡ length rows)
VerdictSays cloud g n rows (verdict.Row i) =
    HaveHeads cloud g n × HaveCounts g n rows × (i < length rows) × (RowIsRight g n rows i → ⊥)
    × ((j : ℕ) → j < i → RowIsRight g n rows j)
VerdictSays cloud g n rows (verdict.Pair s) = ⊥

-- each verdict says so
abbrev pub VerdictsAreTold : Type 0
VerdictsAreTold = (cloud : Bool) (g n : Geometry) (rows : Rows) → VerdictSays cloud g n rows (rows_verdict cloud g n rows)

-- what is said of the first of so many sides that isn't glued alike in two surfaces
abbrev pub SaysSides : ℕ → Gluing → Gluing → Option ℕ → Type 0
SaysSides sides g h None = (s : ℕ) → s < sides → g (side_at s) ≡ h (side_at s)
SaysSides sides g h (Some s) = (s < sides) × (g (side_at s) ≡ h (side_at s) → ⊥) × ((j : ℕ) → j < s → g (side_at j) ≡ h (side_at j))

-- it is the least such side
abbrev pub SidesAreTold : Type 0
SidesAreTold = (sides : ℕ) (g h : Gluing) → SaysSides sides g h (first_other sides g h)
