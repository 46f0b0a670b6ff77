-- What holds of every meaning in each profile, whatever the bytes of the stream are: it is a geometry, whose text is read as it in the
-- same profile; and an Edgebreaker stream says a surface of its faces (this project's choice). A profile is named by its number k.
use Rattle.std.specs.Prelude.{◌≡◌, ◌<◌, ℕ, List, length, Ok, IfSome}
use Rattle.std.specs.List.{All, AllByRecursion}
use Rattle.drc_base.specs.Profile.{profile_numbered}
use Rattle.mesh_model.specs.Contents.{heads_in, faces_in}
use Rattle.mesh_model.specs.IsGeometry.{IsGeometry}
use Rattle.ply_mesh.specs.Fields.{HasFields}
use Rattle.ply_mesh.specs.Read.{ply_read_in}
use Rattle.ply_mesh.specs.Text.{ply_text}
use Rattle.corner_table.specs.Sides.{IsGluing}
use Rattle.corner_table.specs.Fans.{HasThreeFans}
use Rattle.drc_container.specs.reading.Meaning.{Meaning, Surface}
use Rattle.drc_container.specs.reading.Stream.{stream_in}

-- each item of a stream is a byte
abbrev pub AreBytes : List ℕ → Type 0
AreBytes bytes = All (λ b. b < 256) bytes

-- the rows and faces of a meaning fit its heads, within the limits
abbrev pub MeaningsAreGeometries : Type 0
MeaningsAreGeometries = (k : ℕ) (bytes : List ℕ) (d : Meaning) → stream_in (profile_numbered k) bytes ≡ Ok d → IsGeometry d.geometry

-- and its heads have fields of their widths
abbrev pub MeaningsHaveFields : Type 0
MeaningsHaveFields = (k : ℕ) (bytes : List ℕ) (d : Meaning) → AreBytes bytes → stream_in (profile_numbered k) bytes ≡ Ok d
    → AllByRecursion HasFields (heads_in d.geometry)

-- a surface of these faces: it has as many, each of its sides is glued to at most one side, which is of another face, and the three
-- corners of a face lie in three fans
pub record IsSurfaceOf (faces : List (List ℕ)) (s : Surface) : Type 0 where
  pub each_face : s.faces ≡ length faces
  pub gluing : IsGluing s.faces s.glued
  pub three_fans : HasThreeFans s.faces s.glued

-- where a meaning has a surface, it is one of its faces
abbrev pub MeaningsHaveSurfaces : Type 0
MeaningsHaveSurfaces = (k : ℕ) (bytes : List ℕ) (d : Meaning) → stream_in (profile_numbered k) bytes ≡ Ok d
    → IfSome d.surface (IsSurfaceOf (faces_in d.geometry))

-- what the text of a meaning means in the profile of the stream is the meaning's geometry
abbrev pub MeaningsAreTexts : Type 0
MeaningsAreTexts = (k : ℕ) (bytes : List ℕ) (d : Meaning) → AreBytes bytes → stream_in (profile_numbered k) bytes ≡ Ok d
    → ply_read_in k (ply_text d.geometry) ≡ Ok d.geometry
