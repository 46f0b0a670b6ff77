-- The laws of meanings at the number of profile 2 are those of what decoding means where no profile is named.
use Rattle.std.proofs.Common.{◌≡◌, ℕ, List, Ok}
use Rattle.std.specs.Prelude.{IfSome}
use Rattle.std.specs.List.{AllByRecursion}
use Rattle.drc_base.specs.declared.profiles.TheConstants.{PROFILE_TWO}
use Rattle.mesh_model.specs.Contents.{heads_in, faces_in}
use Rattle.mesh_model.specs.IsGeometry.{IsGeometry}
use Rattle.ply_mesh.specs.Fields.{HasFields}
use Rattle.ply_mesh.specs.Read.{ply_read}
use Rattle.ply_mesh.specs.Text.{ply_text}
use Rattle.drc_container.specs.reading.Meaning.{Meaning}
use Rattle.drc_container.specs.reading.Stream.{stream}
use Rattle.laws_stream.specs.Meanings.{AreBytes, IsSurfaceOf, MeaningsAreGeometries, MeaningsHaveFields, MeaningsHaveSurfaces, MeaningsAreTexts}

geometries : MeaningsAreGeometries → (bytes : List ℕ) (d : Meaning) → stream bytes ≡ Ok d → IsGeometry d.geometry
geometries law = law PROFILE_TWO.number

fields : MeaningsHaveFields → (bytes : List ℕ) (d : Meaning) → AreBytes bytes → stream bytes ≡ Ok d
    → AllByRecursion HasFields (heads_in d.geometry)
fields law = law PROFILE_TWO.number

surfaces : MeaningsHaveSurfaces → (bytes : List ℕ) (d : Meaning) → stream bytes ≡ Ok d
    → IfSome d.surface (IsSurfaceOf (faces_in d.geometry))
surfaces law = law PROFILE_TWO.number

texts : MeaningsAreTexts → (bytes : List ℕ) (d : Meaning) → AreBytes bytes → stream bytes ≡ Ok d
    → ply_read (ply_text d.geometry) ≡ Ok d.geometry
texts law = law PROFILE_TWO.number
