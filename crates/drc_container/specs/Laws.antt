-- What holds of every stream that is read: what is read of a sequential one as a mesh or a cloud is one, and the heads are of the profile
-- (this project's choice).
use Rattle.drc_base.specs.Profile.{profile_numbered}
use Rattle.std.specs.Prelude.{◌≡◌, ℕ, IsTrue, List, Ok, None}
use Rattle.drc_bits.specs.Reading.{Reading}
use Rattle.attr_heads.specs.ProfileHeads.{has_heads}
use Rattle.mesh_model.specs.declared.geometries.Geometry.{Geometry}
use Rattle.mesh_model.specs.Contents.{heads_in}
use Rattle.mesh_model.specs.Parts.{mesh_fault, cloud_fault}
use Rattle.seq_section.specs.declared.reading.SeqRead.{SeqRead}
use Rattle.seq_section.specs.Indices.{indices_at}
use Rattle.drc_container.specs.declared.reading.attributes.Attributes.{Attributes}
use Rattle.drc_container.specs.Header.{cloud_points_at}
use Rattle.drc_container.specs.reading.Stream.{sequential_attributes_at, points_of, meaning_in}

-- indices and attributes that were read one behind the other pass each test of a mesh
abbrev pub MeshesPass : Type 0
MeshesPass = (k : ℕ) (c d e : Reading) (indices : SeqRead) (a : Attributes)
    → indices_at (profile_numbered k) c ≡ Ok (indices, d) → sequential_attributes_at (profile_numbered k) indices.points d ≡ Ok (a, e)
    → mesh_fault a.heads (points_of indices.points a) indices.faces ≡ None

-- a number of points and attributes that were read one behind the other pass each test of a cloud
abbrev pub CloudsPass : Type 0
CloudsPass = (k : ℕ) (c d e : Reading) (points : ℕ) (a : Attributes)
    → cloud_points_at (profile_numbered k) c ≡ Ok (points, d) → sequential_attributes_at (profile_numbered k) points d ≡ Ok (a, e)
    → cloud_fault a.heads (points_of points a) ≡ None

-- a profile has the heads of each geometry that a stream means in it
abbrev pub ProfilesHaveTheirHeads : Type 0
ProfilesHaveTheirHeads = (k : ℕ) (bytes : List ℕ) (g : Geometry) → meaning_in (profile_numbered k) bytes ≡ Ok g → IsTrue (has_heads k (heads_in g))
