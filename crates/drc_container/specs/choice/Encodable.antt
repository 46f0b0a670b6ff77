-- Meshes that no choice which fits them refuses (this project's choice): nothing in them is at fault, and no limit can be passed, whatever
-- their surface is like, since there are no more vertices, and no more entries of an attribute, than corners of faces.
use Rattle.std.specs.Prelude.{ℕ, ◌≡◌, ◌≢◌, ◌<◌, ◌≤◌, ◌*◌, ℤ, ◌≤ℤ◌, true, List, length, take, None, All}
use Rattle.drc_base.specs.declared.limits.TheConstants.{MAX_POINTS, MAX_VALUES}
use Rattle.mesh_model.specs.declared.geometries.Geometry.TheVariants.{Mesh}
use Rattle.attr_heads.specs.Head.{width_of}
use Rattle.mesh_model.specs.Parts.{MeshParts, IsMesh, corner}
use Rattle.pairing.specs.Pairing.{first_width}
use Rattle.predict.specs.Wrap.{Range, CanWrap}
use Rattle.drc_container.specs.declared.choice.choices.Choice.{Choice}
use Rattle.drc_container.specs.choice.Refused.{begins_with_position, choice_fault, refused}

-- the position of corner k, modulo 3, of face f
abbrev pub position_at : MeshParts → ℕ → ℕ → List ℤ
position_at m f k = take (first_width m.heads) (corner m f k)

-- no two corners of face f have one position
abbrev pub IsProperFace : MeshParts → ℕ → Type 0
IsProperFace m f =
    (position_at m f 0 ≢ position_at m f 1) × (position_at m f 1 ≢ position_at m f 2) × (position_at m f 2 ≢ position_at m f 0)

-- an integer lies in a range
abbrev pub IsIn : Range → ℤ → Type 0
IsIn r v = (r.low ≤ℤ v) × (v ≤ℤ r.high)

-- the first attribute is a position; there is a face, and none is degenerate; the corners are no more than points may be, and their values
-- no more than coded values may be; and all integers lie in one range in which corrections wrap
pub record IsEncodable (m : MeshParts) : Type 0 where
  pub mesh : IsMesh m
  pub position : begins_with_position m.heads ≡ true
  pub some : 0 < length m.faces
  pub proper : (f : ℕ) → f < length m.faces → IsProperFace m f
  pub few_corners : 3 * length m.faces ≤ MAX_POINTS
  pub few_values : 3 * length m.faces * width_of m.heads ≤ MAX_VALUES
  pub range : Range
  pub can_wrap : CanWrap range
  pub near : All (λ row. All (IsIn range) row) m.points

-- such a mesh is refused by no choice that fits
abbrev pub EncodableIsEncoded : Type 0
EncodableIsEncoded =
    (m : MeshParts) (choice : Choice) → IsEncodable m → choice_fault (Mesh m) choice ≡ None → refused (Mesh m) choice ≡ None
