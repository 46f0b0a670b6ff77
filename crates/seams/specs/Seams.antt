-- Seams of an attribute: the glued sides over which its values need not be one (Draco Bitstream Specification 2.2, section Edgebreaker
-- Connectivity, attribute seams).
use Rattle.std.specs.Prelude.{◌≡◌, ℕ, ◌*◌, ◌<◌, Bool, true, cond, List, map, length, get_or, Option, Some, None}
use Rattle.corner_table.specs.Sides.{Side, number, Gluing}
use Rattle.corner_table.specs.Fans.{corners_of}

-- the flag of a side in a list of flags that goes by the number 3f + k; what is no side of the surface is a seam
abbrev pub flag_at : List Bool → Side → Bool
flag_at flags x = get_or flags (number x) true

-- flags as such a list
abbrev pub flags_listed : ℕ → (Side → Bool) → List Bool
flags_listed faces flags = map flags (corners_of faces)

-- the surface cut at its seams: the pairs that are no seam
abbrev pub unseamed : (Side → Bool) → Gluing → Gluing
unseamed flags g x = cond (flags x) None (g x)

-- the same, where there may be no flags: then nothing is cut
abbrev pub unseamed_by : Option (List Bool) → Gluing → Gluing
unseamed_by None g = g
unseamed_by (Some flags) g = unseamed (flag_at flags) g

-- flags for all sides of a surface: one for each, alike on both sides of a pair, and a boundary is a seam
pub record AreFlags (faces : ℕ) (g : Gluing) (flags : List Bool) : Type 0 where
  pub each_side : length flags ≡ 3 * faces
  pub alike : (x y : Side) → g x ≡ Some y → flag_at flags x ≡ flag_at flags y
  pub boundary : (x : Side) → x.face < faces → g x ≡ None → flag_at flags x ≡ true

-- the same, where there may be no flags
abbrev pub MayBeFlags : ℕ → Gluing → Option (List Bool) → Type 0
MayBeFlags faces g None = Unit {0}
MayBeFlags faces g (Some flags) = AreFlags faces g flags
