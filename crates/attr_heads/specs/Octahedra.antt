-- The squares of octahedral attributes: a unit vector stands for a point of an octahedron, which is unfolded into a square (Draco Bitstream
-- Specification 2.2, section "Prediction Octahedron Decoder"; the limits are this project's choice).
use Rattle.std.specs.Prelude.{ℕ, ◌-◌, ◌^◌, ◌==◌, ◌&&◌, Bool, true, pos, Option, None, Some, nat_le}
use Rattle.attr_heads.specs.declared.bounds.Bounds.{Bounds}
use Rattle.attr_heads.specs.declared.octahedra.TheConstants.{MIN_OCTAHEDRAL_BITS, MAX_OCTAHEDRAL_BITS, OCTAHEDRAL_INTEGERS}

-- the coordinates of a square may have so many bits
abbrev pub are_octahedral_bits : ℕ → Bool
are_octahedral_bits bits = nat_le MIN_OCTAHEDRAL_BITS bits && nat_le bits MAX_OCTAHEDRAL_BITS

-- where there is a square, its coordinates may have so many bits
abbrev pub has_square_bits : Option ℕ → Bool
has_square_bits None = true
has_square_bits (Some bits) = are_octahedral_bits bits

-- where there is a square, a point has its two coordinates
abbrev pub has_coordinates : ℕ → Option ℕ → Bool
has_coordinates comps None = true
has_coordinates comps (Some bits) = comps == OCTAHEDRAL_INTEGERS

-- the coordinates in a square of so many bits: an even number is the greatest, so that there is a centre
abbrev pub square_bounds : ℕ → Bounds
square_bounds bits = record { least = pos 0; greatest = pos (2 ^ bits - 2) }
