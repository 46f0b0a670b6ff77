-- How integers stand for floats (Draco Bitstream Specification 2.2, quantization data; the limits are this project's choice).
use Rattle.std.specs.Prelude.{ℕ, ◌==◌, ◌&&◌, Bool, true, length, Option, None, Some, nat_le}
use Rattle.attr_heads.specs.declared.quants.Quant.{Quant}
use Rattle.attr_heads.specs.declared.quants.TheConstants.{MAX_QUANT_BITS}

-- quantised integers may have so many bits
abbrev pub are_quant_bits : ℕ → Bool
are_quant_bits bits = nat_le 1 bits && nat_le bits MAX_QUANT_BITS

-- there is one minimum for each component
abbrev pub has_minima : ℕ → Option Quant → Bool
has_minima comps None = true
has_minima comps (Some q) = length q.min == comps

-- the bits of a quantisation are 1 to 30
abbrev pub has_bits : Option Quant → Bool
has_bits None = true
has_bits (Some q) = are_quant_bits q.bits
