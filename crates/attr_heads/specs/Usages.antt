-- What attributes are for (Draco Bitstream Specification 2.2, section "Attributes Decoder", attribute types).
use Rattle.std.specs.Prelude.{ℕ, Bool, nat_le}
use Rattle.attr_heads.specs.declared.usages.TheConstants.{GENERIC}

-- a byte is that of a usage
abbrev pub is_usage : ℕ → Bool
is_usage usage = nat_le usage GENERIC
