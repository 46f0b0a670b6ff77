-- The heads that a profile has (this project's choice).
use Rattle.std.specs.Prelude.{◌≡◌, ℕ, ◌||◌, Bool, List, None, is_none, nat_le}
use Rattle.std.specs.List.{list_all}
use Rattle.attr_heads.specs.declared.heads.Head.{Head}
use Rattle.attr_heads.specs.declared.octahedra.TheConstants.{OCTAHEDRAL_SINCE}

-- the profile of this number has the heads: it has octahedral attributes, or no head has a square
abbrev pub has_heads : ℕ → List Head → Bool
has_heads profile heads = nat_le OCTAHEDRAL_SINCE profile || list_all (λ h. is_none h.octa) heads

-- a head without a square
abbrev pub IsUnsquared : Head → Type 0
IsUnsquared h = h.octa ≡ None
