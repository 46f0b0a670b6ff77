-- The heads that a profile has, by what holds of them before it has octahedral attributes.
use Rattle.std.proofs.Common.{◌≡◌, ℕ, Bool, true, false, List, [], ◌∷◌, IsTrue, refl, ap}
use Rattle.std.specs.Prelude.{◌||◌, is_none, nat_le}
use Rattle.std.specs.List.{All, list_all}
use Rattle.std.proofs.lemmas.Bool.{and_from}
use Rattle.std.proofs.lemmas.List.Elements.{All-head, All-tail}
use Rattle.attr_heads.specs.declared.heads.Head.{Head}
use Rattle.attr_heads.specs.declared.octahedra.TheConstants.{OCTAHEDRAL_SINCE}
use Rattle.attr_heads.specs.ProfileHeads.{has_heads, IsUnsquared}

none-squared : (heads : List Head) → All IsUnsquared heads → list_all (λ h. is_none h.octa) heads ≡ true
none-squared [] are = refl
none-squared (h ∷ heads) are =
    and_from (is_none h.octa) (list_all (λ h. is_none h.octa) heads) (ap is_none (All-head IsUnsquared h heads are)) (none-squared heads (All-tail IsUnsquared h heads are))

had-if : (b : Bool) (heads : List Head) → (b ≡ false → All IsUnsquared heads) → (b || list_all (λ h. is_none h.octa) heads) ≡ true
had-if true heads old = refl
had-if false heads old = none-squared heads (old refl)

-- a profile has heads that have no square wherever it has no octahedral attributes
pub heads-had : (k : ℕ) (heads : List Head) → (nat_le OCTAHEDRAL_SINCE k ≡ false → All IsUnsquared heads) → IsTrue (has_heads k heads)
heads-had k heads old = had-if (nat_le OCTAHEDRAL_SINCE k) heads old
