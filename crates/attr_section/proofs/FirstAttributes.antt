-- What attributes open with is what the first of them opens with.
use Rattle.std.proofs.Common.{◌≡◌, ℕ, zero, suc, ◌<◌, ◌≤◌, List, [], ◌∷◌, length, take, get_or, Option, Err, refl, ap, ◌∙◌, arith}
use Rattle.drc_base.specs.Profile.{Profile}
use Rattle.drc_base.specs.declared.faults.Fault.{Fault}
use Rattle.drc_bits.specs.Reading.{Reading}
use Rattle.attr_heads.specs.declared.heads.Head.{Head}
use Rattle.corner_table.specs.Ordered.{Ordered}
use Rattle.attr_section.specs.declared.values.Values.{Values}
use Rattle.attr_section.specs.Positions.{PositionsRead, with_attributes}
use Rattle.attr_section.specs.Attributes.{AreColumns}
use Rattle.attr_section.specs.Openings.{values_opening_at, attributes_opening_at}

-- a loop over attributes that hasn't read one yet: it stands at the first, and where it began
abbrev pub IsFresh : ℕ → Reading → ℕ → Reading → ℕ → Type 0
IsFresh k c total begin spent = (k ≡ 0) × (c ≡ begin) × (total ≡ spent)

-- the fault that they open with is the fault that the one at hand opens with
pub opens_here : (p : Profile) (w : Option Ordered) (found here : PositionsRead) (heads : List Head) (k : ℕ) (h : Head) (entries spent total : ℕ) (c begin : Reading) (f : Fault)
    → attributes_opening_at p w found heads entries spent begin ≡ Err f → IsFresh k c total begin spent → (k ≡ 0 → here ≡ found) → k < length heads → h ≡ get_or heads k h
    → values_opening_at p w here h entries total c ≡ Err f
opens_here p w found here [] k h entries spent total c begin f fails fresh first within at = absurd (omega (arith, within))
opens_here p w found here (x ∷ xs) (suc k) h entries spent total c begin f fails fresh first within at = absurd (omega (arith, fresh.0))
opens_here p w found here (x ∷ xs) zero h entries spent total c begin f fails fresh first within at =
    ap (λ ps. values_opening_at p w ps h entries total c) (first refl)
    ∙ ap (λ h. values_opening_at p w found h entries total c) at
    ∙ ap (λ n. values_opening_at p w found x entries n c) fresh.2
    ∙ ap (λ d. values_opening_at p w found x entries spent d) fresh.1
    ∙ fails

-- no attributes open with no fault
pub opens_none : (p : Profile) (w : Option Ordered) (found : PositionsRead) (heads : List Head) (k entries spent total : ℕ) (c begin : Reading) (f : Fault)
    → attributes_opening_at p w found heads entries spent begin ≡ Err f → IsFresh k c total begin spent → length heads ≤ k → ⊥
opens_none p w found [] k entries spent total c begin f fails fresh all = let e = fails in cc
opens_none p w found (x ∷ xs) k entries spent total c begin f fails fresh all = omega (arith, fresh.0, all)

-- where no attribute is read yet, what was read of the positions is what was read before
pub fresh_positions : (w : Option Ordered) (found : PositionsRead) (n k : ℕ) (heads : List Head) (values : List Values) → k ≡ 0 → AreColumns n (take k heads) values
    → with_attributes w found heads values ≡ found
fresh_positions w found n zero [] values first are = refl
fresh_positions w found n zero (h ∷ heads) [] first are = refl
fresh_positions w found n zero (h ∷ heads) (v ∷ values) first are = absurd are
fresh_positions w found n (suc k) heads values first are = absurd (omega (arith, first))
