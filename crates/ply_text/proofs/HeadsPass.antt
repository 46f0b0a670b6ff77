-- Heads that fit, and have their quantisations and squares, pass their tests.
use Rattle.std.proofs.Common.{◌≡◌, ℕ, ◌+◌, ◌≤◌, true, List, [], ◌∷◌, length, All, Option, Some, None, refl, arith}
use Rattle.std.specs.Prelude.{IfSome}
use Rattle.std.specs.List.{AllByRecursion}
use Rattle.std.proofs.lemmas.Bool.{eq-eqb, le-leb, and_from}
use Rattle.std.proofs.lemmas.List.Elements.{recursion_from_All}
use Rattle.drc_base.specs.declared.kinds.Kind.TheVariants.{NoAttribute, AttrLimit, AttrType, DataType, Components, QuantBits}
use Rattle.drc_base.specs.declared.limits.TheConstants.{MAX_ATTRIBUTES}
use Rattle.attr_heads.specs.declared.heads.Head.{Head}
use Rattle.attr_heads.specs.declared.quants.Quant.{Quant}
use Rattle.attr_heads.specs.DataTypes.{is_type, is_integer}
use Rattle.attr_heads.specs.Quants.{has_minima, has_bits}
use Rattle.attr_heads.specs.Octahedra.{has_coordinates, has_square_bits}
use Rattle.attr_heads.specs.declared.octahedra.TheConstants.{OCTAHEDRAL_INTEGERS}
use Rattle.attr_heads.specs.Head.{has_comps, head_fault, each_fault, heads_fault}
use Rattle.attr_heads.proofs.FirstFaults.{unless-true, first_fault-cons}
use Rattle.attr_heads.proofs.Types.{type_passes}
use Rattle.ply_text.specs.Header.{is_head_typed}
use Rattle.ply_text.specs.IsHeader.{QuantFits, SquareFits, HeadFits}

-- a type of integers is accepted
pub integer_accepted : (dtype : ℕ) → is_integer dtype ≡ true → is_type dtype ≡ true
integer_accepted dtype is = type_passes dtype None None is

-- one to four components are accepted
pub four_accepted : (comps : ℕ) → (1 ≤ comps) × (comps ≤ 4) → has_comps comps ≡ true
four_accepted comps h = and_from _ _ (le-leb 1 comps h.0) (le-leb comps 8 (omega (arith, h.1)))

minima_right : (q : Option Quant) (comps : ℕ) → IfSome q (QuantFits comps) → has_minima comps q ≡ true
minima_right None comps f = refl
minima_right (Some q) comps f = eq-eqb (length q.min) comps f.minima

bits_right : (q : Option Quant) (comps : ℕ) → IfSome q (QuantFits comps) → has_bits q ≡ true
bits_right None comps f = refl
bits_right (Some q) comps f = f.bits

coordinates_right : (o : Option ℕ) (comps : ℕ) → IfSome o (SquareFits comps) → has_coordinates comps o ≡ true
coordinates_right None comps f = refl
coordinates_right (Some bits) comps f = eq-eqb comps OCTAHEDRAL_INTEGERS f.coordinates

square_right : (o : Option ℕ) (comps : ℕ) → IfSome o (SquareFits comps) → has_square_bits o ≡ true
square_right None comps f = refl
square_right (Some bits) comps f = f.bits_fit

passes : (k : ℕ) (h : Head) → HeadFits h → is_head_typed h ≡ true → head_fault k h ≡ None
passes k h fits typed =
    first_fault-cons _ _ (unless-true _ AttrType k fits.usage)
    (first_fault-cons _ _ (unless-true _ DataType k typed)
    (first_fault-cons _ _ (unless-true _ Components k (and_from _ _ fits.comps (and_from _ _ (minima_right h.quant h.comps fits.quant) (coordinates_right h.octa h.comps fits.octa))))
    (first_fault-cons _ [] (unless-true _ QuantBits k (and_from _ _ (bits_right h.quant h.comps fits.quant) (square_right h.octa h.comps fits.octa))) refl)))

each_passes : (k : ℕ) (hs : List Head) → AllByRecursion (λ h. HeadFits h × (is_head_typed h ≡ true)) hs → each_fault k hs ≡ None
each_passes k [] all = refl
each_passes k (h ∷ hs) all = first_fault-cons _ _ (passes k h all.0.0 all.0.1) (each_passes (k + 1) hs all.1)

pub heads_pass : (heads : List Head) → 1 ≤ length heads → length heads ≤ 16 → All HeadFits heads → All (λ h. is_head_typed h ≡ true) heads → heads_fault heads ≡ None
unfolding heads_fault
heads_pass heads some few fit typed =
    let all : All (λ x. HeadFits x × (is_head_typed x ≡ true)) heads = λ k d lt. (fit k d lt, typed k d lt) in
    first_fault-cons _ _ (unless-true _ NoAttribute _ (le-leb 1 (length heads) some))
    (first_fault-cons _ _ (unless-true _ AttrLimit _ (le-leb (length heads) MAX_ATTRIBUTES few))
    (first_fault-cons _ [] (each_passes 0 heads (recursion_from_All (λ x. HeadFits x × (is_head_typed x ≡ true)) heads all)) refl))
