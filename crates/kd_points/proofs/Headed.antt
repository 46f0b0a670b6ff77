-- Heads that were read have no fault.
use Rattle.std.proofs.Common.{◌≡◌, ℕ, ◌+◌, ◌≤◌, IsTrue, Bool, true, List, [], ◌∷◌, length, Option, None, Some, Ok, refl, subst, arith}
use Rattle.std.specs.Prelude.{◌&&◌, nat_lt, nat_le}
use Rattle.std.specs.List.{All}
use Rattle.std.proofs.lemmas.Bool.{leb-true, ltb-true, le-leb, eq-eqb, and_from}
use Rattle.std.proofs.lemmas.List.Elements.{All-head, All-tail}
use Rattle.drc_base.specs.declared.kinds.Kind.TheVariants as kind
use Rattle.drc_base.specs.declared.limits.TheConstants.{MAX_ATTRIBUTES, MAX_COMPONENTS}
use Rattle.drc_base.specs.Steps.{◌>>=◌}
use Rattle.drc_base.proofs.Parted.{given, parts, either}
use Rattle.drc_bits.specs.Reading.{Reading, must, many_at}
use Rattle.drc_bits.specs.Numbers.{number_at}
use Rattle.drc_bits.specs.Varint.{var32_at}
use Rattle.drc_bits.proofs.Results.{Ok-injective}
use Rattle.drc_bits.proofs.Parted.{must-passed, many-passed}
use Rattle.attr_heads.specs.declared.heads.Head.{Head}
use Rattle.attr_heads.specs.declared.quants.Quant.{Quant}
use Rattle.attr_heads.specs.Quants.{has_minima, has_bits}
use Rattle.attr_heads.specs.Octahedra.{has_square_bits}
use Rattle.attr_heads.specs.Head.{has_type, head_fault, each_fault, heads_fault}
use Rattle.attr_heads.proofs.FirstFaults.{unless-true, first_fault-cons}
use Rattle.attr_heads.proofs.Passing.{heads_say}
use Rattle.attr_heads.specs.DataTypes.{is_type, is_float}
use Rattle.attr_heads.specs.Quants.{are_quant_bits}
use Rattle.attr_heads.specs.Head.{has_comps}
use Rattle.attr_heads.specs.HeadItems.{head_at, quant_bits_at}
use Rattle.attr_heads.proofs.Types.{integer_type}
use Rattle.attr_heads.proofs.HeadsBack.{head_passed}
use Rattle.kd_points.specs.Header.{kd_quant_at, kd_quant_of_at, kd_head_at, kd_heads_at, kd_attribute_count_at}

-- a quantisation that fits a type and so many components
record QuantFits (dtype comps : ℕ) (q : Option Quant) : Type 0 where
  type_fits : has_type dtype q None ≡ true
  minima : has_minima comps q ≡ true
  bits : has_bits q ≡ true

quant-passed : (dtype comps : ℕ) → is_type dtype ≡ true → (c : Reading) (y : Option Quant × Reading) → kd_quant_of_at dtype comps c ≡ Ok y → QuantFits dtype comps y.0
unfolding kd_quant_of_at kd_quant_at
quant-passed dtype comps typed c y is =
    either (QuantFits dtype comps y.0) (is_float dtype) (kd_quant_at comps c >>= λ q. Ok (Some q.0, q.1)) (Ok (None, c)) y is
    (λ float read.
    let p = parts (kd_quant_at comps c) (λ q. Ok (Some q.0, q.1)) y read in
    let q = parts (quant_bits_at c) _ p.0 p.1 in
    let r = parts (number_at 4 q.0.1) _ p.0 q.2 in
    let s = parts (many_at (number_at 4) comps r.0.1) _ p.0 r.2 in
    let bits = must-passed kind.QuantBits are_quant_bits (number_at 1) c q.0 q.1 in
    let minima = (many-passed (λ _. Unit {0}) (number_at 4) (λ _ _ _. tt) comps r.0.1 s.0 s.1).0 in
    let quant : Quant = record { bits = q.0.0; range = r.0.0; min = s.0.0 } in
    let found : QuantFits dtype comps (Some quant) =
    record { type_fits = float; minima = eq-eqb (length s.0.0) comps minima; bits = bits.0 } in
    given (λ (z : Option Quant × Reading). QuantFits dtype comps z.0) (Some p.0.0, p.0.1) y p.2
    (given (λ (z : Quant × Reading). QuantFits dtype comps (Some z.0)) (quant, s.0.1) p.0 s.2 found))
    (λ integer read.
    subst (λ (z : Option Quant × Reading). QuantFits dtype comps z.0) (Ok-injective read)
    (record { type_fits = integer_type dtype typed integer; minima = refl; bits = refl }))

-- a head without a fault, at whatever place it stands
abbrev IsHead : Head → Type 0
IsHead h = (k : ℕ) → head_fault k h ≡ None

head-passed : (c : Reading) (y : Head × Reading) → kd_head_at c ≡ Ok y → IsHead y.0
unfolding kd_head_at
head-passed c y is =
    let p = parts (head_at c) _ y is in
    let q = parts (kd_quant_of_at p.0.0.dtype p.0.0.comps p.0.1) _ y p.2 in
    let says = head_passed c p.0 p.1 in
    let fits = quant-passed p.0.0.dtype p.0.0.comps says.dtype p.0.1 q.0 q.1 in
    let comps = and_from (nat_le 1 p.0.0.comps) (nat_le p.0.0.comps MAX_COMPONENTS) (le-leb 1 p.0.0.comps says.some) (le-leb p.0.0.comps MAX_COMPONENTS says.few) in
    let all = and_from (has_comps p.0.0.comps) (has_minima p.0.0.comps q.0.0 && true) comps (and_from (has_minima p.0.0.comps q.0.0) true fits.minima refl) in
    let bits = and_from (has_bits q.0.0) true fits.bits refl in
    given (λ (z : Head × Reading). IsHead z.0) (record p.0.0 { quant = q.0.0; octa = None }, q.0.1) y q.2 (λ k.
    first_fault-cons _ _ (unless-true _ kind.AttrType k (le-leb p.0.0.usage 4 says.usage))
    (first_fault-cons _ _ (unless-true _ kind.DataType k fits.type_fits)
    (first_fault-cons _ _ (unless-true _ kind.Components k all)
    (first_fault-cons _ [] (unless-true _ kind.QuantBits k bits) refl))))

each-none : (k : ℕ) (heads : List Head) → All IsHead heads → each_fault k heads ≡ None
each-none k [] are = refl
each-none k (h ∷ heads) are = first_fault-cons (head_fault k h) _ (All-head IsHead h heads are k) (each-none (k + 1) heads (All-tail IsHead h heads are))

-- heads that were read pass their tests
pub heads_passed : (c : Reading) (y : List Head × Reading) → kd_heads_at c ≡ Ok y → heads_fault y.0 ≡ None
unfolding kd_heads_at heads_fault kd_attribute_count_at
heads_passed c y is =
    let few : ℕ → Bool = λ n. nat_le n MAX_ATTRIBUTES in
    let some : ℕ → Bool = λ n. nat_lt 0 n in
    let p = parts (kd_attribute_count_at c) _ y is in
    let most = must-passed kind.AttrLimit few (λ c. must kind.NoAttribute some var32_at c) c p.0 p.1 in
    let least = must-passed kind.NoAttribute some var32_at c p.0 most.1 in
    let heads = many-passed IsHead kd_head_at head-passed p.0.0 p.0.1 y p.2 in
    let some_heads : 1 ≤ length y.0 = omega (arith, heads.0, ltb-true 0 p.0.0 least.0) in
    let few_heads : length y.0 ≤ MAX_ATTRIBUTES = omega (arith, heads.0, leb-true p.0.0 MAX_ATTRIBUTES most.0) in
    first_fault-cons _ _ (unless-true _ kind.NoAttribute (length y.0) (le-leb 1 (length y.0) some_heads))
    (first_fault-cons _ _ (unless-true _ kind.AttrLimit (length y.0) (le-leb (length y.0) MAX_ATTRIBUTES few_heads))
    (first_fault-cons _ [] (each-none 0 y.0 heads.1) refl))

-- heads that pass are few
pub heads_few : (heads : List Head) → heads_fault heads ≡ None → length heads ≤ 16
heads_few heads pass = (heads_say heads pass).few

-- a head of heads that pass has at most eight components
pub comps_few : (heads : List Head) → heads_fault heads ≡ None → All (λ h. h.comps ≤ 8) heads
comps_few heads pass = λ k d inside. ((heads_say heads pass).each k d inside).few

-- where heads that pass have a square, its coordinates have as many bits as they may
pub squares_pass : (heads : List Head) → heads_fault heads ≡ None → All (λ h. IsTrue (has_square_bits h.octa)) heads
squares_pass heads pass = λ k d inside. ((heads_say heads pass).each k d inside).square
