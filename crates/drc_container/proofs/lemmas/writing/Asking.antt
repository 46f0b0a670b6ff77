-- What is asked of the prediction of an attribute is what its values may have.
use Rattle.std.proofs.Common.{◌≡◌, ℕ, true, false, Bool, leb, ◌&&◌, ℤ, length, Option, None, Some, refl, ◌∙◌, ap, arith, ◌==◌}
use Rattle.std.specs.Prelude.{if◌then◌else◌}
use Rattle.std.specs.Ordering.{int_eq}
use Rattle.std.proofs.lemmas.Bool.{leb-true, and_parts, false≢true}
use Rattle.attr_heads.specs.declared.heads.Head.{Head}
use Rattle.attr_heads.specs.declared.quants.Quant.{Quant}
use Rattle.attr_heads.specs.declared.octahedra.TheConstants.{OCTAHEDRAL_INTEGERS}
use Rattle.attr_heads.specs.Quants.{has_minima, has_bits}
use Rattle.attr_heads.specs.Octahedra.{has_coordinates, has_square_bits}
use Rattle.attr_heads.specs.Head.{has_type}
use Rattle.attr_heads.proofs.Passing.{HeadSays}
use Rattle.attr_heads.proofs.Types.{integer_no_float}
use Rattle.corner_table.specs.Ordered.{Ordered}
use Rattle.predict.specs.declared.schemes.Prediction.{Prediction}
use Rattle.predict.specs.declared.schemes.Prediction.TheVariants as prediction
use Rattle.predict.specs.Schemes.{facts, code_of}
use Rattle.predict.specs.Surfaces.{CanStand}
use Rattle.predict.specs.Wrap.{CanWrap}
use Rattle.attr_section.specs.declared.values.Values.{Values}
use Rattle.attr_section.specs.Heads.{HasSquareType}
use Rattle.attr_section.specs.WrittenParts.{range_of}
use Rattle.attr_section.specs.WrittenSquares.{square_code}
use Rattle.attr_section.specs.WrittenTexture.{texture_code}
use Rattle.attr_section.specs.Written.{HasQuant, HasEnd, MayHavePoints, plain_code, CanAsk}
use Rattle.drc_container.specs.declared.choice.predicts.Predict.{Predict}
use Rattle.drc_container.specs.declared.choice.predicts.Predict.TheVariants.{Plain, Shape}
use Rattle.drc_container.specs.choice.Predicts.{plain_of, takes_texture, square_of, has_texture, asked}
use Rattle.drc_container.specs.choice.CanCode.{wraps}

-- ---- heads

-- the quantisation of a head that passes and has no square stands where it is due
quant_says : (h : Head) (o : Option Quant) → has_type h.dtype o None ≡ true → has_minima h.comps o ≡ true → has_bits o ≡ true → HasQuant h o
quant_says h None typed minima bits = integer_no_float h.dtype typed
quant_says h (Some q) typed minima bits =
    let p = and_parts (leb 1 q.bits) (leb q.bits 30) bits in
    (typed, grind (arith, minima), leb-true 1 q.bits p.0, leb-true q.bits 30 p.1)

-- a square is one of pairs of floats
square_says : (h : Head) (quant : Option Quant) (octa : Option ℕ) → has_type h.dtype quant octa ≡ true → has_coordinates h.comps octa ≡ true → HasSquareType h octa
square_says h quant None typed two = tt
square_says h None (Some bits) typed two = (typed, grind (arith, two))
square_says h (Some q) (Some bits) typed two = absurd (false≢true typed)

pub head_square : (h : Head) → HeadSays h → HasSquareType h h.octa
head_square h says = square_says h h.quant h.octa says.typed says.coordinates

-- and what stands at the end of its decoder is due
unquantised : (dtype bits : ℕ) (quant : Option Quant) → has_type dtype quant (Some bits) ≡ true → quant ≡ None
unquantised dtype bits None typed = refl
unquantised dtype bits (Some q) typed = absurd (false≢true typed)

end_says : (h : Head) (octa : Option ℕ) → has_type h.dtype h.quant octa ≡ true → has_minima h.comps h.quant ≡ true → has_bits h.quant ≡ true
    → has_square_bits octa ≡ true → HasEnd h octa
end_says h None typed minima bits square = quant_says h h.quant typed minima bits
end_says h (Some k) typed minima bits square = (unquantised h.dtype k h.quant typed, square)

pub head_end : (h : Head) → HeadSays h → HasEnd h h.octa
head_end h says = end_says h h.octa says.typed says.minima says.bits says.square

-- ---- without a square

pub asked-unsquared : (p : Predict) (h : Head) → h.octa ≡ None → asked p h ≡ (if takes_texture p && has_texture h then texture_code else code_of (plain_of p))
unfolding asked
asked-unsquared p h none = rw none refl

-- no prediction by single components has the number of the one from positions
pub plain-apart : (q : Prediction) → int_eq (code_of q) texture_code ≡ false
plain-apart prediction.Off = refl
plain-apart prediction.Difference = refl
plain-apart prediction.Parallelogram = refl
plain-apart prediction.Multi = refl

plain-itself : (q : Prediction) (comps : ℕ) → plain_code comps (code_of q) ≡ code_of q
plain-itself q comps = rw (plain-apart q) refl

pub asked-plain : (p : Predict) (h : Head) → h.octa ≡ None → plain_code h.comps (asked p h) ≡ code_of (plain_of p)
asked-plain p h none = ap (plain_code h.comps) (asked-unsquared p h none) ∙ by p
  where
    shaped : (texture pair : Bool) → (texture ≡ true → pair ≡ true)
        → (if int_eq (if texture then texture_code else code_of prediction.Parallelogram) texture_code && pair then code_of prediction.Parallelogram else (if texture then texture_code else code_of prediction.Parallelogram)) ≡ code_of prediction.Parallelogram
    shaped true pair two = rw (two refl) refl
    shaped false pair two = refl

    by : (p : Predict) → plain_code h.comps (if takes_texture p && has_texture h then texture_code else code_of (plain_of p)) ≡ code_of (plain_of p)
    by (Plain q) = plain-itself q h.comps
    by Shape = shaped (has_texture h) (h.comps == 2) (λ is. (and_parts (h.usage == 3) (h.comps == 2) is).1)

-- values of which a prediction that corrects is asked wrap
corrects-some : (q : Prediction) → (facts q).corrects ≡ true → int_eq (code_of q) (code_of prediction.Off) ≡ false
corrects-some prediction.Off is = absurd (false≢true is)
corrects-some prediction.Difference is = refl
corrects-some prediction.Parallelogram is = refl
corrects-some prediction.Multi is = refl

asked-some : (p : Predict) (h : Head) → h.octa ≡ None → (facts (plain_of p)).corrects ≡ true → int_eq (asked p h) (code_of prediction.Off) ≡ false
asked-some p h none corrects = ap (λ (code : ℤ). int_eq code (code_of prediction.Off)) (asked-unsquared p h none) ∙ by p corrects
  where
    either : (texture : Bool) → int_eq (if texture then texture_code else code_of prediction.Parallelogram) (code_of prediction.Off) ≡ false
    either true = refl
    either false = refl

    by : (p : Predict) → (facts (plain_of p)).corrects ≡ true → int_eq (if takes_texture p && has_texture h then texture_code else code_of (plain_of p)) (code_of prediction.Off) ≡ false
    by (Plain q) corrects = corrects-some q corrects
    by Shape corrects = either (has_texture h)

asked-wraps : (p : Predict) (h : Head) (v : Values) → h.octa ≡ None → v.predict ≡ asked p h → (facts (plain_of p)).corrects ≡ true → wraps h v ≡ true
asked-wraps p h v none is corrects =
    let some : int_eq v.predict (code_of prediction.Off) ≡ false = ap (λ (code : ℤ). int_eq code (code_of prediction.Off)) is ∙ asked-some p h none corrects in
    rw (none, some) refl

-- ---- with a square

asked-squared : (p : Predict) (h : Head) (bits : ℕ) → h.octa ≡ Some bits → asked p h ≡ square_code (square_of (plain_of p))
unfolding asked
asked-squared p h bits is = rw is refl

-- ---- what is asked

-- values of which a prediction is asked may have it: those that wrap lie near enough, and where a surface is needed they stand on one
pub can-ask : (p : Predict) (h : Head) (w : Option Ordered) (v : Values) → HeadSays h → v.predict ≡ asked p h → (wraps h v ≡ true → CanWrap (range_of v.values))
    → CanStand (plain_of p) w h.comps (length v.values) → (h.comps ≡ OCTAHEDRAL_INTEGERS → MayHavePoints w (length v.values)) → CanAsk w h.octa h.comps v.predict v.values
can-ask p h w v says is near stand points = by h.octa refl says.coordinates says.square
  where
    by : (octa : Option ℕ) → h.octa ≡ octa → has_coordinates h.comps octa ≡ true → has_square_bits octa ≡ true → CanAsk w octa h.comps v.predict v.values
    by None none two bits = (
      plain_of p,
      ap (plain_code h.comps) is ∙ asked-plain p h none,
      record { wrap = λ corrects. near (asked-wraps p h v none is corrects); stand = stand },
    )
    by (Some k) some two bits =
        let pair : h.comps ≡ OCTAHEDRAL_INTEGERS = grind (arith, two) in
        (square_of (plain_of p), is ∙ asked-squared p h k some, record { square = bits; coordinates = pair; points = λ takes. points pair })
