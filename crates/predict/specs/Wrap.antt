-- The wrap transform (Draco Bitstream Specification 2.2, section "Prediction Scheme Transforms"; that its sums are whole
-- numbers is this project's choice).
use Rattle.std.specs.Prelude.{ℕ, suc, ◌-◌, ◌/◌, ◌^◌, ℤ, pos, ◌+ℤ◌, ◌-ℤ◌, ◌<ℤ◌, ◌≤ℤ◌, neg_ℤ, unsigned_abs, FitsSigned, int_lt, if◌then◌else◌}
use Rattle.std.specs.Int.{w32, int_min, int_max, int_wrap}

-- the range in which values lie
pub record Range : Type 0 where
  pub low : ℤ
  pub high : ℤ

-- how many values a range has
abbrev pub span_of : Range → ℕ
span_of r = suc (unsigned_abs (r.high -ℤ r.low))

-- a range whose corrections can wrap
pub record CanWrap (r : Range) : Type 0 where
  pub ordered : r.low ≤ℤ r.high
  pub narrow : (r.high -ℤ r.low) <ℤ pos (2 ^ 31 - 1)

-- a range whose ends have 32 bits
pub record HasEnds (r : Range) : Type 0 where
  pub low : FitsSigned w32 r.low
  pub high : FitsSigned w32 r.high

-- a prediction, moved into the range
abbrev pub clipped : Range → ℤ → ℤ
clipped r p = int_min (int_max p r.low) r.high

-- a sum brought back into the range by one span, where it has left it
abbrev pub wrapped : Range → ℤ → ℤ
wrapped r x =
    if int_lt r.high x then x -ℤ pos (span_of r) else if int_lt x r.low then x +ℤ pos (span_of r) else x

-- the value at this prediction and correction, to 32 bits
abbrev pub restored_value : Range → ℤ → ℤ → ℤ
restored_value r p c = int_wrap w32 (wrapped r (clipped r p +ℤ c))

-- the least and the greatest correction that are written
abbrev pub least_correction : Range → ℤ
least_correction r = neg_ℤ (pos (span_of r / 2))

abbrev pub greatest_correction : Range → ℤ
greatest_correction r = pos ((span_of r - 1) / 2)

-- a difference brought to at most half a span
abbrev pub halved : Range → ℤ → ℤ
halved r x =
    if int_lt x (least_correction r) then x +ℤ pos (span_of r)
    else if int_lt (greatest_correction r) x then x -ℤ pos (span_of r) else x

-- the correction of this value at this prediction
abbrev pub correction_of : Range → ℤ → ℤ → ℤ
correction_of r p v = halved r (v -ℤ clipped r p)
