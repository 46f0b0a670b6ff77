-- Wrapped sums: to 32 bits on the way or at the end, and corrections that restore their values.
use Rattle.std.proofs.Common.{◌≡◌, ℕ, ◌-◌, ◌/◌, ◌^◌, ◌<◌, ℤ, pos, ◌+ℤ◌, ◌-ℤ◌, ◌<ℤ◌, ◌≤ℤ◌, neg_ℤ, FitsSigned, sym, ◌∙◌, ap, arith}
use Rattle.std.specs.Int.{w32, int_wrap}
use Rattle.std.proofs.lemmas.Int.{ints, by_lt_z, int_wrap-add_left, int_wrap_fits}
use Rattle.predict.specs.Wrap.{Range, CanWrap, span_of, clipped, wrapped, halved, least_correction, greatest_correction, restored_value, correction_of}

-- a sum to 32 bits, brought back into the range
pub wrapped_sum : (base c back value : ℤ) (r : Range) → value ≡ int_wrap w32 (base +ℤ c) → (base +ℤ c) +ℤ back ≡ wrapped r (base +ℤ c)
    → int_wrap w32 (value +ℤ back) ≡ int_wrap w32 (wrapped r (base +ℤ c))
wrapped_sum base c back value r is brings = rw is (int_wrap-add_left w32 (base +ℤ c) back ∙ ap (int_wrap w32) brings)

-- a span is the distance of the ends and one
pub span_is : (r : Range) → CanWrap r → pos (span_of r) ≡ (r.high -ℤ r.low) +ℤ pos 1
span_is r can = let h : r.low ≤ℤ r.high = can.ordered in omega (arith, ints)

-- the three cases of a difference brought to at most half a span
pub halved_is : {P : Type 0} (r : Range) (x : ℤ)
    → (x <ℤ least_correction r → halved r x ≡ x +ℤ pos (span_of r) → P)
    → (greatest_correction r <ℤ x → halved r x ≡ x -ℤ pos (span_of r) → P)
    → (least_correction r ≤ℤ x → x ≤ℤ greatest_correction r → halved r x ≡ x → P)
    → P
halved_is r x under over within =
    by_lt_z x (least_correction r) (λ h. under h (grind (arith, ints)))
    (λ h. by_lt_z (greatest_correction r) x (λ k. over k (grind (arith, ints))) (λ k. within h k (grind (arith, ints))))

-- a correction that is small, and brings the base back to its value
pub record Corrects (r : Range) (base v c : ℤ) : Type 0 where
  pub least : least_correction r ≤ℤ c
  pub greatest : c ≤ℤ greatest_correction r
  pub fits : FitsSigned w32 c
  pub back : wrapped r (base +ℤ c) ≡ v

-- a sum inside of the range stays
wrapped-inside : (r : Range) (x : ℤ) → r.low ≤ℤ x → x ≤ℤ r.high → wrapped r x ≡ x
wrapped-inside r x low high = grind (arith, ints)

-- a sum above comes down by a span
wrapped-above : (r : Range) (x : ℤ) → r.high <ℤ x → wrapped r x ≡ x -ℤ pos (span_of r)
wrapped-above r x high = grind (arith, ints)

-- a sum below comes up by a span
wrapped-below : (r : Range) (x : ℤ) → r.low ≤ℤ r.high → x <ℤ r.low → wrapped r x ≡ x +ℤ pos (span_of r)
wrapped-below r x order low = let not_above : x ≤ℤ r.high = omega (arith, ints) in grind (arith, ints)

-- a number of at most half a span fits
half_fits : (d : ℕ) (c : ℤ) → d < 2 ^ 31 → neg_ℤ (pos (d / 2)) ≤ℤ c → c ≤ℤ pos ((d - 1) / 2) → FitsSigned w32 c
half_fits d c small low high = search (arith, ints)

-- the distances of two numbers of the range
record Near (r : Range) (base v : ℤ) (d : ℕ) : Type 0 where
  pub is : pos d ≡ (r.high -ℤ r.low) +ℤ pos 1
  pub small : d < 2 ^ 31
  pub order : r.low ≤ℤ r.high
  pub base_low : r.low ≤ℤ base
  pub base_high : base ≤ℤ r.high
  pub low : r.low ≤ℤ v
  pub high : v ≤ℤ r.high

near : (r : Range) (base v : ℤ) → CanWrap r → r.low ≤ℤ base → base ≤ℤ r.high → r.low ≤ℤ v → v ≤ℤ r.high → Near r base v (span_of r)
near r base v can base_low base_high low high =
    let span : pos (span_of r) ≡ (r.high -ℤ r.low) +ℤ pos 1 = span_is r can in
    let narrow : (r.high -ℤ r.low) <ℤ pos (2 ^ 31 - 1) = can.narrow in
    record { is = span; small = omega (arith, ints); order = can.ordered; base_low = base_low; base_high = base_high; low = low; high = high }

-- numbers alone: half of d, and what is beyond it
within_half : (d : ℕ) (x c : ℤ) → neg_ℤ (pos d) <ℤ x → x <ℤ neg_ℤ (pos (d / 2)) → c ≡ x +ℤ pos d
    → (neg_ℤ (pos (d / 2)) ≤ℤ c) × (c ≤ℤ pos ((d - 1) / 2))
within_half d x c low far is = (omega (arith, ints), omega (arith, ints))

below_half : (d : ℕ) (x c : ℤ) → x <ℤ pos d → pos ((d - 1) / 2) <ℤ x → c ≡ x -ℤ pos d
    → (neg_ℤ (pos (d / 2)) ≤ℤ c) × (c ≤ℤ pos ((d - 1) / 2))
below_half d x c high far is = (omega (arith, ints), omega (arith, ints))

corrects_up : (r : Range) (base v c : ℤ) → Near r base v (span_of r) → (v -ℤ base) <ℤ least_correction r → c ≡ (v -ℤ base) +ℤ pos (span_of r)
    → Corrects r base v c
corrects_up r base v c n far is =
    let half = within_half (span_of r) (v -ℤ base) c (omega (arith, ints, n.is)) far is in
    let above : r.high <ℤ (base +ℤ c) = omega (arith, ints, n.is) in
    let back : (base +ℤ c) -ℤ pos (span_of r) ≡ v = omega (arith, ints, n.is) in
    record { least = half.0; greatest = half.1; fits = half_fits (span_of r) c n.small half.0 half.1; back = wrapped-above r (base +ℤ c) above ∙ back }

corrects_down : (r : Range) (base v c : ℤ) → Near r base v (span_of r) → greatest_correction r <ℤ (v -ℤ base) → c ≡ (v -ℤ base) -ℤ pos (span_of r)
    → Corrects r base v c
corrects_down r base v c n far is =
    let half = below_half (span_of r) (v -ℤ base) c (omega (arith, ints, n.is)) far is in
    let below : (base +ℤ c) <ℤ r.low = omega (arith, ints, n.is) in
    let back : (base +ℤ c) +ℤ pos (span_of r) ≡ v = omega (arith, ints, n.is) in
    record { least = half.0; greatest = half.1; fits = half_fits (span_of r) c n.small half.0 half.1; back = wrapped-below r (base +ℤ c) n.order below ∙ back }

corrects_there : (r : Range) (base v c : ℤ) → Near r base v (span_of r) → least_correction r ≤ℤ (v -ℤ base) → (v -ℤ base) ≤ℤ greatest_correction r → c ≡ v -ℤ base
    → Corrects r base v c
corrects_there r base v c n low high is =
    let sum : base +ℤ c ≡ v = omega (arith, ints) in
    let least : least_correction r ≤ℤ c = rw is low in
    let greatest : c ≤ℤ greatest_correction r = rw is high in
    record { least = least; greatest = greatest; fits = half_fits (span_of r) c n.small least greatest; back = rw sum (wrapped-inside r v n.low n.high) }

-- the correction of a value corrects
pub correction_corrects : (r : Range) (base v : ℤ) → CanWrap r → r.low ≤ℤ base → base ≤ℤ r.high → r.low ≤ℤ v → v ≤ℤ r.high
    → Corrects r base v (halved r (v -ℤ base))
correction_corrects r base v can base_low base_high low high =
    let n = near r base v can base_low base_high low high in
    halved_is r (v -ℤ base)
    (λ far is. corrects_up r base v (halved r (v -ℤ base)) n far is)
    (λ far is. corrects_down r base v (halved r (v -ℤ base)) n far is)
    (λ least greatest is. corrects_there r base v (halved r (v -ℤ base)) n least greatest is)

clipped-low : (r : Range) (p : ℤ) → r.low ≤ℤ r.high → r.low ≤ℤ clipped r p
clipped-low r p order = grind (arith, ints)

clipped-high : (r : Range) (p : ℤ) → r.low ≤ℤ r.high → clipped r p ≤ℤ r.high
clipped-high r p order = grind (arith, ints)

-- what a correction is, and what it does
pub record Corrected (r : Range) (p v c : ℤ) : Type 0 where
  pub is : c ≡ correction_of r p v
  pub least : least_correction r ≤ℤ c
  pub greatest : c ≤ℤ greatest_correction r
  pub fits : FitsSigned w32 c
  pub restores : restored_value r p c ≡ v

pub corrected : (r : Range) (p base v apart way : ℤ) → base ≡ clipped r p → apart ≡ v -ℤ base → apart +ℤ way ≡ halved r apart
    → CanWrap r → r.low ≤ℤ base → base ≤ℤ r.high → r.low ≤ℤ v → v ≤ℤ r.high → FitsSigned w32 v
    → Corrected r p v (apart +ℤ way)
corrected r p base v apart way base_is apart_is way_is can base_low base_high low high fits =
    let good = correction_corrects r base v can base_low base_high low high in
    let is : apart +ℤ way ≡ halved r (v -ℤ base) = way_is ∙ ap (halved r) apart_is in
    rw is (record {
      is = ap (λ b. halved r (v -ℤ b)) base_is;
      least = good.least;
      greatest = good.greatest;
      fits = good.fits;
      restores =
          ap (λ b. int_wrap w32 (wrapped r (b +ℤ halved r (v -ℤ base)))) (sym base_is)
          ∙ ap (λ x. int_wrap w32 x) good.back
          ∙ int_wrap_fits w32 v fits;
    })

-- the correction of a value of the range corrects
corrects : (r : Range) (p v : ℤ) → CanWrap r → r.low ≤ℤ v → v ≤ℤ r.high → Corrects r (clipped r p) v (correction_of r p v)
corrects r p v can low high =
    correction_corrects r (clipped r p) v can (clipped-low r p can.ordered) (clipped-high r p can.ordered) low high

pub correction_restores : (r : Range) (p v : ℤ) → CanWrap r → r.low ≤ℤ v → v ≤ℤ r.high → FitsSigned w32 v
    → restored_value r p (correction_of r p v) ≡ v
correction_restores r p v can low high fits = ap (int_wrap w32) (corrects r p v can low high).back ∙ int_wrap_fits w32 v fits

pub correction_small : (r : Range) (p v : ℤ) → CanWrap r → r.low ≤ℤ v → v ≤ℤ r.high
    → (least_correction r ≤ℤ correction_of r p v) × (correction_of r p v ≤ℤ greatest_correction r)
correction_small r p v can low high = let good = corrects r p v can low high in (good.least, good.greatest)
