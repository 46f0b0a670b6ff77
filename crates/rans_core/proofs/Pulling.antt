-- Pulling undoes pushing.
use Rattle.std.proofs.Common.{◌≡◌, ℕ, zero, suc, ◌+◌, ◌-◌, ◌*◌, ◌/◌, ◌%◌, ◌^◌, ◌<◌, ◌≤◌, nat_lt, List, [], ◌∷◌, All, sym, refl, ap, ◌∙◌, subst, inl, inr, arith, ltb-true, ltb-false, lt-ltb, le-ltb, div-add-mod', mod-lt, mul_assoc, pow-suc, mul-le-mul_right, mul-le-mul_left, mul-pos, le_trans, lt_of_lt_of_le, le_refl}
use Rattle.std.proofs.lemmas.Nat.{div-mul-add, mod-mul-add, le-div, div_below}
use Rattle.std.proofs.lemmas.Bool.{cases_Bool, cond-true, cond-false}
use Rattle.std.proofs.lemmas.List.Elements.{All-head, All-tail}
use Rattle.rans_core.specs.Coder.{Interval, CoderState, HasSlot, Fits, refilled, pulled, Pulled, drained, state_pushed, all_pushed}

-- a number at the base or above needs no byte
pub refilled-full : (base number : ℕ) (bytes : List ℕ) → base ≤ number → refilled base number bytes ≡ record { number = number; bytes = bytes }
refilled-full base number [] h = refl
refilled-full base number (b ∷ bytes) h = cond-false _ _ _ (le-ltb number base h)

-- one emitted byte comes back
pub refilled-shed : (base number : ℕ) (bytes : List ℕ) → number / 256 < base → refilled base (number / 256) (number % 256 ∷ bytes) ≡ refilled base number bytes
refilled-shed base number bytes h =
    let e : 256 * (number / 256) + number % 256 ≡ number = omega arith in
    cond-true _ _ _ (lt-ltb (number / 256) base h) ∙ ap (λ n. refilled base n bytes) e

-- all emitted bytes come back
pub refilled-drained : (base limit times number : ℕ) (bytes : List ℕ) → number < 256 * base →
    (let t = drained times limit number bytes in refilled base t.number t.bytes) ≡ refilled base number bytes
unfolding drained
refilled-drained base limit zero number bytes h = refl
refilled-drained base limit (suc times) number bytes h =
    elim (cases_Bool (nat_lt number limit)) [
      | inl e ↦ rw (cond-true _ _ _ e) refl
      | inr e ↦ rw (cond-false _ _ _ e) (refilled-drained base limit times (number / 256) (number % 256 ∷ bytes) (omega arith) ∙ refilled-shed base number bytes (omega arith))
    ]

-- what is left is below the limit
pub drained-below : (limit times number : ℕ) (bytes : List ℕ) → number < limit * 256 ^ times → (drained times limit number bytes).number < limit
unfolding drained
drained-below limit zero number bytes h = omega arith
drained-below limit (suc times) number bytes h =
    elim (cases_Bool (nat_lt number limit)) [
      | inl e ↦ rw (cond-true _ _ _ e) (ltb-true number limit e)
      | inr e ↦ rw (cond-false _ _ _ e) (drained-below limit times (number / 256) (number % 256 ∷ bytes) (let p : 256 ^ suc times ≡ 256 ^ times * 256 = pow-suc 256 times in let q : limit * (256 ^ times * 256) ≡ limit * 256 ^ times * 256 = sym (mul_assoc limit (256 ^ times) 256) in let r : number < limit * 256 ^ times * 256 = subst (λ n. number < n) (ap (λ n. limit * n) p ∙ q) h in omega arith))
    ]

-- what is left is not below a 256th of the limit
pub drained-above : (low limit times number : ℕ) (bytes : List ℕ) → limit ≡ 256 * low → low ≤ number → low ≤ (drained times limit number bytes).number
unfolding drained
drained-above low limit zero number bytes l h = h
drained-above low limit (suc times) number bytes l h =
    elim (cases_Bool (nat_lt number limit)) [
      | inl e ↦ rw (cond-true _ _ _ e) h
      | inr e ↦ rw (cond-false _ _ _ e) (drained-above low limit times (number / 256) (number % 256 ∷ bytes) l (let g : limit ≤ number = ltb-false number limit e in omega arith))
    ]

-- a coder's numbers after a push: not below the base, and below 256 bases
pub record IsFull (base : ℕ) (s : CoderState) : Type 0 where
  pub above : base ≤ s.number
  pub below : s.number < 256 * base

-- the arithmetic of one step: with q * prob + r pushed, the interval's slot is shown and q * prob + r comes back
pub slot_shown : (total cum prob q r : ℕ) → r < prob → cum + prob ≤ total → ((q * total + r + cum) % total ≡ r + cum) × ((q * total + r + cum) / total ≡ q)
slot_shown total cum prob q r h k =
    let e : q * total + r + cum ≡ q * total + (r + cum) = omega arith in
    let l : r + cum < total = omega arith in
    rw e (mod-mul-add q total (r + cum) l, div-mul-add q total (r + cum) l)

pub full_step : (scale total cum prob q r : ℕ) → r < prob → cum + prob ≤ total → scale ≤ q → q < 256 * scale →
    (scale * total ≤ q * total + r + cum) × (q * total + r + cum < 256 * (scale * total))
full_step scale total cum prob q r h k low high =
    let a : scale * total ≤ q * total = mul-le-mul_right total low in
    let b : (q + 1) * total ≤ (256 * scale) * total = mul-le-mul_right total (omega arith) in
    let c : (q + 1) * total ≡ q * total + total = omega arith in
    let d : (256 * scale) * total ≡ 256 * (scale * total) = mul_assoc 256 scale total in
    (omega arith, omega arith)

-- four bytes are enough for totals up to 2 ^ 32
pub wide_enough : (scale total prob : ℕ) → 1 ≤ scale * prob → total ≤ 2 ^ 32 → 256 * (scale * total) ≤ 256 * (scale * prob) * 256 ^ 4
wide_enough scale total zero one small = absurd (omega arith)
wide_enough scale total (suc prob) one small =
    let a : scale * total ≤ scale * (suc prob * 2 ^ 32) = mul-le-mul_left scale (omega arith) in
    let b : scale * (suc prob * 2 ^ 32) ≡ scale * suc prob * 2 ^ 32 = sym (mul_assoc scale (suc prob) (2 ^ 32)) in
    omega arith

-- one push: the state stays full, shows the interval's slot, and the pull gives what a refill takes back to the state before
pub record IsPush (scale total : ℕ) (i : Interval) (s t : CoderState) : Type 0 where
  pub full : IsFull (scale * total) t
  pub shown : HasSlot i (t.number % total)
  pub back : (let u = pulled total i t in refilled (scale * total) u.number u.bytes) ≡ s

pub pushed-IsPush : (scale total : ℕ) (i : Interval) (s : CoderState) → 0 < scale → total ≤ 2 ^ 32 → Fits total i → IsFull (scale * total) s →
    IsPush scale total i s (state_pushed scale total i s)
unfolding state_pushed
pushed-IsPush scale total i s positive small fits full =
    let t : CoderState = drained 4 (256 * (scale * i.prob)) s.number s.bytes in
    let narrow : i.prob ≤ total = omega arith in
    let room : scale * i.prob ≤ scale * total = mul-le-mul_left scale narrow in
    let one : 1 ≤ scale * i.prob = mul-pos positive fits.0 in
    let wide : 256 * (scale * total) ≤ 256 * (scale * i.prob) * 256 ^ 4 = wide_enough scale total i.prob one small in
    let below : t.number < 256 * (scale * i.prob) = drained-below (256 * (scale * i.prob)) 4 s.number s.bytes (lt_of_lt_of_le full.below wide) in
    let above : scale * i.prob ≤ t.number = drained-above (scale * i.prob) (256 * (scale * i.prob)) 4 s.number s.bytes refl (le_trans room full.above) in
    let q : ℕ = t.number / i.prob in
    let r : ℕ = t.number % i.prob in
    let small_rest : r < i.prob = mod-lt t.number fits.0 in
    let low : scale ≤ q = le-div scale t.number i.prob fits.0 above in
    let high : q < 256 * scale = div_below t.number i.prob (256 * scale) fits.0 (subst (λ n. t.number < n) (sym (mul_assoc 256 scale i.prob)) below) in
    let step = full_step scale total i.cum i.prob q r small_rest fits.1 low high in
    let slot = slot_shown total i.cum i.prob q r small_rest fits.1 in
    let again : q * i.prob + r ≡ t.number = div-add-mod' t.number i.prob in
    let number : ℕ = q * total + r + i.cum in
    let e : number / total * i.prob + number % total - i.cum ≡ t.number =
    ap (λ n. n * i.prob + number % total - i.cum) slot.1 ∙ ap (λ n. q * i.prob + n - i.cum) slot.0 ∙ omega (arith, again) in
    record {
      full = record { above = step.0; below = step.1 };
      shown = rw slot.0 (omega arith, omega arith);
      back = ap (λ n. refilled (scale * total) n t.bytes) e
          ∙ refilled-drained (scale * total) (256 * (scale * i.prob)) 4 s.number s.bytes full.below
          ∙ refilled-full (scale * total) s.number s.bytes full.above;
    }

-- a refilled state can stand for what it was refilled from
pub Pulled-refilled : (scale total : ℕ) (s t : CoderState) (is : List Interval) → IsFull (scale * total) t →
    refilled (scale * total) s.number s.bytes ≡ t → Pulled scale total t is → Pulled scale total s is
Pulled-refilled scale total s t [] full e h = tt
Pulled-refilled scale total s t (i ∷ is) full e h =
    let same : refilled (scale * total) s.number s.bytes ≡ refilled (scale * total) t.number t.bytes =
    e ∙ sym (refilled-full (scale * total) t.number t.bytes full.above) in
    rw same h

-- **pulling undoes pushing, for every list of intervals**
pub all_pushed-Pulled : (scale total : ℕ) (is : List Interval) → 0 < scale → 0 < total → total ≤ 2 ^ 32 → All (Fits total) is →
    IsFull (scale * total) (all_pushed scale total is) × Pulled scale total (all_pushed scale total is) is
all_pushed-Pulled scale total [] positive some small fits =
    let m : 1 ≤ scale * total = mul-pos positive some in
    (record { above = le_refl (scale * total); below = omega arith }, tt)
all_pushed-Pulled scale total (i ∷ is) positive some small fits =
    let before = all_pushed-Pulled scale total is positive some small (All-tail (Fits total) i is fits) in
    let push = pushed-IsPush scale total i (all_pushed scale total is) positive small (All-head (Fits total) i is fits) before.0 in
    let t : CoderState = state_pushed scale total i (all_pushed scale total is) in
    let full : refilled (scale * total) t.number t.bytes ≡ t = refilled-full (scale * total) t.number t.bytes push.full.above in
    (push.full, rw full (push.shown, Pulled-refilled scale total (pulled total i t) (all_pushed scale total is) is before.0 push.back before.1))
