-- Restoring and correcting one entry after another.
use Rattle.std.proofs.Common.{◌≡◌, ℕ, zero, suc, ◌+◌, ◌-◌, ◌<◌, ◌≤◌, ◌≤ℤ◌, ℤ, pos, List, [], ◌∷◌, ◌++◌, length, take, get_or, FitsSigned, Result, Ok, refl, sym, ◌∙◌, ap, add-one, append-nil, append_assoc, arith}
use Rattle.std.proofs.lemmas.List.{length-take-le, get_or-take, take_all}
use Rattle.std.proofs.lemmas.Int.{ints}
use Rattle.std.proofs.lemmas.List.Elements.{All-nil, All-cons, All-head, All-tail}
use Rattle.std.specs.Int.{w32}
use Rattle.std.specs.List.{All}
use Rattle.predict.specs.Wrap.{Range, CanWrap, HasEnds, restored_value, correction_of, least_correction, greatest_correction}
use Rattle.predict.specs.Restored.{restored, corrections, corrections_behind, entry_before}
use Rattle.predict.specs.Stepping.{Step, step_by, restored_by, corrected_by}
use Rattle.predict.proofs.Wrapping.{correction_restores, correction_small}
use Rattle.predict.proofs.Steps.{steps_restore, restored_by-function, corrected_by-function}

-- the prediction by difference from the front part of a list
pub entry_before-first : (comps : ℕ) (v : List ℤ) (i : ℕ) → i < length v → i < comps → pos 0 ≡ entry_before comps (take i v)
entry_before-first comps v i has low =
    let len : length (take i v) ≡ i = length-take-le i v (omega arith) in
    rw len (grind arith)

pub entry_before-later : (comps : ℕ) (v : List ℤ) (i : ℕ) → 0 < comps → i < length v → comps ≤ i
    → get_or v (i - comps) (pos 0) ≡ entry_before comps (take i v)
entry_before-later comps v i some has high =
    let len : length (take i v) ≡ i = length-take-le i v (omega arith) in
    let there : get_or (take i v) (i - comps) (pos 0) ≡ get_or v (i - comps) (pos 0) = get_or-take i v (i - comps) (pos 0) (omega arith) in
    rw (len, there) (grind arith)

-- one correction more
pub take-corrections : (f : List ℤ → ℤ) (r : Range) (v : List ℤ) (i : ℕ) → i < length v
    → take (i + 1) (corrections f r v) ≡ take i (corrections f r v) ++ correction_of r (f (take i v)) (get_or v i (pos 0)) ∷ []
unfolding corrections_behind
take-corrections f r v i has = rw (add-one i) (behind f r [] v i has)
  where
    behind : (f : List ℤ → ℤ) (r : Range) (before v : List ℤ) (i : ℕ) → i < length v
        → take (suc i) (corrections_behind f r before v)
        ≡ take i (corrections_behind f r before v) ++ correction_of r (f (before ++ take i v)) (get_or v i (pos 0)) ∷ []
    behind f r before [] i has = absurd (omega (arith, has))
    behind f r before (x ∷ v) zero has = rw (append-nil before) refl
    behind f r before (x ∷ v) (suc i) has =
        ap (λ cs. correction_of r (f before) x ∷ cs) (behind f r (before ++ x ∷ []) v i (omega (arith, has)))
        ∙ ap (λ front. correction_of r (f before) x ∷ take i (corrections_behind f r (before ++ x ∷ []) v) ++ correction_of r (f front) (get_or v i (pos 0)) ∷ [])
        (append_assoc before (x ∷ []) (take i v))

-- there is a correction for each value
pub length-corrections : (f : List ℤ → ℤ) (r : Range) (v : List ℤ) → length (corrections f r v) ≡ length v
unfolding corrections_behind
length-corrections f r v = behind f r [] v
  where
    behind : (f : List ℤ → ℤ) (r : Range) (before v : List ℤ) → length (corrections_behind f r before v) ≡ length v
    behind f r before [] = refl
    behind f r before (x ∷ v) = ap suc (behind f r (before ++ x ∷ []) v)

-- the next correction is pushed
pub corrections-more : (f : List ℤ → ℤ) (r : Range) (v cs ds : List ℤ) (i : ℕ) (p c : ℤ) → i < length v
    → p ≡ f (take i v) → c ≡ correction_of r p (get_or v i (pos 0)) → ds ≡ cs ++ c ∷ []
    → cs ≡ take i (corrections f r v) → ds ≡ take (i + 1) (corrections f r v)
corrections-more f r v cs ds i p c has p_is is push so =
    push
    ∙ ap (λ front. front ++ c ∷ []) so
    ∙ ap (λ x. take i (corrections f r v) ++ x ∷ []) (is ∙ ap (λ q. correction_of r q (get_or v i (pos 0))) p_is)
    ∙ sym (take-corrections f r v i has)

-- all corrections are there
pub corrections-end : (f : List ℤ → ℤ) (r : Range) (v cs : List ℤ) (i : ℕ) → length v ≤ i
    → cs ≡ take i (corrections f r v) → cs ≡ corrections f r v
corrections-end f r v cs i done is = is ∙ take_all i (corrections f r v) (omega (arith, done, length-corrections f r v))

-- a value of the range
abbrev pub InRange : Range → ℤ → Type 0
InRange r x = (r.low ≤ℤ x) × (x ≤ℤ r.high)

-- a value of the range that has 32 bits, which its correction restores
abbrev pub Keeps : Range → ℤ → Type 0
Keeps r x = InRange r x × FitsSigned w32 x

pub keeps_back : (r : Range) (p x : ℤ) → CanWrap r → Keeps r x → restored_value r p (correction_of r p x) ≡ x
keeps_back r p x can keeps = correction_restores r p x can keeps.0.0 keeps.0.1 keeps.1

-- corrections of values of the range restore them
pub restored-corrections : (f : List ℤ → ℤ) (r : Range) (v : List ℤ) → CanWrap r → All (InRange r) v → All (FitsSigned w32) v
    → restored f r (corrections f r v) ≡ v
restored-corrections f r v can within fits =
    let step : Step ℤ (Unit {0}) (Unit {0}) = step_by f in
    let cs : List ℤ = corrections f r v in
    let made : corrected_by step (correction_of r) [] tt v ≡ Ok cs = corrected_by-function step f r tt (length v) (λ before here. refl) [] v (omega arith) in
    let back : restored_by step (restored_value r) [] tt cs ≡ Ok v =
    steps_restore (Keeps r) step (restored_value r) (correction_of r) [] tt v cs (λ before flags x y good one keeps. keeps_back r x.0 y can keeps)
    (All-nil (Keeps r)) (λ k d below. (within k d below, fits k d below)) made in
    let same : restored_by step (restored_value r) [] tt cs ≡ Ok (restored f r cs) = restored_by-function step f r tt (length cs) (λ before here. refl) [] cs (omega arith) in
    Ok-injective (sym same ∙ back)
  where
    Ok-injective : {x y : List ℤ} → ◌≡◌ {A = Result (List ℤ) (Unit {0})} (Ok x) (Ok y) → x ≡ y
    Ok-injective is = cc

-- a correction of at most half a span
abbrev pub IsSmall : Range → ℤ → Type 0
IsSmall r c = (least_correction r ≤ℤ c) × (c ≤ℤ greatest_correction r)

-- corrections of values of the range are small
pub small-corrections : (f : List ℤ → ℤ) (r : Range) (v : List ℤ) → CanWrap r → All (InRange r) v → All (IsSmall r) (corrections f r v)
unfolding corrections_behind
small-corrections f r v can within = behind f r [] v can within
  where
    behind : (f : List ℤ → ℤ) (r : Range) (before v : List ℤ) → CanWrap r → All (InRange r) v → All (IsSmall r) (corrections_behind f r before v)
    behind f r before [] can within = All-nil (IsSmall r)
    behind f r before (x ∷ v) can within =
        let in_range : InRange r x = All-head (InRange r) x v within in
        All-cons (IsSmall r) (correction_of r (f before) x) (corrections_behind f r (before ++ x ∷ []) v)
        (correction_small r (f before) x can in_range.0 in_range.1) (behind f r (before ++ x ∷ []) v can (All-tail (InRange r) x v within))

-- numbers between two that have 32 bits have 32 bits
fits_between : (l h x : ℤ) → FitsSigned w32 l → FitsSigned w32 h → l ≤ℤ x → x ≤ℤ h → FitsSigned w32 x
fits_between l h x low high above below = search (arith, ints)

pub fit_within : (r : Range) (v : List ℤ) → HasEnds r → All (InRange r) v → All (FitsSigned w32) v
fit_within r v ends within k d p = let x = within k d p in fits_between r.low r.high (get_or v k d) ends.low ends.high x.0 x.1
