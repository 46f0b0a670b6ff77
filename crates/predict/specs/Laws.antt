-- What holds of every prediction, of those of the table, and of the flags of constrained multi-parallelogram prediction.
use Rattle.std.specs.Prelude.{◌≡◌, ◌↔◌, ℕ, ◌*◌, ◌<◌, ◌≤◌, ◌≤ℤ◌, ℤ, Bool, false, IsTrue, List, [], length, get_or, All, FitsSigned, Option, Ok, Err}
use Rattle.std.specs.Int.{w32}
use Rattle.drc_base.specs.declared.kinds.Kind.TheVariants as kind
use Rattle.corner_table.specs.Sides.{IsGluing}
use Rattle.corner_table.specs.Fans.{InFan}
use Rattle.corner_table.specs.Ordered.{Ordered, IsOver, corner_at}
use Rattle.predict.specs.declared.schemes.Prediction.{Prediction}
use Rattle.predict.specs.declared.transforms.Transform.TheVariants as transform
use Rattle.predict.specs.Schemes.{flag_lists}
use Rattle.predict.specs.Wrap.{Range, CanWrap, correction_of, least_correction, greatest_correction}
use Rattle.predict.specs.Restored.{restored, corrections}
use Rattle.predict.specs.Stepping.{Step, restored_by, corrected_by}
use Rattle.predict.specs.Surfaces.{surface_or, CanStand}
use Rattle.predict.specs.Multi.{wanted}
use Rattle.predict.specs.Foretold.{foretold, wanted_before, HasWanted, LacksWanted, has_flags, step_of, restored_with}

-- a value that a test lets pass
abbrev pub Passes : {V : Type 0} → (V → Bool) → V → Type 0
Passes test v = IsTrue (test v)

-- behind values that pass, the correction of a value that passes restores it, whatever a step predicts there
abbrev pub Undoes : {V F E : Type 0} → (V → Bool) → Step V F E → (V → V → V) → (V → V → V) → Type 0
Undoes {V} {F} {E} test step move back = (before : List V) (flags : F) (x : V × F) (v : V) → All (Passes test) before → step before flags ≡ Ok x
    → Passes test v → move x.0 (back x.0 v) ≡ v

-- then, whatever predicts and whatever flags it takes, the corrections of values that pass restore them with the same flags
abbrev pub StepsRestore : Type 0 → Type 0 → Type 0 → Type 0
StepsRestore V F E = (test : V → Bool) (step : Step V F E) (move back : V → V → V) (flags : F) (values corrections : List V) → Undoes test step move back
    → All (Passes test) values → corrected_by step back [] flags values ≡ Ok corrections → restored_by step move [] flags corrections ≡ Ok values

-- values that have 32 bits and lie in the range
pub record AreIn (r : Range) (values : List ℤ) : Type 0 where
  pub fit : All (FitsSigned w32) values
  pub within : All (λ x. (r.low ≤ℤ x) × (x ≤ℤ r.high)) values

-- the predictions of the table by their steps, with wrap as the move. For values that stand on their surface: with the flags that are
-- needed the steps restore the list of the function that foretells, its corrections are theirs, and those of values of the range restore
-- them; without the flags the steps end with FlagsShort. And the test of flags is true exactly where each list has those that are needed
pub record PredictionsAreSteps : Type 0 where
  pub restored : (q : Prediction) (w : Option Ordered) (comps : ℕ) (lists : List (List Bool)) (r : Range) (cs : List ℤ) → 0 < comps → CanStand q w comps (length cs)
      → HasWanted q (surface_or w) lists
      → restored_with transform.Wrap q (surface_or w) comps lists r cs ≡ Ok (restored (foretold q (surface_or w) comps lists) r cs)
  pub short : (q : Prediction) (w : Option Ordered) (comps : ℕ) (lists : List (List Bool)) (r : Range) (cs : List ℤ) → 0 < comps → CanStand q w comps (length cs)
      → LacksWanted q (surface_or w) lists
      → restored_with transform.Wrap q (surface_or w) comps lists r cs ≡ Err kind.FlagsShort
  pub corrected : (q : Prediction) (w : Option Ordered) (comps : ℕ) (lists : List (List Bool)) (r : Range) (vs : List ℤ) → 0 < comps → CanStand q w comps (length vs)
      → HasWanted q (surface_or w) lists
      → corrected_by (step_of q (surface_or w) comps) (correction_of r) [] lists vs ≡ Ok (corrections (foretold q (surface_or w) comps lists) r vs)
  pub again : (q : Prediction) (w : Option Ordered) (comps : ℕ) (lists : List (List Bool)) (r : Range) (vs : List ℤ) → 0 < comps → CanStand q w comps (length vs)
      → CanWrap r → AreIn r vs → HasWanted q (surface_or w) lists
      → restored_with transform.Wrap q (surface_or w) comps lists r (corrections (foretold q (surface_or w) comps lists) r vs) ≡ Ok vs
  pub enough : (q : Prediction) (w : Ordered) (lists : List (List Bool)) (e : ℕ)
      → IsTrue (has_flags q w lists e) ↔ ((k : ℕ) → k < flag_lists q → wanted_before q w k e ≤ length (get_or lists k []))
  pub lacking : (q : Prediction) (w : Ordered) (lists : List (List Bool)) → LacksWanted q w lists → has_flags q w lists (length w.corners) ≡ false

-- whatever function of the values before predicts, the corrections restore the values
abbrev pub CorrectionsRestore : Type 0
CorrectionsRestore = (predicted : List ℤ → ℤ) (r : Range) (values : List ℤ) → CanWrap r → AreIn r values →
    restored predicted r (corrections predicted r values) ≡ values

-- and they are of at most half a span
abbrev pub CorrectionsAreSmall : Type 0
CorrectionsAreSmall = (predicted : List ℤ → ℤ) (r : Range) (values : List ℤ) → CanWrap r → AreIn r values →
    All (λ x. (least_correction r ≤ℤ x) × (x ≤ℤ greatest_correction r)) (corrections predicted r values)

-- no two entries stand at one vertex
abbrev pub AreApart : Ordered → Type 0
AreApart w = (i j : ℕ) → i < length w.corners → j < length w.corners → InFan w.gluing (corner_at w i) (corner_at w j) → i ≡ j

-- then no list has to have more flags than there are corners
abbrev pub FlagsAreFew : Type 0
FlagsAreFew = (faces : ℕ) (w : Ordered) → IsGluing faces w.gluing → IsOver faces w → AreApart w → (k : ℕ) →
    wanted w k (length w.corners) ≤ 3 * faces
