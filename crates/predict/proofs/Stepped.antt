-- The predictions of the table by their steps: what these restore, and where they lack flags.
use Rattle.std.proofs.Common.{◌≡◌, ℕ, zero, suc, ◌+◌, ◌*◌, ◌/◌, ◌<◌, ◌≤◌, ◌&&◌, nat_le, Bool, true, false, ℤ, List, [], ◌∷◌, ◌++◌, length, get_or, FitsSigned, Option, None, Some, Result, Ok, Err, inl, inr, refl, sym, ◌∙◌, ap, arith}
use Rattle.std.specs.Prelude.{IfOk, MatchResult}
use Rattle.std.specs.List.{All, list_all, range_with_len}
use Rattle.std.proofs.lemmas.Bool.{cases_eq, cases_Bool, leb-true, false≢true}
use Rattle.std.proofs.lemmas.List.{length-append}
use Rattle.std.proofs.lemmas.List.Elements.{All-nil}
use Rattle.std.specs.Int.{w32}
use Rattle.std.proofs.Math.Nat.{div-lt_iff_lt-mul, div-le_of_le-mul, lt-mul-div-succ, mul-div_cancel}
use Rattle.drc_base.specs.declared.kinds.Kind.{Kind}
use Rattle.drc_base.specs.declared.kinds.Kind.TheVariants as kind
use Rattle.corner_table.specs.Ordered.{Ordered}
use Rattle.predict.specs.declared.schemes.Prediction.{Prediction}
use Rattle.predict.specs.declared.schemes.Prediction.TheVariants as prediction
use Rattle.predict.specs.declared.transforms.Transform.{Transform}
use Rattle.predict.specs.declared.transforms.Transform.TheVariants as transform
use Rattle.predict.specs.Schemes.{flag_lists}
use Rattle.predict.specs.Wrap.{Range, CanWrap, restored_value, correction_of}
use Rattle.predict.specs.Restored.{restored, corrections}
use Rattle.predict.specs.Stepping.{restored_by, corrected_by}
use Rattle.predict.specs.Surfaces.{surface_or, CanStand}
use Rattle.predict.specs.Foretold.{foretold, wanted_before, wanted_of, HasWanted, LacksWanted, has_flags, step_of, restored_with}
use Rattle.predict.specs.Laws.{PredictionsAreSteps}
use Rattle.predict.proofs.Kept.{wanted_grows}
use Rattle.predict.proofs.Foretold.{flags_stand}
use Rattle.predict.proofs.Restoring.{InRange, Keeps, keeps_back}
use Rattle.predict.proofs.Steps.{steps_restore, length-restored_by, restored_by-function, corrected_by-function}

-- a test of each number from a on
all_pass : (p : ℕ → Bool) (a n : ℕ) → ((k : ℕ) → a ≤ k → k < a + n → p k ≡ true) → list_all p (range_with_len a n) ≡ true
all_pass p a zero each = refl
all_pass p a (suc n) each =
    let here = each a (omega arith) (omega arith) in
    let others = all_pass p (a + 1) n (λ k from to. each k (omega arith) (omega arith)) in
    rw here others

each_passes : (p : ℕ → Bool) (a n : ℕ) → list_all p (range_with_len a n) ≡ true → (k : ℕ) → a ≤ k → k < a + n → p k ≡ true
each_passes p a zero all k from to = absurd (omega arith)
each_passes p a (suc n) all k from to =
    let both = both_pass (p a) (list_all p (range_with_len (a + 1) n)) all in
    elim (cases_eq k a) [
      | inl is ↦ ap p is ∙ both.0
      | inr other ↦ each_passes p (a + 1) n both.1 k (omega arith) (omega arith)
    ]
  where
    both_pass : (x y : Bool) → (x && y) ≡ true → (x ≡ true) × (y ≡ true)
    both_pass true y is = (refl, is)
    both_pass false y is = absurd (false≢true is)

le_passes : (a b : ℕ) → a ≤ b → nat_le a b ≡ true
le_passes a b below = grind arith

-- each list has the flags that the entries before e need of it
abbrev pub HasBefore : Prediction → Ordered → List (List Bool) → ℕ → Type 0
HasBefore q w lists e = (k : ℕ) → k < flag_lists q → wanted_before q w k e ≤ length (get_or lists k [])

pub before_pass : (q : Prediction) (w : Ordered) (lists : List (List Bool)) (e : ℕ) → HasBefore q w lists e → has_flags q w lists e ≡ true
before_pass q w lists e has =
    all_pass (λ k. nat_le (wanted_before q w k e) (length (get_or lists k []))) 0 (flag_lists q)
    (λ k from to. le_passes (wanted_before q w k e) (length (get_or lists k [])) (has k (omega arith)))

pub before_passed : (q : Prediction) (w : Ordered) (lists : List (List Bool)) (e : ℕ) → has_flags q w lists e ≡ true → HasBefore q w lists e
before_passed q w lists e passes = λ k low.
    leb-true (wanted_before q w k e) (length (get_or lists k []))
    (each_passes (λ k. nat_le (wanted_before q w k e) (length (get_or lists k []))) 0 (flag_lists q) passes k (omega arith) (omega arith))

-- what is needed grows from entry to entry
before_grows : (q : Prediction) (w : Ordered) (k d e : ℕ) → d ≤ e → wanted_before q w k d ≤ wanted_before q w k e
before_grows prediction.Multi w k d e later = wanted_grows w (suc k) d e later
before_grows _ w k d e later = omega arith

has_fewer : (q : Prediction) (w : Ordered) (lists : List (List Bool)) (d e : ℕ) → d ≤ e → HasBefore q w lists e → HasBefore q w lists d
has_fewer q w lists d e later has = λ k low.
    let more = has k low in
    let grows = before_grows q w k d e later in
    omega arith

-- a step that has its flags, and one that lacks some
step-has : (q : Prediction) (w : Ordered) (comps : ℕ) (lists : List (List Bool)) (before : List ℤ) → has_flags q w lists (suc (length before / comps)) ≡ true
    → step_of q w comps before lists ≡ Ok (foretold q w comps lists before, lists)
unfolding step_of
step-has q w comps lists before passes = rw passes refl

step-lacks : (q : Prediction) (w : Ordered) (comps : ℕ) (lists : List (List Bool)) (before : List ℤ) → has_flags q w lists (suc (length before / comps)) ≡ false
    → step_of q w comps before lists ≡ Err kind.FlagsShort
unfolding step_of
step-lacks q w comps lists before fails = rw fails refl

-- so many values are whole entries of a surface, where a prediction has flags
abbrev pub AreWhole : Prediction → Ordered → ℕ → ℕ → Type 0
AreWhole q w comps n = 0 < flag_lists q → n ≡ length w.corners * comps

pub stand_whole : (q : Prediction) (w : Option Ordered) (comps n : ℕ) → CanStand q w comps n → AreWhole q (surface_or w) comps n
stand_whole q None comps n can = λ some. absurd (can.stand (flags_stand q some))
stand_whole q (Some w) comps n can = λ some. can.stand (flags_stand q some)

-- the entry of a value is one of the surface's
entry_within : (m n comps entries : ℕ) → 0 < comps → m < n → n ≡ entries * comps → suc (m / comps) ≤ entries
entry_within m n comps entries some here is =
    let below : m / comps < entries = (div-lt_iff_lt-mul {k = comps} {x = m} {y = entries} some).1 (omega (arith, here, is)) in
    omega (arith, below)

-- where the flags are enough each step has its own
steps_told : (q : Prediction) (w : Ordered) (comps : ℕ) (lists : List (List Bool)) (n : ℕ) → 0 < comps → AreWhole q w comps n → HasWanted q w lists
    → (before : List ℤ) → length before < n → step_of q w comps before lists ≡ Ok (foretold q w comps lists before, lists)
steps_told q w comps lists n some whole has before here =
    step-has q w comps lists before (before_pass q w lists (suc (length before / comps)) (λ k low.
    has_fewer q w lists (suc (length before / comps)) (length w.corners) (entry_within (length before) n comps (length w.corners) some here (whole (omega (arith, low)))) has k low))

pub restored_enough : (q : Prediction) (w : Ordered) (comps : ℕ) (lists : List (List Bool)) (r : Range) (cs : List ℤ) → 0 < comps → AreWhole q w comps (length cs)
    → HasWanted q w lists → restored_with transform.Wrap q w comps lists r cs ≡ Ok (restored (foretold q w comps lists) r cs)
unfolding restored_with
restored_enough q w comps lists r cs some whole has =
    restored_by-function (step_of q w comps) (foretold q w comps lists) r lists (length cs) (steps_told q w comps lists (length cs) some whole has) [] cs (omega arith)

pub corrected_enough : (q : Prediction) (w : Ordered) (comps : ℕ) (lists : List (List Bool)) (r : Range) (vs : List ℤ) → 0 < comps → AreWhole q w comps (length vs)
    → HasWanted q w lists → corrected_by (step_of q w comps) (correction_of r) [] lists vs ≡ Ok (corrections (foretold q w comps lists) r vs)
corrected_enough q w comps lists r vs some whole has =
    corrected_by-function (step_of q w comps) (foretold q w comps lists) r lists (length vs) (steps_told q w comps lists (length vs) some whole has) [] vs (omega arith)

-- and with them corrections of values of the range restore these
pub restored_again : (q : Prediction) (w : Ordered) (comps : ℕ) (lists : List (List Bool)) (r : Range) (vs : List ℤ) → 0 < comps → AreWhole q w comps (length vs)
    → CanWrap r → All (InRange r) vs → All (FitsSigned w32) vs → HasWanted q w lists
    → restored_with transform.Wrap q w comps lists r (corrections (foretold q w comps lists) r vs) ≡ Ok vs
unfolding restored_with
restored_again q w comps lists r vs some whole can within fits has =
    steps_restore (Keeps r) (step_of q w comps) (restored_value r) (correction_of r) [] lists vs (corrections (foretold q w comps lists) r vs)
    (λ before flags x v good one keeps. keeps_back r x.0 v can keeps) (All-nil (Keeps r)) (λ k d below. (within k d below, fits k d below))
    (corrected_enough q w comps lists r vs some whole has)

-- the entry behind one value more is the same or the next
entry_on : (m comps : ℕ) → 0 < comps → (m + 1) / comps ≤ suc (m / comps)
entry_on m comps some =
    let below = lt-mul-div-succ m {b = comps} some in
    div-le_of_le-mul comps {m = m + 1} {n = suc (m / comps)} (omega (arith, below))

-- where they aren't, the steps come to one that lacks some
lacking : (q : Prediction) (w : Ordered) (comps : ℕ) (lists : List (List Bool)) (r : Range) (before cs : List ℤ) → 0 < comps → length before + length cs ≡ length w.corners * comps
    → HasBefore q w lists (length before / comps) → LacksWanted q w lists → restored_by (step_of q w comps) (restored_value r) before lists cs ≡ Err kind.FlagsShort
unfolding restored_by
lacking q w comps lists r before [] some whole has (k, low, lacks) =
    let all : length before / comps ≡ length w.corners = ap (λ (m : ℕ). m / comps) (let is : length before ≡ length w.corners * comps = omega (arith, whole) in is) ∙ mul-div_cancel (length w.corners) {n = comps} some in
    let enough : wanted_of q w k ≤ length (get_or lists k []) = has_fewer q w lists (length w.corners) (length before / comps) (omega (arith, all)) has k low in
    absurd (omega (arith, enough, lacks))
lacking q w comps lists r before (c ∷ cs) some whole has lacks = elim (cases_Bool (has_flags q w lists (suc (length before / comps)))) [
  | inl passes ↦
      let next : List ℤ = before ++ restored_value r (foretold q w comps lists before) c ∷ [] in
      let l : length next ≡ length before + 1 = length-append before (restored_value r (foretold q w comps lists before) c ∷ []) in
      let on : length next / comps ≤ suc (length before / comps) = rw l (entry_on (length before) comps some) in
      rw (step-has q w comps lists before passes)
      (lacking q w comps lists r next cs some (omega (arith, whole, l))
      (has_fewer q w lists (length next / comps) (suc (length before / comps)) on (before_passed q w lists (suc (length before / comps)) passes)) lacks)
  | inr fails ↦ rw (step-lacks q w comps lists before fails) refl
]

-- nothing is needed before the first entry
none_before : (q : Prediction) (w : Ordered) (k : ℕ) → wanted_before q w k 0 ≡ 0
unfolding Rattle.predict.specs.Multi.wanted
none_before prediction.Multi w k = refl
none_before _ w k = refl

pub restored_short : (q : Prediction) (w : Ordered) (comps : ℕ) (lists : List (List Bool)) (r : Range) (cs : List ℤ) → 0 < comps → AreWhole q w comps (length cs)
    → LacksWanted q w lists → restored_with transform.Wrap q w comps lists r cs ≡ Err kind.FlagsShort
unfolding restored_with
restored_short q w comps lists r cs some whole lacks =
    let all : length cs ≡ length w.corners * comps = whole (omega (arith, lacks.1)) in
    lacking q w comps lists r [] cs some (omega (arith, all))
    (λ k low. let none = none_before q w k in let first : 0 / comps ≡ 0 = omega arith in rw first (omega (arith, none))) lacks

-- there is a value for each correction
pub length-restored_with : (t : Transform) (q : Prediction) (w : Ordered) (comps : ℕ) (lists : List (List Bool)) (r : Range) (cs vs : List ℤ)
    → restored_with t q w comps lists r cs ≡ Ok vs → length vs ≡ length cs
unfolding restored_with
length-restored_with transform.Wrap q w comps lists r cs vs is =
    length-restored_by (step_of q w comps) (restored_value r) [] lists cs vs is ∙ omega arith

-- a list that has fewer flags than are needed fails the test
pub lacks_fail : (q : Prediction) (w : Ordered) (lists : List (List Bool)) → LacksWanted q w lists → has_flags q w lists (length w.corners) ≡ false
lacks_fail q w lists (k, low, lacks) = elim (cases_Bool (has_flags q w lists (length w.corners))) [
  | inl passes ↦ let has = before_passed q w lists (length w.corners) passes k low in absurd (omega arith)
  | inr fails ↦ fails
]

pub stepped : PredictionsAreSteps
stepped = record {
  restored = λ q w comps lists r cs some can has. restored_enough q (surface_or w) comps lists r cs some (stand_whole q w comps (length cs) can) has;
  short = λ q w comps lists r cs some can lacks. restored_short q (surface_or w) comps lists r cs some (stand_whole q w comps (length cs) can) lacks;
  corrected = λ q w comps lists r vs some can has. corrected_enough q (surface_or w) comps lists r vs some (stand_whole q w comps (length vs) can) has;
  again = λ q w comps lists r vs some can wraps values has.
      restored_again q (surface_or w) comps lists r vs some (stand_whole q w comps (length vs) can) wraps values.within values.fit has;
  enough = λ q w lists e. (before_passed q w lists e, before_pass q w lists e);
  lacking = lacks_fail;
}

-- values that are restored, and why none are
abbrev restores : List ℤ → Result (List ℤ) Kind
restores values = Ok values

abbrev refuses : Kind → Result (List ℤ) Kind
refuses k = Err k

-- what is answered is due
pub restored_due : {A : Type 0} (items : A → List ℤ) (q : Prediction) (w : Option Ordered) (comps : ℕ) (lists : List (List Bool)) (r : Range) (cs : List ℤ) (answer : Result A Kind)
    → 0 < comps → CanStand q w comps (length cs) → IfOk answer (λ v. items v ≡ restored (foretold q (surface_or w) comps lists) r cs)
    → MatchResult answer (λ _. HasWanted q (surface_or w) lists) (λ k. (k ≡ kind.FlagsShort) × LacksWanted q (surface_or w) lists)
    → MatchResult answer (λ v. restored_with transform.Wrap q (surface_or w) comps lists r cs ≡ Ok (items v)) (λ k. restored_with transform.Wrap q (surface_or w) comps lists r cs ≡ Err k)
restored_due items q w comps lists r cs (Ok v) some can is has =
    restored_enough q (surface_or w) comps lists r cs some (stand_whole q w comps (length cs) can) has ∙ sym (ap restores is)
restored_due items q w comps lists r cs (Err k) some can is lacks =
    restored_short q (surface_or w) comps lists r cs some (stand_whole q w comps (length cs) can) lacks.1 ∙ sym (ap refuses lacks.0)
