-- The first of several tests that fails, and answers that give it (this project's choice).
use Rattle.std.specs.Prelude.{ℕ, ◌≡◌, Bool, List, [], ◌∷◌, Option, None, Some, Result, Ok, Err, if◌then◌else◌}
use Rattle.drc_base.specs.declared.faults.Fault.{Fault}
use Rattle.drc_base.specs.declared.faults.Refusal.{Refusal}
use Rattle.drc_base.specs.declared.faults.Refusal.TheVariants as refusal
use Rattle.drc_base.specs.declared.kinds.Kind.{Kind}

-- no fault where a test holds, else a fault of this kind with this number
abbrev pub unless : Bool → Kind → ℕ → Option Fault
unless holds kind at = if holds then None else Some (record { kind = kind; at = at })

-- the first fault of a list of tests
abbrev pub first_fault : List (Option Fault) → Option Fault
first_fault [] = None
first_fault (None ∷ tests) = first_fault tests
first_fault (Some fault ∷ tests) = Some fault

-- a fault at the first place that fails, where there is one
abbrev pub at_place : Kind → Option ℕ → Option Fault
at_place kind None = None
at_place kind (Some at) = Some (record { kind = kind; at = at })

-- a value, or the fault that comes before it
abbrev pub value_unless : {A : Type 0} → Option Fault → A → Result A Fault
value_unless None value = Ok value
value_unless (Some fault) value = Err fault

-- what a call that takes no memory answers for a value or a fault
abbrev pub answer_of : {A : Type 0} → Result A Fault → Result A Refusal
answer_of (Ok value) = Ok value
answer_of (Err fault) = Err (refusal.Fault fault)

-- a test answers its fault, and is passed where it has none
abbrev pub Tests : {A : Type 0} → Option Fault → Result A Fault → Type 0
Tests due (Ok value) = due ≡ None
Tests due (Err fault) = due ≡ Some fault
