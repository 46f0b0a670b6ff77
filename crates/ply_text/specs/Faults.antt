-- Answers that are a value or a first fault with its line.
use Rattle.std.specs.Prelude.{ℕ, Option, None, Some, Result, Ok, Err}
use Rattle.drc_base.specs.declared.faults.Fault.{Fault}
use Rattle.drc_base.specs.declared.kinds.Kind.{Kind}

-- the fault of this kind at this line
abbrev pub refuse : {A : Type 0} → Kind → ℕ → Result A Fault
refuse kind at = Err (record { kind = kind; at = at })

-- the value, or the fault where there is none
abbrev pub or_refuse : {A : Type 0} → Kind → ℕ → Option A → Result A Fault
or_refuse kind at None = refuse kind at
or_refuse kind at (Some x) = Ok x
