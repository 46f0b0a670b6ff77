-- The answer of a call that may take memory, beside what its definition gives (this project's choice).
use Rattle.std.specs.Prelude.{◌≡◌, Result, Ok, Err}
use Rattle.drc_base.specs.declared.faults.Fault.{Fault}
use Rattle.drc_base.specs.declared.faults.Refusal.{Refusal}
use Rattle.drc_base.specs.declared.faults.Refusal.TheVariants as refusal

-- the refusal is the fault that is due; running out of memory is free
abbrev pub Refuses : {B : Type 0} → Result B Fault → Refusal → Type 0
Refuses due (refusal.Fault f) = due ≡ Err f
Refuses due refusal.Memory = Unit {0}

-- the answer is the value that is due, as contracts see it, or the fault that is due; running out of memory is free
abbrev pub Answers : {A B : Type 0} → (A → B) → Result B Fault → Result A Refusal → Type 0
Answers view due (Ok x) = due ≡ Ok (view x)
Answers view due (Err e) = Refuses due e
