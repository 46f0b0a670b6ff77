-- Faults as C has them, and the status of a refusal (this project's choice).
use Rattle.std.specs.Prelude.{ℕ, ◌≡◌, Some, slice_get}
use Rattle.drc_base.specs.declared.faults.Fault.{Fault}
use Rattle.drc_base.specs.declared.faults.Refusal.{Refusal}
use Rattle.drc_base.specs.declared.faults.Refusal.TheVariants as refusal
use Rattle.drc_c.specs.declared.faults.DrcFault.{DrcFault}
use Rattle.drc_c.specs.declared.kinds.TheConstants.{KINDS}
use Rattle.drc_c.specs.declared.statuses.TheConstants.{REFUSED, NO_MEMORY}

-- a fault as C has it: the number at which its kind stands in the list of kinds, and its place
abbrev pub IsTold : Fault → DrcFault → Type 0
IsTold f told = (slice_get KINDS told.kind ≡ Some f.kind) × (told.at ≡ f.at)

-- a refusal is reported by its status, and its fault is written; where memory ran out, the place for a fault is as before
abbrev pub RefusesBy : Refusal → DrcFault → DrcFault → ℕ → Type 0
RefusesBy (refusal.Fault f) old new status = (status ≡ REFUSED) × IsTold f new
RefusesBy refusal.Memory old new status = (status ≡ NO_MEMORY) × (new ≡ old)
