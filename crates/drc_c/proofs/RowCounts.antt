-- Refusals of streams that can't be put back by so many rows.
use Rattle.std.proofs.Common.{◌≡◌, ℕ, Bool, List, map, Some, Result, Ok, Err, refl}
use Rattle.drc_base.specs.declared.faults.Fault.{Fault}
use Rattle.drc_base.specs.declared.faults.Refusal.{Refusal}
use Rattle.drc_base.specs.declared.faults.Refusal.TheVariants as refusal
use Rattle.drc_base.specs.Profile.{Profile}
use Rattle.drc_base.specs.Refusals.{Refuses}
use Rattle.drc_base.specs.Steps.{◌>>=◌}
use Rattle.mesh_model.specs.declared.geometries.Geometry.{Geometry}
use Rattle.drc_container.specs.reading.Stream.{meaning_in}
use Rattle.drc_recode.specs.PutBack.{fit_fault}
use Rattle.drc_c.specs.declared.streams.DrcRow.{DrcRow}
use Rattle.drc_c.specs.Recoded.{restored_told}
use Rattle.drc_c.specs.Streams.{row_meant}

-- what refuses a stream refuses that it is put back
pub refuses_then : (p : Profile) (cloud : Bool) (rows : List DrcRow) (bytes : List ℕ) (e : Refusal)
    → Refuses (meaning_in p bytes) e → Refuses (restored_told p cloud rows bytes) e
refuses_then p cloud rows bytes refusal.Memory is = tt
refuses_then p cloud rows bytes (refusal.Fault f) is = rw is refl

-- what a map doesn't fit isn't put back by it
pub unfit_refused : (p : Profile) (cloud : Bool) (rows : List DrcRow) (bytes : List ℕ) (g : Geometry) (f : Fault)
    → meaning_in p bytes ≡ Ok g → fit_fault cloud (map row_meant rows) g ≡ Some f → restored_told p cloud rows bytes ≡ Err f
unfit_refused p cloud rows bytes g f read fault = rw (read, fault) refl
