-- An Edgebreaker mesh that is read and not assembled yet (Draco Bitstream Specification 2.2, section "Draco Decoder"; that equal rows of
-- corners become one point is this project's choice).
use Rattle.std.specs.Prelude.{◌≡◌, ℕ, Some, Result, Ok, Err}
use Rattle.drc_base.specs.declared.faults.Fault.{Fault}
use Rattle.drc_base.specs.declared.faults.Refusal.{Refusal}
use Rattle.drc_base.specs.Profile.{profile_numbered}
use Rattle.drc_base.specs.Refusals.{Refuses}
use Rattle.drc_base.specs.Steps.{◌>>=◌}
use Rattle.mesh_model.specs.declared.geometries.Geometry.TheVariants as geometry
use Rattle.drc_container.specs.declared.reading.edgebreaker.SurfaceRead.{SurfaceRead}
use Rattle.drc_container.specs.reading.Meaning.{Meaning, surface_in}
use Rattle.drc_container.specs.reading.OnSurface.{at_end, assembled_in}
use Rattle.drc_container.specs.reading.AsRead.{tables_on, built_classes}

-- what is left to do with a value gives what is due; a refusal is the fault that is due
abbrev pub Leaves : {A B : Type 0} → (A → Result B Fault) → Result B Fault → Result A Refusal → Type 0
Leaves left due (Ok x) = due ≡ left x
Leaves left due (Err e) = Refuses due e

-- what is left is to assemble the mesh in the profile of this number; its faults are at the end of the stream
abbrev pub meaning_left : ℕ → SurfaceRead → Result Meaning Fault
meaning_left n r =
    at_end r.info.end (assembled_in (profile_numbered n) r.heads (tables_on (built_classes r.sides) r.decoders) r.sides.table.faces) >>= λ mesh.
    Ok (record { geometry = geometry.Mesh mesh; surface = Some (surface_in r.sides); info = r.info })
