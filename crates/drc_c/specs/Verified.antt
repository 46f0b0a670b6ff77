-- What the check of a stream against arrays of C gives (this project's choice).
use Rattle.std.specs.Prelude.{ℕ, ℤ, ◌≡◌, ◌↔◌, ◌==◌, ◌⊎◌, Bool, true, false, List, map, Option, None, Some, Result, Ok}
use Rattle.drc_base.specs.declared.faults.Fault.{Fault}
use Rattle.drc_base.specs.Profile.{Profile}
use Rattle.drc_base.specs.Steps.{◌>>=◌}
use Rattle.mesh_model.specs.declared.geometries.Geometry.{Geometry}
use Rattle.drc_verify.specs.declared.verdicts.Verdict.{Verdict}
use Rattle.drc_verify.specs.declared.verdicts.Verdict.TheVariants as verdict
use Rattle.drc_container.specs.reading.Meaning.{Meaning}
use Rattle.drc_container.specs.reading.Stream.{stream_in}
use Rattle.drc_verify.specs.Checked.{read_in, verdict_asked, IsSame}
use Rattle.drc_c.specs.declared.heads.DrcHead.{DrcHead}
use Rattle.drc_c.specs.declared.streams.DrcRow.{DrcRow}
use Rattle.drc_c.specs.declared.verdicts.DrcVerdict.{DrcVerdict}
use Rattle.drc_c.specs.declared.statuses.TheConstants.{DONE, NOT_SAME}
use Rattle.drc_c.specs.Inputs.{do_fit, geometry_meant}
use Rattle.drc_c.specs.Options.{flag_numbered}
use Rattle.drc_c.specs.Profiles.{is_profile}
use Rattle.drc_c.specs.Streams.{row_meant}

-- a verdict as C has it: the number of its case, and what it says it of
abbrev pub verdict_told : Verdict → DrcVerdict
verdict_told verdict.Same = record { kind = 0; at = 0 }
verdict_told verdict.Heads = record { kind = 1; at = 0 }
verdict_told (verdict.Rows r) = record { kind = 2; at = r }
verdict_told (verdict.Row i) = record { kind = 3; at = i }
verdict_told (verdict.Pair s) = record { kind = 4; at = s }

-- the status of a verdict
abbrev pub status_of : Verdict → ℕ
status_of verdict.Same = DONE
status_of verdict.Heads = NOT_SAME
status_of (verdict.Rows r) = NOT_SAME
status_of (verdict.Row i) = NOT_SAME
status_of (verdict.Pair s) = NOT_SAME

-- a verdict, where it is one on the number of rows, with this number of them
abbrev pub with_count : ℕ → Verdict → Verdict
with_count count verdict.Same = verdict.Same
with_count count verdict.Heads = verdict.Heads
with_count count (verdict.Rows r) = verdict.Rows count
with_count count (verdict.Row i) = verdict.Row i
with_count count (verdict.Pair s) = verdict.Pair s

-- the verdict on the geometry that arrays mean, the rows of its map, and a stream, read in a profile; or the first fault of the arrays,
-- then of the stream, then why there is no surface to compare
unfoldable pub verified_arrays : Profile → Bool → ℕ → List DrcHead → List (List ℕ) → List ℤ → List DrcRow → List ℕ → Result Verdict Fault
verified_arrays p surface mesh heads corners values told bytes =
    geometry_meant mesh heads corners values >>= λ g. read_in p surface (mesh == 0) (map row_meant told) g bytes

-- a verdict is that on the geometry that arrays mean and on what a stream means in a profile, and it is a yes exactly where the one is the
-- other by the rows
pub record IsVerified (p : Profile) (surface : Bool) (mesh : ℕ) (heads : List DrcHead) (corners : List (List ℕ)) (values : List ℤ)
    (told : List DrcRow) (bytes : List ℕ) (v : Verdict) : Type 0 where
  pub geometry : Geometry
  pub geometry_is : geometry_meant mesh heads corners values ≡ Ok geometry
  pub meaning : Meaning
  pub read : stream_in p bytes ≡ Ok meaning
  pub asked : verdict_asked surface (mesh == 0) (map row_meant told) geometry meaning ≡ Ok v
  pub same : (v ≡ verdict.Same) ↔ IsSame surface (mesh == 0) (map row_meant told) geometry meaning

-- whether surfaces are asked for, where the arrays fit each other, the profile is one, and the number of the surface says so
abbrev pub Asks : ℕ → List DrcHead → List (List ℕ) → List ℤ → ℕ → ℕ → Option Bool → Type 0
Asks mesh heads corners values profile surface (Some asked) =
    (do_fit mesh heads corners values ≡ true) × (is_profile profile ≡ true) × (flag_numbered surface ≡ Some asked)
Asks mesh heads corners values profile surface None =
    (do_fit mesh heads corners values ≡ false) ⊎ (is_profile profile ≡ false) ⊎ (flag_numbered surface ≡ None)
