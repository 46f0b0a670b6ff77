-- A verdict that is due is that on a geometry and what a stream means.
use Rattle.std.proofs.Common.{◌≡◌, ◌↔◌, eqb, ℕ, ℤ, Bool, List, map, Result, Ok, Err, IfOk}
use Rattle.drc_base.specs.declared.faults.Refusal.{Refusal}
use Rattle.drc_base.specs.Profile.{Profile}
use Rattle.drc_base.specs.Refusals.{Answers}
use Rattle.mesh_model.specs.declared.geometries.Geometry.{Geometry}
use Rattle.drc_container.specs.reading.Meaning.{Meaning}
use Rattle.drc_container.specs.reading.Stream.{stream_in}
use Rattle.drc_container.proofs.lemmas.reading.Parted.{parts}
use Rattle.drc_verify.specs.declared.verdicts.Verdict.{Verdict}
use Rattle.drc_verify.specs.declared.verdicts.Verdict.TheVariants as verdict
use Rattle.drc_verify.specs.Checked.{read_in, IsSame}
use Rattle.drc_c.specs.declared.heads.DrcHead.{DrcHead}
use Rattle.drc_c.specs.declared.streams.DrcRow.{DrcRow}
use Rattle.drc_c.specs.Inputs.{geometry_meant}
use Rattle.drc_c.specs.Streams.{row_meant}
use Rattle.drc_c.specs.Verified.{IsVerified}

-- an answer to what is asked of the geometry that arrays mean
pub verified : (p : Profile) (surface : Bool) (mesh : ℕ) (heads : List DrcHead) (corners : List (List ℕ)) (values : List ℤ) (told : List DrcRow) (bytes : List ℕ)
    (g : Geometry) (r : Result Verdict Refusal) → geometry_meant mesh heads corners values ≡ Ok g →
    Answers (λ v. v) (read_in p surface (eqb mesh 0) (map row_meant told) g bytes) r →
    ((n : Meaning) → stream_in p bytes ≡ Ok n → IfOk r (λ v. (v ≡ verdict.Same) ↔ IsSame surface (eqb mesh 0) (map row_meant told) g n)) →
    IfOk r (λ v. IsVerified p surface mesh heads corners values told bytes v)
verified p surface mesh heads corners values told bytes g (Ok v) meant due same =
    let n = parts (stream_in p bytes) _ v due in
    record { geometry = g; geometry_is = meant; meaning = n.0; read = n.1; asked = n.2; same = same n.0 n.1 }
verified p surface mesh heads corners values told bytes g (Err e) meant due same = tt
