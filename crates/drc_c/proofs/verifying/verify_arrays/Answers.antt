-- the verdict on the geometry that was made of the arrays
use Rattle.drc_base.specs.Profile.{profile_numbered}
use Rattle.drc_c.proofs.VerifiedArrays.{verified}
use Rattle.drc_c.proofs.verifying.verify_arrays.Goals as goal

pub returns-clause-verified : goal.returns-clause-verified
returns-clause-verified c =
    verified (profile_numbered c.args.profile.number) c.args.surface c.args.mesh c.args.heads.now c.args.corners.now c.args.values.now
    c.args.rows.now c.args.bytes.now
    c.in_ok-g.g c.verify_rows.result c.in_ok-g.ensures.answer c.verify_rows.ensures.verdict c.verify_rows.ensures.same
