-- whole rows for C are whole rows, and the steps give what is due
use Rattle.std.proofs.Common.{◌≡◌, Ok}
use Rattle.drc_c.specs.Inputs.{geometry_meant}
use Rattle.drc_c.proofs.EarlyFaults.{meant-there}
use Rattle.drc_c.proofs.EncodedArrays.{encoded-is, encoding-is}
use Rattle.drc_c.proofs.WholeRows.{rows_whole, answers-exact}
use Rattle.drc_c.proofs.encoding.encode_arrays.Goals.{In_ok-rows}
use Rattle.drc_c.proofs.encoding.encode_arrays.Goals as goal

pub geometry_lent-requires : goal.geometry_lent-requires
geometry_lent-requires c =
    rw (c.as_slice.ensures.value, meant-there _ _ _ c.in_ok-heads.ensures.answer)
    (rows_whole c.args.mesh c.args.heads.now c.args.corners.now c.args.values.now c.requires)

-- the geometry that is lent is the one that is meant
meant : (c : In_ok-rows) → geometry_meant c.args.mesh c.args.heads.now c.args.corners.now c.args.values.now ≡ Ok c.in_ok-g.g
meant c =
    answers-exact (geometry_meant c.args.mesh c.args.heads.now c.args.corners.now c.args.values.now) (Ok c.in_ok-g.g)
    (rw (c.as_slice.ensures.value, meant-there _ _ _ c.in_ok-heads.ensures.answer) at c.in_ok-g.ensures)

pub returns-clause-answer : goal.returns-clause-answer
returns-clause-answer c =
    encoded-is c.args.profile.number c.args.mesh c.args.heads.now c.args.corners.now c.args.values.now c.args.choice.now c.in_ok-g.g c.in_ok-bytes.bytes.items
    c.in_ok-bytes.renumber.rows c.in_ok-rows.rows.items (meant (goal.at.returns-clause-answer c).In_ok-rows) c.in_ok-test_profile.ensures c.in_ok-bytes.ensures.answer c.in_ok-rows.ensures

pub returns-clause-means : goal.returns-clause-means
returns-clause-means c =
    encoding-is c.args.profile.number c.args.mesh c.args.heads.now c.args.corners.now c.args.values.now c.args.choice.now c.in_ok-g.g c.in_ok-bytes.bytes.items
    c.in_ok-bytes.renumber.rows c.in_ok-rows.rows.items (meant (goal.at.returns-clause-means c).In_ok-rows) c.in_ok-test_profile.ensures c.in_ok-bytes.ensures.answer c.in_ok-rows.ensures
    c.in_ok-bytes.ensures.means c.in_ok-bytes.ensures.layout
