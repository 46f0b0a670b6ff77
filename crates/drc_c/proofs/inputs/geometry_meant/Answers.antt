-- whole rows for C are whole rows
use Rattle.drc_c.proofs.EarlyFaults.{meant-there}
use Rattle.drc_c.proofs.WholeRows.{rows_whole}
use Rattle.drc_c.proofs.inputs.geometry_meant.Goals as goal

pub geometry_lent-requires : goal.geometry_lent-requires
geometry_lent-requires c =
    rw (c.as_slice.ensures.value, meant-there _ _ _ c.in_ok-heads.ensures.answer)
    (rows_whole c.args.mesh c.args.heads.now c.args.corners.now c.args.values.now c.requires)
