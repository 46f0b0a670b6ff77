-- where rows are as many as the geometry has faces or points, all are looked at
use Rattle.drc_c.proofs.verifying.verify_rows.Goals as goal

pub returns-clause-same : goal.returns-clause-same
returns-clause-same c = rw (c.in_ok-map.ensures.kind, c.in_ok-map.ensures.rows) at c.verify_read.ensures.same
