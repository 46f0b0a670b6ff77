use Rattle.mesh_model.proofs.Hashes.{Chosen-hashes}
use Rattle.mesh_model.proofs.row_index.linked_rows.Goals as goal

pub returns-clause-chosen : goal.returns-clause-chosen
returns-clause-chosen c =
    Chosen-hashes c.args.rows.now.table.rows c.args.rows.now.table.count c.in_ok-hashes.hashes.items c.in_ok-chosen.chosen.items c.in_ok-hashes.ensures.hashes
    (rw c.as_slice.ensures.value at c.in_ok-chosen.ensures)
