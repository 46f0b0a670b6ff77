-- Two rows go, and one comes.
use Rattle.corner_table.specs.Sides.{first, side_at}
use Rattle.eb_machine.specs.Named.{without, new_row}
use Rattle.eb_rows.specs.Rowed.{all_listed}
use Rattle.eb_rows.proofs.RowTables.{listed_one}
use Rattle.eb_rows.proofs.name_lists.rows_after_tip.Goals as goal

pub returns : goal.returns
returns c =
    listed_one c.in_ok-kept.kept.items c.in_ok-one.one.items c.first_row.result (without (side_at c.args.b) (without (side_at c.args.a) (all_listed c.args.rows.now))) (new_row c.args.face c.args.t first)
    c.in_ok-one.ensures c.in_ok-kept.ensures c.first_row.ensures
