-- Three rows more.
use Rattle.std.proofs.Common.{ap}
use Rattle.corner_table.specs.Sides.{first, second, third}
use Rattle.eb_machine.specs.Named.{new_row}
use Rattle.eb_rows.specs.Rowed.{all_listed}
use Rattle.eb_rows.proofs.RowTables.{listed_three}
use Rattle.eb_rows.proofs.name_lists.rows_after_end.Goals as goal

pub returns : goal.returns
returns c =
    let f = c.args.face in
    let t = c.args.t in
    listed_three c.in_ok-kept.kept.items c.in_ok-one.one.items c.in_ok-two.two.items c.in_ok-three.three.items c.first_row.result c.second_row.result c.third_row.result (all_listed c.args.rows.now) (new_row f t first) (new_row f t second) (new_row f t third)
    c.in_ok-one.ensures c.in_ok-two.ensures c.in_ok-three.ensures (ap all_listed c.in_ok-kept.ensures) c.first_row.ensures c.second_row.ensures c.third_row.ensures
