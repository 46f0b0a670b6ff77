-- A row goes, and two come.
use Rattle.std.proofs.Common.{refl}
use Rattle.corner_table.specs.Sides.{first, side_at}
use Rattle.eb_machine.specs.Beside.{free_place}
use Rattle.eb_machine.specs.Named.{without, new_row}
use Rattle.eb_rows.specs.Rowed.{all_listed}
use Rattle.eb_rows.proofs.RowTables.{listed_two, listed_without}
use Rattle.eb_rows.proofs.name_lists.rows_after_beside.Goals as goal

pub returns : goal.returns
returns c =
    let f = c.args.face in
    let t = c.args.t in
    let rows = all_listed c.args.rows.now in
    listed_two c.in_ok-kept.kept.items c.in_ok-one.one.items c.in_ok-two.two.items c.first_row.result c.free_row.result (without (side_at c.args.a) rows) (new_row f t first) (new_row f t (free_place c.args.beside))
    c.in_ok-one.ensures c.in_ok-two.ensures (listed_without c.args.rows.now c.in_ok-kept.kept.items c.args.a rows c.in_ok-kept.ensures refl) c.first_row.ensures c.free_row.ensures
