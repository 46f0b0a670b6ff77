-- Both rows go.
use Rattle.std.proofs.Common.{ap, ◌∙◌, refl}
use Rattle.corner_table.specs.Sides.{side_at}
use Rattle.eb_machine.specs.Named.{without}
use Rattle.eb_rows.specs.Rowed.{all_listed}
use Rattle.eb_rows.proofs.RowTables.{listed_without}
use Rattle.eb_rows.proofs.name_lists.without_two.Goals as goal

pub returns : goal.returns
returns c =
    let rows = all_listed c.args.rows.now in
    listed_without c.as_slice.result.now c.in_ok-fewer.fewer.items c.args.b (without (side_at c.args.a) rows) c.in_ok-fewer.ensures
    (ap all_listed c.as_slice.ensures.value ∙ listed_without c.args.rows.now c.in_ok-some.some.items c.args.a rows c.in_ok-some.ensures refl)
