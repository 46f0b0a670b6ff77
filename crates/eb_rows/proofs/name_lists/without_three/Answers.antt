-- The third row goes too.
use Rattle.std.proofs.Common.{ap, ◌∙◌}
use Rattle.corner_table.specs.Sides.{side_at}
use Rattle.eb_machine.specs.Named.{without}
use Rattle.eb_rows.specs.Rowed.{all_listed}
use Rattle.eb_rows.proofs.RowTables.{listed_without}
use Rattle.eb_rows.proofs.name_lists.without_three.Goals as goal

pub returns : goal.returns
returns c =
    listed_without c.as_slice.result.now c.in_ok-fewer.fewer.items c.args.c (without (side_at c.args.b) (without (side_at c.args.a) (all_listed c.args.rows.now))) c.in_ok-fewer.ensures
    (ap all_listed c.as_slice.ensures.value ∙ c.in_ok-some.ensures)
