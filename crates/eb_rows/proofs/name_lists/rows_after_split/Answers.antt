-- Two rows go, the others are renamed, and one comes.
use Rattle.std.proofs.Common.{map, ap, ◌∙◌}
use Rattle.corner_table.specs.Sides.{first, side_at}
use Rattle.eb_machine.specs.Named.{without, new_row, renamed, renamed_row}
use Rattle.eb_rows.specs.Rowed.{all_listed}
use Rattle.eb_rows.proofs.RowTables.{listed_one, listed_renamed}
use Rattle.eb_rows.proofs.name_lists.rows_after_split.Goals as goal

pub returns : goal.returns
returns c =
    let a = c.args.a in
    let b = c.args.b in
    let rest = without (side_at b.side) (without (side_at a.side) (all_listed c.args.rows.now)) in
    listed_one c.in_ok-told.told.items c.in_ok-one.one.items c.first_row.result (map (renamed_row (renamed b.from a.to)) rest) (new_row c.args.face c.args.t first)
    c.in_ok-one.ensures (listed_renamed b.from a.to c.as_slice.result.now c.in_ok-told.told.items rest c.in_ok-told.ensures (ap all_listed c.as_slice.ensures.value ∙ c.in_ok-kept.ensures)) c.first_row.ensures
