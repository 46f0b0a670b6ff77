-- A triangle more, two rows less, and a row more.
use Rattle.std.proofs.Common.{List, [], ◌∷◌, ◌++◌, ap, ◌∙◌}
use Rattle.corner_table.specs.Sides.{first, side_at}
use Rattle.eb_machine.specs.Named.{Triangle, new_row, without}
use Rattle.eb_rows.specs.declared.active_rows.Row.{Row}
use Rattle.eb_rows.specs.Rowed.{all_listed}
use Rattle.eb_rows.proofs.name_lists.after_tip.Goals as goal

pub returns-clause-triangles : goal.returns-clause-triangles
returns-clause-triangles c =
    let t : Triangle = (c.args.a.from, c.args.b.from, c.args.a.to) in
    c.in_ok-triangles.ensures ∙ ap (λ (l : List Triangle). l ++ (t ∷ [])) c.as_slice.ensures.value

pub returns-clause-rows : goal.returns-clause-rows
returns-clause-rows c =
    let a = c.args.a in
    let b = c.args.b in
    let t : Triangle = (a.from, b.from, a.to) in
    c.in_ok-rows.ensures ∙ ap (λ (l : List Row). without (side_at b.side) (without (side_at a.side) (all_listed l)) ++ (new_row c.args.face t first ∷ [])) c.as_slice-2.ensures.value
