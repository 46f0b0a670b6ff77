-- A triangle more, a row less, and two rows more.
use Rattle.std.proofs.Common.{List, [], ◌∷◌, ◌++◌, ap, ◌∙◌}
use Rattle.corner_table.specs.Sides.{first, side_at}
use Rattle.eb_machine.specs.Beside.{free_place}
use Rattle.eb_machine.specs.Named.{Triangle, new_row, without}
use Rattle.eb_rows.specs.declared.active_rows.Row.{Row}
use Rattle.eb_rows.specs.Rowed.{all_listed}
use Rattle.eb_rows.proofs.name_lists.after_beside.Goals as goal

pub returns-clause-triangles : goal.returns-clause-triangles
returns-clause-triangles c =
    c.in_ok-triangles.ensures ∙ ap (λ (l : List Triangle). l ++ (c.triangle-t.result ∷ [])) c.as_slice.ensures.value ∙ ap (λ (t : Triangle). c.args.old.now.triangles.items ++ (t ∷ [])) c.triangle-t.ensures

pub returns-clause-rows : goal.returns-clause-rows
returns-clause-rows c =
    let f = c.args.face in
    let k = free_place c.args.beside in
    let u = c.triangle-t.result in
    c.in_ok-rows.ensures ∙ ap (λ (l : List Row). without (side_at c.args.a.side) (all_listed l) ++ (new_row f u first ∷ new_row f u k ∷ [])) c.as_slice-2.ensures.value
    ∙ ap (λ (t : Triangle). without (side_at c.args.a.side) (all_listed c.args.old.now.rows.items) ++ (new_row f t first ∷ new_row f t k ∷ [])) c.triangle-t.ensures
