-- A triangle and three rows more.
use Rattle.std.proofs.Common.{List, [], ◌∷◌, ◌++◌, ap, ◌∙◌}
use Rattle.corner_table.specs.Sides.{first, second, third}
use Rattle.eb_machine.specs.Named.{Triangle, new_row}
use Rattle.eb_rows.specs.declared.active_rows.Row.{Row}
use Rattle.eb_rows.specs.Rowed.{all_listed}
use Rattle.eb_rows.proofs.name_lists.after_end.Goals as goal

pub returns-clause-triangles : goal.returns-clause-triangles
returns-clause-triangles c = c.in_ok-triangles.ensures ∙ ap (λ (l : List Triangle). l ++ (c.args.t ∷ [])) c.as_slice.ensures.value

pub returns-clause-rows : goal.returns-clause-rows
returns-clause-rows c =
    let f = c.args.face in
    let t = c.args.t in
    c.in_ok-rows.ensures ∙ ap (λ (l : List Row). all_listed l ++ (new_row f t first ∷ new_row f t second ∷ new_row f t third ∷ [])) c.as_slice-2.ensures.value
