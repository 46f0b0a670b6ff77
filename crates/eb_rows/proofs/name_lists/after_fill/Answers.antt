-- A triangle more, and three rows less.
use Rattle.std.proofs.Common.{List, [], ◌∷◌, ◌++◌, ap, ◌∙◌}
use Rattle.corner_table.specs.Sides.{side_at}
use Rattle.eb_machine.specs.Named.{Triangle, without}
use Rattle.eb_rows.specs.declared.active_rows.Row.{Row}
use Rattle.eb_rows.specs.Rowed.{all_listed}
use Rattle.eb_rows.proofs.name_lists.after_fill.Goals as goal

pub returns-clause-triangles : goal.returns-clause-triangles
returns-clause-triangles c =
    let t : Triangle = (c.args.b.from, c.args.a.to, c.args.a.from) in
    c.in_ok-triangles.ensures ∙ ap (λ (l : List Triangle). l ++ (t ∷ [])) c.as_slice.ensures.value

pub returns-clause-rows : goal.returns-clause-rows
returns-clause-rows c =
    c.in_ok-rows.ensures ∙ ap (λ (l : List Row). without (side_at c.args.c.side) (without (side_at c.args.b.side) (without (side_at c.args.a.side) (all_listed l)))) c.as_slice-2.ensures.value
