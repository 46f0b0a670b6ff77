-- A triangle more, two rows less, and a row more, all others under the renaming.
use Rattle.std.proofs.Common.{List, [], ◌∷◌, ◌++◌, map, ap, ◌∙◌}
use Rattle.corner_table.specs.Sides.{first, side_at}
use Rattle.eb_machine.specs.Named.{Triangle, new_row, without, renamed, renamed_triangle, renamed_row}
use Rattle.eb_rows.specs.declared.active_rows.Row.{Row}
use Rattle.eb_rows.specs.Rowed.{all_listed}
use Rattle.eb_rows.proofs.name_lists.after_split.Goals as goal

pub returns-clause-triangles : goal.returns-clause-triangles
returns-clause-triangles c =
    let r = renamed c.args.b.from c.args.a.to in
    c.in_ok-triangles.ensures ∙ ap (λ (l : List Triangle). l ++ (c.triangle_renamed-t.result ∷ [])) (c.as_slice-2.ensures.value ∙ c.in_ok-told.ensures ∙ ap (map (renamed_triangle r)) c.as_slice.ensures.value)
    ∙ ap (λ (t : Triangle). map (renamed_triangle r) c.args.old.now.triangles.items ++ (t ∷ [])) c.triangle_renamed-t.ensures

pub returns-clause-rows : goal.returns-clause-rows
returns-clause-rows c =
    let a = c.args.a in
    let b = c.args.b in
    let r = renamed b.from a.to in
    c.in_ok-rows.ensures
    ∙ ap (λ (l : List Row). map (renamed_row r) (without (side_at b.side) (without (side_at a.side) (all_listed l))) ++ (new_row c.args.face c.triangle_renamed-t.result first ∷ [])) c.as_slice-3.ensures.value
    ∙ ap (λ (t : Triangle). map (renamed_row r) (without (side_at b.side) (without (side_at a.side) (all_listed c.args.old.now.rows.items))) ++ (new_row c.args.face t first ∷ [])) c.triangle_renamed-t.ensures
