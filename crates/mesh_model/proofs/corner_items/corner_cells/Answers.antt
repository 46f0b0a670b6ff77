use Rattle.std.proofs.Common.{◌++◌, get_or, map, sym, ap, ◌∙◌}
use Rattle.std.specs.List.{zip}
use Rattle.mesh_model.specs.Assembled.{corner_row}
use Rattle.mesh_model.specs.Vertices.{table_of}
use Rattle.mesh_model.proofs.Rows.{cells_of-map_more}
use Rattle.mesh_model.proofs.corner_items.corner_cells.Goals as goal

pub loop-corner-preserved : goal.loop-corner-preserved
loop-corner-preserved c =
    let row = corner_row (zip c.args.heads.now (map table_of c.args.attributes.now)) in
    c.in_ok-put_corner.ensures
    ∙ ap (λ cells. cells ++ row (get_or c.args.chosen.now c.loop-corner.corner-index 0)) c.loop-corner.invariant
    ∙ sym (cells_of-map_more row c.args.chosen.now c.loop-corner.corner-index c.loop-corner-test.true)
