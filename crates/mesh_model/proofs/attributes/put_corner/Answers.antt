use Rattle.std.proofs.Common.{◌≡◌, ◌++◌, length, map, ap, ◌∙◌}
use Rattle.std.proofs.lemmas.List.{length-map}
use Rattle.mesh_model.specs.Assembled.{corner_row}
use Rattle.mesh_model.specs.Vertices.{table_of}
use Rattle.mesh_model.proofs.Pairs.{columns_all}
use Rattle.mesh_model.proofs.attributes.put_corner.Goals as goal

pub returns : goal.returns
returns c =
    let heads = c.args.heads.now in
    let tables = map table_of c.args.attributes.now in
    let each : length tables ≡ length heads = length-map c.args.attributes.now table_of ∙ c.requires.attributes.each_head in
    c.loop-j.invariant
    ∙ ap (λ columns. c.args.cells.now.items ++ corner_row columns c.args.corner) (columns_all heads tables c.loop-j.j each c.loop-j-test.false)
