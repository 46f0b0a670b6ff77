use Rattle.std.proofs.Common.{◌<◌, ◌++◌, length, take, sym, ap, ◌∙◌, subst, append_assoc, arith}
use Rattle.std.specs.List.{zip}
use Rattle.mesh_model.specs.Vertices.{IsWholeAt, vertex_entry, vertex_row}
use Rattle.mesh_model.proofs.Pairs.{column_zip, columns_all, columns_more, length_columns}
use Rattle.mesh_model.proofs.attributes.put_vertex.Goals as goal

pub values_at-requires : goal.values_at-requires
values_at-requires c =
    let heads = c.args.heads.now in
    let attributes = c.args.attributes.now in
    let j = c.loop-j.j in
    let h = c.index-heads-j.result in
    let a = c.index-attributes-j.result in
    let inside : j < length (zip heads attributes) = omega (arith, length_columns heads attributes c.requires.each, c.loop-j-test.true) in
    subst (IsWholeAt c.args.vertex) (column_zip heads attributes j h a c.requires.each c.loop-j-test.true c.index-heads-j.is c.index-attributes-j.is)
    (c.requires.whole j (h, a) inside)

pub loop-j-preserved : goal.loop-j-preserved
loop-j-preserved c =
    let heads = c.args.heads.now in
    let attributes = c.args.attributes.now in
    let v = c.args.vertex in
    let j = c.loop-j.j in
    let old = c.args.cells.now.items in
    let piece = c.values_at.result.now in
    let before = vertex_row (take j (zip heads attributes)) v in
    c.in_ok-put_values.ensures
    ∙ ap (λ xs. xs ++ piece) c.loop-j.invariant
    ∙ append_assoc old before piece
    ∙ ap (λ xs. old ++ xs) (ap (λ xs. before ++ xs) c.values_at.ensures.values
    ∙ sym (columns_more (vertex_entry v) heads attributes j c.index-heads-j.result c.index-attributes-j.result c.requires.each c.loop-j-test.true c.index-heads-j.is c.index-attributes-j.is))

pub returns : goal.returns
returns c =
    c.loop-j.invariant
    ∙ ap (λ columns. c.args.cells.now.items ++ vertex_row columns c.args.vertex)
    (columns_all c.args.heads.now c.args.attributes.now c.loop-j.j c.requires.each c.loop-j-test.false)
