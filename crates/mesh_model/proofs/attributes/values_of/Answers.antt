use Rattle.std.proofs.Common.{◌≡◌, ◌<◌, ◌++◌, List, ℕ, get_or, length, map, take, sym, ap, ◌∙◌, subst, arith}
use Rattle.std.specs.List.{zip}
use Rattle.std.proofs.lemmas.List.{get_or-map, length-map}
use Rattle.attr_heads.specs.declared.heads.Head.{Head}
use Rattle.mesh_model.specs.Assembled.{column_entry, corner_row}
use Rattle.mesh_model.specs.Vertices.{AttributeParts, IsWholeAt, table_of}
use Rattle.mesh_model.proofs.AttributeRows.{entry-vertex}
use Rattle.mesh_model.proofs.Pairs.{column_zip, columns_more, length_columns}
use Rattle.mesh_model.proofs.attributes.values_of.Goals as goal

pub values_at-requires : goal.values_at-requires
values_at-requires c =
    let heads = c.args.heads.now in
    let attributes = c.args.attributes.now in
    let j = c.args.j in
    let corner = c.args.corner in
    let h = c.index-heads-j.result in
    let a = c.index-attributes-j.result in
    let each = c.requires.attributes.each_head in
    let at : c.attribute.inside.of_corner.now ≡ a.of_corner = ap (λ (x : AttributeParts). x.of_corner) c.attribute.view_is in
    let inside : j < length (zip heads attributes) = omega (arith, length_columns heads attributes each, c.requires.places.0) in
    let whole = c.requires.attributes.whole corner c.requires.places.1 j (h, a) inside in
    let zipped = column_zip heads attributes j h a each c.requires.places.0 c.index-heads-j.is c.index-attributes-j.is in
    subst (λ (vs : List ℕ). IsWholeAt (get_or vs corner 0) (h, a)) (sym at)
    (subst (λ (column : Head × AttributeParts). IsWholeAt (get_or column.1.of_corner corner 0) column) zipped whole)

pub returns : goal.returns
returns c =
    let heads = c.args.heads.now in
    let attributes = c.args.attributes.now in
    let tables = map table_of attributes in
    let j = c.args.j in
    let corner = c.args.corner in
    let h = c.index-heads-j.result in
    let a = c.index-attributes-j.result in
    let each : length tables ≡ length heads = length-map attributes table_of ∙ c.requires.attributes.each_head in
    let below : j < length attributes = omega (arith, c.requires.attributes.each_head, c.requires.places.0) in
    let table : table_of a ≡ get_or tables j (table_of a) = ap table_of c.index-attributes-j.is ∙ sym (get_or-map table_of attributes j a (table_of a) below) in
    let long : length a.of_corner ≡ c.args.corners =
    ap (λ (x : AttributeParts). length x.of_corner) c.index-attributes-j.is ∙ c.requires.attributes.each_corner j a below in
    let at : a.of_corner ≡ c.attribute.inside.of_corner.now = sym (ap (λ (x : AttributeParts). x.of_corner) c.attribute.view_is) in
    let v = get_or c.attribute.inside.of_corner.now corner 0 in
    let inside : corner < length a.of_corner = omega (arith, long, c.requires.places.1) in
    columns_more (column_entry corner) heads tables j h (table_of a) each c.requires.places.0 c.index-heads-j.is table
    ∙ ap (λ xs. corner_row (take j (zip heads tables)) corner ++ xs)
    (entry-vertex h a corner v inside (ap (λ (vs : List ℕ). get_or vs corner 0) at) ∙ sym c.values_at.ensures.values)
