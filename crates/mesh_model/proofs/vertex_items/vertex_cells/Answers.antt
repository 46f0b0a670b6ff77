use Rattle.std.proofs.Common.{◌≡◌, ◌<◌, ◌++◌, [], ◌∷◌, List, ℕ, length, map, subst, sym, ap, ◌∙◌, arith}
use Rattle.std.specs.List.{range_with_len, zip}
use Rattle.std.proofs.lemmas.List.FromFn.{map-range_with_len_more}
use Rattle.std.proofs.lemmas.List.{append-nil}
use Rattle.attr_heads.specs.declared.heads.Head.{Head}
use Rattle.mesh_model.specs.Parts.{cells_of}
use Rattle.mesh_model.specs.Vertices.{AttributeParts, IsWholeAt, vertex_entry, vertex_row}
use Rattle.mesh_model.proofs.Pairs.{column_zip, length_columns}
use Rattle.mesh_model.proofs.Rows.{cells_of-push}
use Rattle.mesh_model.proofs.Triples.{single_is}
use Rattle.mesh_model.proofs.VertexItems.{map-range_same}
use Rattle.mesh_model.proofs.vertex_items.vertex_cells.Goals as goal

pub triple_cells-requires-clause-whole : goal.triple_cells-requires-clause-whole
triple_cells-requires-clause-whole c = λ v below.
    let heads = c.args.heads.now in
    let attributes = c.args.attributes.now in
    let h = c.index-heads-0-then-heads-eq3.result in
    let a = c.index-attributes-0.result in
    let one : length heads ≡ 1 = c.if-heads-eq1.true in
    let inside : 0 < length (zip heads attributes) = omega (arith, length_columns heads attributes c.requires.each) in
    subst (IsWholeAt v) (column_zip heads attributes 0 h a c.requires.each (omega arith) c.index-heads-0-then-heads-eq3.is c.index-attributes-0.is)
    (c.requires.whole v below 0 (h, a) inside)

pub returns-then-heads-eq3 : goal.returns-then-heads-eq3
returns-then-heads-eq3 c =
    let heads = c.args.heads.now in
    let attributes = c.args.attributes.now in
    let h = c.index-heads-0-then-heads-eq3.result in
    let a = c.index-attributes-0.result in
    let one : length heads ≡ 1 = c.if-heads-eq1.true in
    let zipped : zip heads attributes ≡ (h, a) ∷ [] =
    ap (λ (hs : List Head). zip hs attributes) (single_is heads h one c.index-heads-0-then-heads-eq3.is)
    ∙ ap (λ (xs : List AttributeParts). zip (h ∷ []) xs) (single_is attributes a (c.requires.each ∙ one) c.index-attributes-0.is) in
    c.in_ok-cells.ensures
    ∙ ap cells_of (map-range_same (λ (v : ℕ). vertex_entry v (h, a)) (vertex_row (zip heads attributes)) c.args.count (λ v below.
    sym (ap (λ columns. vertex_row columns v) zipped ∙ append-nil (vertex_entry v (h, a)))))

pub put_vertex-requires-clause-whole : goal.put_vertex-requires-clause-whole
put_vertex-requires-clause-whole c = c.requires.whole c.loop-vertex.vertex c.loop-vertex-test.true

pub loop-vertex-preserved : goal.loop-vertex-preserved
loop-vertex-preserved c =
    let row = vertex_row (zip c.args.heads.now c.args.attributes.now) in
    let v = c.loop-vertex.vertex in
    c.in_ok-put_vertex.ensures
    ∙ ap (λ xs. xs ++ row v) c.loop-vertex.invariant
    ∙ sym (ap cells_of (map-range_with_len_more row 0 v v (omega arith)) ∙ cells_of-push (map row (range_with_len 0 v)) (row v))
