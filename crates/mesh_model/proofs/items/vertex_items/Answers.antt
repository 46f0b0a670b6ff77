use Rattle.std.proofs.Common.{◌≡◌, ◌-◌, ◌*◌, length, map, sym, ap, ◌∙◌, subst, arith}
use Rattle.std.specs.List.{All, range_with_len, zip}
use Rattle.mesh_model.specs.Groups.{GroupParts, HasVertices}
use Rattle.mesh_model.specs.Parts.{cells_of}
use Rattle.mesh_model.specs.Vertices.{AttributeParts, attributes_in, vertex_row}
use Rattle.mesh_model.proofs.StoredItems.{shared-attributes, stored-vertices, whole-attributes, whole-vertices}
use Rattle.mesh_model.proofs.items.vertex_items.Goals as goal

pub vertex_faces-requires-clause-each : goal.vertex_faces-requires-clause-each
vertex_faces-requires-clause-each c =
    let g = c.index-groups-0.result in
    let at : c.first.inside.of_corner.now ≡ g.of_corner = ap (λ (x : GroupParts). x.of_corner) c.first.view_is in
    let has : HasVertices (3 * c.args.faces) g = subst (HasVertices (3 * c.args.faces)) (sym c.index-groups-0.is) (c.requires.groups.vertices 0 g c.requires.some) in
    ap length at ∙ has.each_corner

pub vertex_faces-requires-clause-few : goal.vertex_faces-requires-clause-few
vertex_faces-requires-clause-few c = c.requires.groups.tables.few_faces

pub vertex_cells-requires-clause-each : goal.vertex_cells-requires-clause-each
vertex_cells-requires-clause-each c =
    (whole-attributes c.args.heads.now c.args.groups.now c.args.attributes.now c.args.faces c.requires.groups c.requires.attributes).each_head

pub vertex_cells-requires-clause-whole : goal.vertex_cells-requires-clause-whole
vertex_cells-requires-clause-whole c =
    let heads = c.args.heads.now in
    let groups = c.args.groups.now in
    let g = c.index-groups-0.result in
    let vertices = c.first.inside.of_corner.now in
    let at : g.of_corner ≡ vertices = sym (ap (λ (x : GroupParts). x.of_corner) c.first.view_is) in
    let same : All (λ a. a.of_corner ≡ vertices) (attributes_in groups) =
    shared-attributes groups g vertices (length groups - 1) (omega arith) c.requires.some c.index-groups-0.is at (c.have_vertices.ensures c.if-not-have_vertices.false) in
    let found = rw c.in-Some.is at c.in_ok-found.ensures in
    let whole = whole-attributes heads groups c.args.attributes.now c.args.faces c.requires.groups c.requires.attributes in
    whole-vertices (3 * c.args.faces) c.in-Some.found.count vertices heads c.args.attributes.now found.0 whole
    (subst (All (λ (a : AttributeParts). a.of_corner ≡ vertices)) (sym c.requires.attributes) same)

pub returns : goal.returns
returns c =
    let heads = c.args.heads.now in
    let groups = c.args.groups.now in
    let g = c.index-groups-0.result in
    let vertices = c.first.inside.of_corner.now in
    let at : g.of_corner ≡ vertices = sym (ap (λ (x : GroupParts). x.of_corner) c.first.view_is) in
    let same : All (λ a. a.of_corner ≡ vertices) (attributes_in groups) =
    shared-attributes groups g vertices (length groups - 1) (omega arith) c.requires.some c.index-groups-0.is at (c.have_vertices.ensures c.if-not-have_vertices.false) in
    let found = rw c.in-Some.is at c.in_ok-found.ensures in
    let n = c.in-Some.found.count in
    let has : HasVertices (3 * c.args.faces) g = subst (HasVertices (3 * c.args.faces)) (sym c.index-groups-0.is) (c.requires.groups.vertices 0 g c.requires.some) in
    let each : length vertices ≡ 3 * c.args.faces = sym (ap length at) ∙ has.each_corner in
    stored-vertices heads groups c.args.faces c.args.width n vertices c.in-Some.found.faces.items c.in_ok-cells.cells.items c.requires.groups same c.requires.width found.0 each found.1
    (c.in_ok-cells.ensures ∙ ap (λ attributes. cells_of (map (vertex_row (zip heads attributes)) (range_with_len 0 n))) c.requires.attributes)
