use Rattle.std.proofs.Common.{◌≡◌, List, ℕ, length, map, ap, ◌∙◌, subst, arith}
use Rattle.std.specs.List.{zip}
use Rattle.mesh_model.specs.Assembled.{corner_row}
use Rattle.mesh_model.specs.Groups.{AttrTable, group_tables}
use Rattle.mesh_model.specs.Items.{AreStoredItems}
use Rattle.mesh_model.specs.Parts.{cells_of}
use Rattle.mesh_model.specs.Vertices.{table_of}
use Rattle.mesh_model.proofs.AttributeRows.{tables-attributes}
use Rattle.mesh_model.proofs.StoredItems.{stored-corners, whole-attributes}
use Rattle.mesh_model.proofs.items.corner_items.Goals as goal

pub corner_faces-requires-clause-groups : goal.corner_faces-requires-clause-groups
corner_faces-requires-clause-groups c = c.requires.groups.vertices

pub corner_faces-requires-clause-few : goal.corner_faces-requires-clause-few
corner_faces-requires-clause-few c = c.requires.groups.tables.few_faces

pub corner_cells-requires-clause-attributes : goal.corner_cells-requires-clause-attributes
corner_cells-requires-clause-attributes c =
    whole-attributes c.args.heads.now c.args.groups.now c.args.attributes.now c.args.faces c.requires.groups c.requires.attributes

pub returns : goal.returns
returns c =
    let heads = c.args.heads.now in
    let groups = c.args.groups.now in
    let found = c.in_ok-found.found in
    let cells = c.in_ok-cells.cells.items in
    let len : length found.firsts.items ≡ c.len.result = omega arith in
    let tables : map table_of c.args.attributes.now ≡ group_tables groups = ap (map table_of) c.requires.attributes ∙ tables-attributes groups in
    let rows : cells ≡ cells_of (map (corner_row (zip heads (group_tables groups))) found.firsts.items) =
    c.in_ok-cells.ensures
    ∙ ap (λ (fs : List ℕ). cells_of (map (corner_row (zip heads (map table_of c.args.attributes.now))) fs)) c.as_slice.ensures.value
    ∙ ap (λ (ts : List AttrTable). cells_of (map (corner_row (zip heads ts)) found.firsts.items)) tables in
    subst (AreStoredItems (zip heads (group_tables groups)) c.args.faces c.args.width found.faces.items cells) len
    (stored-corners heads groups c.args.faces c.args.width found.firsts.items c.in_ok-found.ensures.faces.0 found.faces.items cells c.requires.groups c.requires.width c.in_ok-found.ensures.items
    c.in_ok-found.ensures.faces.1 c.in_ok-found.ensures.faces.2 rows)
