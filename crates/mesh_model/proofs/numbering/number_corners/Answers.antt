use Rattle.std.proofs.Common.{◌≡◌, ◌<◌, List, ℤ, length, sym, ap, ◌∙◌, subst, arith}
use Rattle.std.specs.List.{All, zip}
use Rattle.mesh_model.specs.CountedRows.{LookedAt}
use Rattle.mesh_model.specs.Groups.{group_tables}
use Rattle.mesh_model.specs.Parts.{rows_of}
use Rattle.mesh_model.specs.RowIndex.{AreTwins, AreUnlike}
use Rattle.attr_heads.proofs.Widths.{width_of-bounds}
use Rattle.mesh_model.proofs.NumberedFaces.{items-fit, faces-unlike}
use Rattle.mesh_model.proofs.Rows.{length-rows}
use Rattle.mesh_model.proofs.numbering.number_corners.Goals as goal

pub new-rows-requires-clause-wide : goal.new-rows-requires-clause-wide
new-rows-requires-clause-wide c = subst (λ w. 0 < w) (sym c.requires.width) (width_of-bounds c.args.heads.now c.requires.groups.tables.heads_pass).0

pub twins_of-requires-clause-few : goal.twins_of-requires-clause-few
twins_of-requires-clause-few c =
    omega (arith, ap (λ (r : LookedAt). r.table.count) c.new-rows.ensures, c.in_ok-items.ensures.few, c.requires.groups.tables.few_faces)

pub merge_items-requires-clause-wide : goal.merge_items-requires-clause-wide
merge_items-requires-clause-wide c = subst (λ w. 0 < w) (sym c.requires.width) (width_of-bounds c.args.heads.now c.requires.groups.tables.heads_pass).0

pub merge_items-requires-clause-faces : goal.merge_items-requires-clause-faces
merge_items-requires-clause-faces c =
    let items = c.in_ok-items.items in
    let rows = rows_of c.args.width items.cells.items in
    let wide : 0 < c.args.width = subst (λ w. 0 < w) (sym c.requires.width) (width_of-bounds c.args.heads.now c.requires.groups.tables.heads_pass).0 in
    let many : length rows ≡ items.count = length-rows c.args.width items.count items.cells.items wide c.in_ok-items.ensures.stored in
    subst (λ n. All (λ face. All (λ item. item < n) face) items.faces.items) many
    (items-fit (zip c.args.heads.now (group_tables c.args.groups.now)) c.args.faces items.faces.items rows c.in_ok-items.ensures.faces_are)

pub merge_items-requires-clause-long : goal.merge_items-requires-clause-long
merge_items-requires-clause-long c =
    let found = rw c.in-Some.is at c.in_ok-twins_of.ensures.found in found.1 ∙ ap (λ (r : LookedAt). r.table.count) c.new-rows.ensures

pub merge_items-requires-clause-twins : goal.merge_items-requires-clause-twins
merge_items-requires-clause-twins c =
    let items = c.in_ok-items.items in
    let found = rw c.in-Some.is at c.in_ok-twins_of.ensures.found in
    let twins = c.in-Some.twins.items in
    subst (λ (cells : List ℤ). AreTwins (rows_of c.args.width cells) items.count twins) c.as_slice.ensures.value
    (subst (λ (r : LookedAt). AreTwins r.table.rows r.table.count twins) c.new-rows.ensures found.0)

pub returns-in-None-clause-numbering : goal.returns-in-None-clause-numbering
returns-in-None-clause-numbering c =
    let items = c.in_ok-items.items in
    let rows = rows_of c.args.width items.cells.items in
    let wide : 0 < c.args.width = subst (λ w. 0 < w) (sym c.requires.width) (width_of-bounds c.args.heads.now c.requires.groups.tables.heads_pass).0 in
    let many : length rows ≡ items.count = length-rows c.args.width items.count items.cells.items wide c.in_ok-items.ensures.stored in
    let none = rw c.in-None.is at c.in_ok-twins_of.ensures.found in
    let unlike : AreUnlike rows items.count =
    subst (λ (cells : List ℤ). AreUnlike (rows_of c.args.width cells) items.count) c.as_slice.ensures.value
    (subst (λ (r : LookedAt). AreUnlike r.table.rows r.table.count) c.new-rows.ensures none) in
    faces-unlike (zip c.args.heads.now (group_tables c.args.groups.now)) c.args.faces items.count items.faces.items rows c.in_ok-items.ensures.faces_are many unlike
