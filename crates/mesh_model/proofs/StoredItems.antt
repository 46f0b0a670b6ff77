-- The items of corners with their rows, by vertices and by first corners.
use Rattle.std.proofs.Common.{◌≡◌, ℕ, ◌+◌, ◌*◌, ◌<◌, ◌≤◌, List, [], ◌∷◌, ℤ, length, get_or, map, take, drop, refl, sym, ap, ◌∙◌, subst, arith}
use Rattle.std.specs.List.{All, range_with_len, zip}
use Rattle.std.proofs.lemmas.List.{get_or-map, length-map, take_all}
use Rattle.std.proofs.lemmas.List.Elements.{All-nil, All-cons, All-head, All-tail, All-from_get_or}
use Rattle.std.proofs.lemmas.List.FromFn.{length-map-range_with_len, get_or-map-range_with_len}
use Rattle.attr_heads.specs.declared.heads.Head.{Head}
use Rattle.mesh_model.specs.Assembled.{corner_row, triple}
use Rattle.mesh_model.specs.Groups.{GroupParts, group_tables}
use Rattle.attr_heads.specs.Head.{width_of}
use Rattle.mesh_model.specs.Items.{AreItems, AreItemFaces, AreStoredItems, HaveItems}
use Rattle.mesh_model.specs.Parts.{rows_of, cells_of}
use Rattle.mesh_model.specs.Vertices.{AttributeParts, AreGroups, AreInOrder, AreWhole, IsWholeAt, attributes_in, vertex_row}
use Rattle.mesh_model.proofs.AttributeRows.{All-attributes, AreWhole-groups, corner_row-vertex, tables-attributes}
use Rattle.attr_heads.proofs.Widths.{heads_some, width_of-bounds}
use Rattle.mesh_model.proofs.CornerItems.{ItemFaces-corners, rows-follow}
use Rattle.mesh_model.proofs.CornerRows.{RowFits-corner_row}
use Rattle.mesh_model.proofs.Rows.{length-cells_of, rows_of-cells_of}
use Rattle.mesh_model.proofs.VertexItems.{ItemFaces-vertices}

-- groups of tables for heads that pass are some
no-groups : (groups : List GroupParts) → 0 < length (group_tables groups) → 0 < length groups
no-groups [] some = absurd (omega (arith, some))
no-groups (g ∷ groups) some = omega arith

pub groups_some : (heads : List Head) (groups : List GroupParts) (faces : ℕ) → AreGroups heads groups faces → 0 < length groups
groups_some heads groups faces are = no-groups groups (omega (arith, heads_some heads are.tables.heads_pass, are.tables.columns.each_head))

-- the attributes of groups are whole
pub whole-attributes : (heads : List Head) (groups : List GroupParts) (attributes : List AttributeParts) (faces : ℕ) → AreGroups heads groups faces → attributes ≡ attributes_in groups →
    AreWhole (3 * faces) heads attributes
whole-attributes heads groups attributes faces are is =
    subst (AreWhole (3 * faces) heads) (sym is) (AreWhole-groups (3 * faces) heads groups are.tables.columns are.vertices)

-- a row of a corner is as wide as the heads
row-width : (heads : List Head) (groups : List GroupParts) (faces c : ℕ) → AreGroups heads groups faces → c < 3 * faces → length (corner_row (zip heads (group_tables groups)) c) ≡ width_of heads
row-width heads groups faces c are below =
    (RowFits-corner_row (3 * faces) c heads (group_tables groups) are.tables.columns.each_head are.tables.columns.each_column below).0

-- ---- vertices

-- where the groups after the first one have its vertices, all have
shared-groups : (groups : List GroupParts) (g : GroupParts) (vertices : List ℕ) (n : ℕ) → length groups ≤ n + 1 → 0 < length groups → g ≡ get_or groups 0 g → g.of_corner ≡ vertices →
    All (λ x. x.of_corner ≡ vertices) (take n (drop 1 groups)) → All (λ x. x.of_corner ≡ vertices) groups
shared-groups [] g vertices n whole some is at others = absurd (omega arith)
shared-groups (x ∷ groups) g vertices n whole some is at others =
    All-cons (λ (y : GroupParts). y.of_corner ≡ vertices) x groups (ap (λ (y : GroupParts). y.of_corner) (sym is) ∙ at)
    (subst (All (λ (y : GroupParts). y.of_corner ≡ vertices)) (take_all n groups (omega arith)) others)

-- and so have their attributes
pub shared-attributes : (groups : List GroupParts) (g : GroupParts) (vertices : List ℕ) (n : ℕ) → length groups ≤ n + 1 → 0 < length groups → g ≡ get_or groups 0 g → g.of_corner ≡ vertices →
    All (λ x. x.of_corner ≡ vertices) (take n (drop 1 groups)) → All (λ a. a.of_corner ≡ vertices) (attributes_in groups)
shared-attributes groups g vertices n whole some is at others =
    All-attributes (λ (x : GroupParts). x.of_corner ≡ vertices) (λ (a : AttributeParts). a.of_corner ≡ vertices) (λ x vs h. h) groups
    (shared-groups groups g vertices n whole some is at others)

whole-shared : (c v : ℕ) (vertices : List ℕ) (heads : List Head) (attributes : List AttributeParts) → All (λ a. a.of_corner ≡ vertices) attributes → get_or vertices c 0 ≡ v →
    All (λ column. IsWholeAt (get_or column.1.of_corner c 0) column) (zip heads attributes) → All (IsWholeAt v) (zip heads attributes)
whole-shared c v vertices [] attributes same is whole = All-nil (IsWholeAt v)
whole-shared c v vertices (h ∷ heads) [] same is whole = All-nil (IsWholeAt v)
whole-shared c v vertices (h ∷ heads) (a ∷ attributes) same is whole =
    let here = All-head (λ (x : AttributeParts). x.of_corner ≡ vertices) a attributes same in
    let at : get_or a.of_corner c 0 ≡ v = ap (λ (vs : List ℕ). get_or vs c 0) here ∙ is in
    All-cons (IsWholeAt v) (h, a) (zip heads attributes)
    (subst (λ n. IsWholeAt n (h, a)) at (All-head (λ (column : Head × AttributeParts). IsWholeAt (get_or column.1.of_corner c 0) column) (h, a) (zip heads attributes) whole))
    (whole-shared c v vertices heads attributes (All-tail (λ (x : AttributeParts). x.of_corner ≡ vertices) a attributes same) is
    (All-tail (λ (column : Head × AttributeParts). IsWholeAt (get_or column.1.of_corner c 0) column) (h, a) (zip heads attributes) whole))

-- the values at each vertex that a corner has are whole
pub whole-vertices : (corners n : ℕ) (vertices : List ℕ) (heads : List Head) (attributes : List AttributeParts) → AreInOrder vertices corners n → AreWhole corners heads attributes →
    All (λ a. a.of_corner ≡ vertices) attributes → (v : ℕ) → v < n → All (IsWholeAt v) (zip heads attributes)
whole-vertices corners n vertices heads attributes are whole same v below =
    let at = are.named v below in
    whole-shared at.0 v vertices heads attributes same at.2 (whole.whole at.0 at.1)

-- the row of a vertex is that of each corner that has it
vertex-corner : (heads : List Head) (groups : List GroupParts) (faces : ℕ) (vertices : List ℕ) (c v : ℕ) → AreGroups heads groups faces → All (λ a. a.of_corner ≡ vertices) (attributes_in groups) →
    c < 3 * faces → get_or vertices c 0 ≡ v → corner_row (zip heads (group_tables groups)) c ≡ vertex_row (zip heads (attributes_in groups)) v
vertex-corner heads groups faces vertices c v are same below is =
    let attributes = attributes_in groups in
    let whole = AreWhole-groups (3 * faces) heads groups are.tables.columns are.vertices in
    ap (λ ts. corner_row (zip heads ts) c) (sym (tables-attributes groups))
    ∙ corner_row-vertex (3 * faces) c v heads attributes below whole.each_corner (λ k d inside. ap (λ (vs : List ℕ). get_or vs c 0) (same k d inside) ∙ is)

-- vertices as items
pub stored-vertices : (heads : List Head) (groups : List GroupParts) (faces width n : ℕ) (vertices : List ℕ) (made : List (List ℕ)) (cells : List ℤ) → AreGroups heads groups faces →
    All (λ a. a.of_corner ≡ vertices) (attributes_in groups) → width ≡ width_of heads → AreInOrder vertices (3 * faces) n → length vertices ≡ 3 * faces →
    made ≡ map (triple vertices) (range_with_len 0 faces) → cells ≡ cells_of (map (vertex_row (zip heads (attributes_in groups))) (range_with_len 0 n)) →
    AreStoredItems (zip heads (group_tables groups)) faces width made cells n
stored-vertices heads groups faces width n vertices made cells are same wide_is order each made_is cells_are =
    let columns = zip heads (group_tables groups) in
    let row = vertex_row (zip heads (attributes_in groups)) in
    let rows = map row (range_with_len 0 n) in
    let many : length rows ≡ n = length-map-range_with_len row 0 n in
    let wide : 0 < width = subst (λ w. 0 < w) (sym wide_is) (width_of-bounds heads are.tables.heads_pass).0 in
    let long : All (λ r. length r ≡ width) rows = All-from_get_or (λ (r : List ℤ). length r ≡ width) rows [] (λ v below.
    let low : v < n = omega (arith, many) in
    let at = order.named v low in
    ap length (get_or-map-range_with_len row 0 n v v [] low (omega arith) ∙ sym (vertex-corner heads groups faces vertices at.0 v are same at.1 at.2))
    ∙ row-width heads groups faces at.0 are at.1 ∙ sym wide_is) in
    let stored : rows_of width cells ≡ rows = ap (rows_of width) cells_are ∙ rows_of-cells_of width rows wide long in
    record {
      faces_are = subst (AreItemFaces columns faces made) (sym stored)
          (ItemFaces-vertices columns row faces n vertices made order each (λ c below. vertex-corner heads groups faces vertices c (get_or vertices c 0) are same below refl) made_is);
      stored = ap length cells_are ∙ length-cells_of width rows long ∙ ap (λ k. k * width) many;
      few = order.few;
    }

-- ---- first corners

-- items by their first corners
pub stored-corners : (heads : List Head) (groups : List GroupParts) (faces width : ℕ) (firsts items : List ℕ) (made : List (List ℕ)) (cells : List ℤ) → AreGroups heads groups faces →
    width ≡ width_of heads → AreItems groups (3 * faces) (3 * faces) firsts → HaveItems groups (3 * faces) items firsts → made ≡ map (triple items) (range_with_len 0 faces) →
    cells ≡ cells_of (map (corner_row (zip heads (group_tables groups))) firsts) → AreStoredItems (zip heads (group_tables groups)) faces width made cells (length firsts)
stored-corners heads groups faces width firsts items made cells are wide_is of have made_is cells_are =
    let columns = zip heads (group_tables groups) in
    let row = corner_row columns in
    let rows = map row firsts in
    let many : length rows ≡ length firsts = length-map firsts row in
    let wide : 0 < width = subst (λ w. 0 < w) (sym wide_is) (width_of-bounds heads are.tables.heads_pass).0 in
    let long : All (λ r. length r ≡ width) rows = All-from_get_or (λ (r : List ℤ). length r ≡ width) rows [] (λ i below.
    let low : i < length firsts = omega (arith, many) in
    ap length (get_or-map row firsts i 0 [] low) ∙ row-width heads groups faces (get_or firsts i 0) are (of.before i low) ∙ sym wide_is) in
    let stored : rows_of width cells ≡ rows = ap (rows_of width) cells_are ∙ rows_of-cells_of width rows wide long in
    record {
      faces_are = subst (AreItemFaces columns faces made) (sym stored)
          (ItemFaces-corners columns groups faces firsts items made (rows-follow (3 * faces) heads groups are.vertices) of have made_is);
      stored = ap length cells_are ∙ length-cells_of width rows long ∙ ap (λ k. k * width) many;
      few = of.few;
    }
