-- The attributes of groups, and the rows that corners have of them.
use Rattle.std.proofs.Common.{◌≡◌, ℕ, ◌+◌, ◌*◌, ◌<◌, ◌≤◌, List, [], ◌∷◌, ◌++◌, ℤ, length, get_or, map, refl, sym, ap, ◌∙◌, subst, arith}
use Rattle.std.specs.List.{All, zip}
use Rattle.std.proofs.lemmas.List.{get_or-map, length-map, map-append}
use Rattle.std.proofs.lemmas.List.Elements.{All-nil, All-cons, All-head, All-tail, All-append}
use Rattle.attr_heads.specs.declared.heads.Head.{Head}
use Rattle.mesh_model.specs.Assembled.{corner_row, column_entry, entry, AreAttrTables, IsAttrTable}
use Rattle.mesh_model.specs.Groups.{AttrTable, GroupParts, tables_of, group_tables, corner_entries, HasVertices}
use Rattle.mesh_model.specs.Vertices.{AttributeParts, AreWhole, IsWholeAt, attributes_of, attributes_in, table_of, vertex_entry, vertex_row}

-- ---- tables

-- an attribute of a group
abbrev attribute : GroupParts → List ℤ → AttributeParts
attribute g values = record { of_corner = g.of_corner; entry_of = g.entry_of; values = values }

tables_of-attributes : (g : GroupParts) (values : List (List ℤ)) →
    map table_of (map (attribute g) values) ≡ map (λ vs. record { values = vs; of_corner = corner_entries g }) values
tables_of-attributes g [] = refl
tables_of-attributes g (vs ∷ values) =
    let table : AttrTable = record { values = vs; of_corner = corner_entries g } in
    ap (λ ts. table ∷ ts) (tables_of-attributes g values)

-- the attributes of groups as tables are the groups' tables
pub tables-attributes : (groups : List GroupParts) → map table_of (attributes_in groups) ≡ group_tables groups
tables-attributes [] = refl
tables-attributes (g ∷ groups) =
    map-append table_of (attributes_of g) (attributes_in groups)
    ∙ ap (λ ts. ts ++ map table_of (attributes_in groups)) (tables_of-attributes g g.values)
    ∙ ap (λ ts. tables_of g ++ ts) (tables-attributes groups)

-- ---- what holds of the attributes of groups

attributes-all : (P : AttributeParts → Type 0) (g : GroupParts) (values : List (List ℤ)) → ((vs : List ℤ) → P (attribute g vs)) → All P (map (attribute g) values)
attributes-all P g [] holds = All-nil P
attributes-all P g (vs ∷ values) holds = All-cons P (attribute g vs) (map (attribute g) values) (holds vs) (attributes-all P g values holds)

-- what follows for an attribute from what holds of its group
pub All-attributes : (Q : GroupParts → Type 0) (P : AttributeParts → Type 0) → ((g : GroupParts) (vs : List ℤ) → Q g → P (attribute g vs)) →
    (groups : List GroupParts) → All Q groups → All P (attributes_in groups)
All-attributes Q P follows [] each = All-nil P
All-attributes Q P follows (g ∷ groups) each =
    All-append P (attributes_of g) (attributes_in groups) (attributes-all P g g.values (λ vs. follows g vs (All-head Q g groups each)))
    (All-attributes Q P follows groups (All-tail Q g groups each))

-- an attribute has a vertex for each corner, and each of these an entry
record IsFull (corners : ℕ) (a : AttributeParts) : Type 0 where
  each_corner : length a.of_corner ≡ corners
  entries : All (λ v. v < length a.entry_of) a.of_corner

whole-columns : (corners c : ℕ) (heads : List Head) (attributes : List AttributeParts) → c < corners → All (IsFull corners) attributes →
    All (IsAttrTable corners) (zip heads (map table_of attributes)) → All (λ column. IsWholeAt (get_or column.1.of_corner c 0) column) (zip heads attributes)
whole-columns corners c [] attributes below full fit = All-nil (λ (column : Head × AttributeParts). IsWholeAt (get_or column.1.of_corner c 0) column)
whole-columns corners c (h ∷ heads) [] below full fit = All-nil (λ (column : Head × AttributeParts). IsWholeAt (get_or column.1.of_corner c 0) column)
whole-columns corners c (h ∷ heads) (a ∷ attributes) below full fit =
    let here : IsFull corners a = All-head (IsFull corners) a attributes full in
    let table : IsAttrTable corners (h, table_of a) = All-head (IsAttrTable corners) (h, table_of a) (zip heads (map table_of attributes)) fit in
    let inside : c < length a.of_corner = omega (arith, here.each_corner) in
    let v = get_or a.of_corner c 0 in
    let e : get_or (map (λ (n : ℕ). get_or a.entry_of n 0) a.of_corner) c 0 ≡ get_or a.entry_of v 0 = get_or-map (λ (n : ℕ). get_or a.entry_of n 0) a.of_corner c 0 0 inside in
    let low : c < length (map (λ (n : ℕ). get_or a.entry_of n 0) a.of_corner) = omega (arith, length-map a.of_corner (λ (n : ℕ). get_or a.entry_of n 0)) in
    let first : IsWholeAt v (h, a) = record {
      has_entry = here.entries c 0 inside;
      whole = subst (λ n. (n + 1) * h.comps ≤ length a.values) e (table.entries c 0 low);
    } in
    All-cons (λ (column : Head × AttributeParts). IsWholeAt (get_or column.1.of_corner c 0) column) (h, a) (zip heads attributes) first
    (whole-columns corners c heads attributes below (All-tail (IsFull corners) a attributes full)
    (All-tail (IsAttrTable corners) (h, table_of a) (zip heads (map table_of attributes)) fit))

-- the attributes of groups are whole
pub AreWhole-groups : (corners : ℕ) (heads : List Head) (groups : List GroupParts) → AreAttrTables corners heads (group_tables groups) → All (HasVertices corners) groups →
    AreWhole corners heads (attributes_in groups)
AreWhole-groups corners heads groups are has =
    let attributes = attributes_in groups in
    let same = tables-attributes groups in
    let full : All (IsFull corners) attributes =
    All-attributes (HasVertices corners) (IsFull corners) (λ g vs h. record { each_corner = h.each_corner; entries = h.entries }) groups has in
    let fit : All (IsAttrTable corners) (zip heads (map table_of attributes)) = subst (λ ts. All (IsAttrTable corners) (zip heads ts)) (sym same) are.each_column in
    record {
      each_head = sym (length-map attributes table_of) ∙ ap length same ∙ are.each_head;
      each_corner = λ k d below. (full k d below).each_corner;
      whole = λ c below. whole-columns corners c heads attributes below full fit;
    }

-- ---- rows

-- an attribute's entry at a corner is that of the corner's vertex
pub entry-vertex : (h : Head) (a : AttributeParts) (c v : ℕ) → c < length a.of_corner → get_or a.of_corner c 0 ≡ v → column_entry c (h, table_of a) ≡ vertex_entry v (h, a)
entry-vertex h a c v inside is =
    ap (entry h.comps a.values) (get_or-map (λ (n : ℕ). get_or a.entry_of n 0) a.of_corner c 0 0 inside ∙ ap (λ n. get_or a.entry_of n 0) is)

-- where a corner has the same vertex in all attributes, its row is the vertex's
pub corner_row-vertex : (corners c v : ℕ) (heads : List Head) (attributes : List AttributeParts) → c < corners → All (λ a. length a.of_corner ≡ corners) attributes →
    All (λ a. get_or a.of_corner c 0 ≡ v) attributes → corner_row (zip heads (map table_of attributes)) c ≡ vertex_row (zip heads attributes) v
corner_row-vertex corners c v [] attributes below each are = refl
corner_row-vertex corners c v (h ∷ heads) [] below each are = refl
corner_row-vertex corners c v (h ∷ heads) (a ∷ attributes) below each are =
    let long = All-head (λ (x : AttributeParts). length x.of_corner ≡ corners) a attributes each in
    let here = entry-vertex h a c v (omega (arith, long)) (All-head (λ (x : AttributeParts). get_or x.of_corner c 0 ≡ v) a attributes are) in
    let rest = corner_row-vertex corners c v heads attributes below (All-tail (λ (x : AttributeParts). length x.of_corner ≡ corners) a attributes each)
    (All-tail (λ (x : AttributeParts). get_or x.of_corner c 0 ≡ v) a attributes are) in
    ap (λ row. row ++ corner_row (zip heads (map table_of attributes)) c) here ∙ ap (λ row. vertex_entry v (h, a) ++ row) rest
