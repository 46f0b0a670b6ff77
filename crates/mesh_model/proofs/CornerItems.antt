-- The items of corners, with one more corner.
use Rattle.std.proofs.Common.{◌≡◌, ℕ, ◌+◌, ◌*◌, ◌<◌, true, cond, List, [], ◌∷◌, ◌++◌, ℤ, length, get_or, map, set, refl, sym, ap, ◌∙◌, subst, inl, inr, arith}
use Rattle.std.specs.List.{All, list_any, range_with_len, zip}
use Rattle.std.proofs.lemmas.Bool.{cases_eq, cases_lt}
use Rattle.std.proofs.lemmas.List.{get_or-set_same, get_or-set_other, get_or_past, get_or_push, get_or_append_left, get_or-map, length-map, length_push, map-append, same_lists}
use Rattle.std.proofs.lemmas.List.Elements.{All-nil, All-cons, All-head, All-tail, All-append}
use Rattle.std.proofs.lemmas.List.Folds.{list_any_at}
use Rattle.std.proofs.lemmas.List.FromFn.{map-range_with_len_more, length-map-range_with_len, get_or-map-range_with_len}
use Rattle.attr_heads.specs.declared.heads.Head.{Head}
use Rattle.mesh_model.specs.Assembled.{Columns, corner_row, distinct, entry, column_entry, same_row, triple}
use Rattle.mesh_model.specs.Groups.{AttrTable, GroupParts, corner_entries, tables_of, group_tables, HasVertices}
use Rattle.mesh_model.specs.Items.{HaveSameVertices, RowsFollowVertices, AreItems, AreLatest, HasItem, HaveItems, AreItemFaces}
use Rattle.mesh_model.specs.RowIndex.{IsPointOf}
use Rattle.mesh_model.proofs.DistinctRows.{any-distinct, distinct-push, same_row-refl, with_row}

-- ---- corners with the same vertices

-- they have the same entry in each table
abbrev HaveSameEntries : List AttrTable → ℕ → ℕ → Type 0
HaveSameEntries tables a b = All (λ t. get_or t.of_corner a 0 ≡ get_or t.of_corner b 0) tables

corner_row-same : (heads : List Head) (tables : List AttrTable) (a b : ℕ) → HaveSameEntries tables a b → corner_row (zip heads tables) a ≡ corner_row (zip heads tables) b
corner_row-same [] tables a b same = refl
corner_row-same (h ∷ heads) [] a b same = refl
corner_row-same (h ∷ heads) (t ∷ tables) a b same =
    let here = All-head (λ (u : AttrTable). get_or u.of_corner a 0 ≡ get_or u.of_corner b 0) t tables same in
    let rest = All-tail (λ (u : AttrTable). get_or u.of_corner a 0 ≡ get_or u.of_corner b 0) t tables same in
    ap (λ e. entry h.comps t.values e ++ corner_row (zip heads tables) a) here
    ∙ ap (λ row. column_entry b (h, t) ++ row) (corner_row-same heads tables a b rest)

tables-same : (g : GroupParts) (values : List (List ℤ)) (a b : ℕ) → get_or (corner_entries g) a 0 ≡ get_or (corner_entries g) b 0 →
    HaveSameEntries (map (λ vs. record { values = vs; of_corner = corner_entries g }) values) a b
tables-same g [] a b same = All-nil (λ (u : AttrTable). get_or u.of_corner a 0 ≡ get_or u.of_corner b 0)
tables-same g (vs ∷ values) a b same =
    let rest : List AttrTable = map (λ (xs : List ℤ). record { values = xs; of_corner = corner_entries g }) values in
    All-cons (λ (u : AttrTable). get_or u.of_corner a 0 ≡ get_or u.of_corner b 0) (record { values = vs; of_corner = corner_entries g }) rest same
    (tables-same g values a b same)

groups-same : (corners : ℕ) (groups : List GroupParts) (a b : ℕ) → All (HasVertices corners) groups → a < corners → b < corners → HaveSameVertices groups a b →
    HaveSameEntries (group_tables groups) a b
groups-same corners [] a b has at_a at_b same = All-nil (λ (u : AttrTable). get_or u.of_corner a 0 ≡ get_or u.of_corner b 0)
groups-same corners (g ∷ groups) a b has at_a at_b same =
    let here = All-head (HasVertices corners) g groups has in
    let long = here.each_corner in
    let f : ℕ → ℕ = λ v. get_or g.entry_of v 0 in
    let vertex : get_or g.of_corner a 0 ≡ get_or g.of_corner b 0 = All-head (λ (x : GroupParts). get_or x.of_corner a 0 ≡ get_or x.of_corner b 0) g groups same in
    let entries : get_or (corner_entries g) a 0 ≡ get_or (corner_entries g) b 0 =
    get_or-map f g.of_corner a 0 0 (omega (arith, long)) ∙ ap f vertex ∙ sym (get_or-map f g.of_corner b 0 0 (omega (arith, long))) in
    All-append (λ (u : AttrTable). get_or u.of_corner a 0 ≡ get_or u.of_corner b 0) (tables_of g) (group_tables groups) (tables-same g g.values a b entries)
    (groups-same corners groups a b (All-tail (HasVertices corners) g groups has) at_a at_b
    (All-tail (λ (x : GroupParts). get_or x.of_corner a 0 ≡ get_or x.of_corner b 0) g groups same))

-- the rows of corners follow their vertices
pub rows-follow : (corners : ℕ) (heads : List Head) (groups : List GroupParts) → All (HasVertices corners) groups →
    RowsFollowVertices groups corners (corner_row (zip heads (group_tables groups)))
rows-follow corners heads groups has a b at_a at_b same =
    corner_row-same heads (group_tables groups) a b (groups-same corners groups a b has at_a at_b same)

-- ---- items

-- a row that is there brings no distinct one
pub distinct-there : (rows : List (List ℤ)) (row : List ℤ) (p : ℕ) → IsPointOf rows row p → with_row (distinct rows) row ≡ distinct rows
distinct-there rows row p at =
    let found : list_any (same_row row) (distinct rows) ≡ true =
    any-distinct row rows ∙ list_any_at (same_row row) rows p [] at.0 (same_row-refl row (get_or rows p []) (sym at.1)) in
    ap (λ b. cond b (distinct rows) (distinct rows ++ row ∷ [])) found

-- the distinct rows of one more corner
distinct-corner : (row : ℕ → List ℤ) (c : ℕ) → distinct (map row (range_with_len 0 (c + 1))) ≡ with_row (distinct (map row (range_with_len 0 c))) (row c)
distinct-corner row c = ap distinct (map-range_with_len_more row 0 c c (omega arith)) ∙ distinct-push (map row (range_with_len 0 c)) (row c)

-- no items
pub AreItems-none : (groups : List GroupParts) (corners : ℕ) → AreItems groups corners 0 []
AreItems-none groups corners = record {
  few = omega arith;
  before = λ i below. absurd (omega arith);
  distinct_rows = λ row follow. refl;
}

pub AreLatest-none : (latest : List ℕ) → All (λ item. item ≡ 0) latest → AreLatest latest []
AreLatest-none latest zeros v = elim (cases_lt v (length latest)) [ inl below ↦ omega (arith, zeros v 0 below) | inr past ↦ omega (arith, get_or_past latest v 0 past) ]

-- a corner with an item that is there
pub AreItems-shared : (groups : List GroupParts) (corners c item : ℕ) (firsts : List ℕ) → AreItems groups corners c firsts → c < corners → HasItem groups firsts c item →
    AreItems groups corners (c + 1) firsts
AreItems-shared groups corners c item firsts are inside has = record {
  few = omega (arith, are.few);
  before = λ i below. omega (arith, are.before i below);
  distinct_rows = λ row follow.
      let first = get_or firsts item 0 in
      let low : first < corners = omega (arith, are.before item has.0) in
      let same : row first ≡ row c = follow first c low inside has.1 in
      let rows = map row firsts in
      let at : get_or rows item [] ≡ row c = get_or-map row firsts item 0 [] has.0 ∙ same in
      sym (distinct-there rows (row c) item (omega (arith, has.0, length-map firsts row), at))
      ∙ ap (λ ds. with_row ds (row c)) (are.distinct_rows row follow)
      ∙ sym (distinct-corner row c);
}

-- a corner with an item of its own
pub AreItems-new : (groups : List GroupParts) (corners c : ℕ) (firsts : List ℕ) → AreItems groups corners c firsts → AreItems groups corners (c + 1) (firsts ++ c ∷ [])
AreItems-new groups corners c firsts are = record {
  few = omega (arith, length_push firsts c, are.few);
  before = λ i below. elim (cases_lt i (length firsts)) [
    | inl early ↦ omega (arith, get_or_append_left firsts (c ∷ []) 0 i early, are.before i early)
    | inr past ↦ omega (arith, get_or_push firsts c 0 i (omega (arith, length_push firsts c)))
  ];
  distinct_rows = λ row follow.
      ap distinct (map-append row firsts (c ∷ []))
      ∙ distinct-push (map row firsts) (row c)
      ∙ ap (λ ds. with_row ds (row c)) (are.distinct_rows row follow)
      ∙ sym (distinct-corner row c);
}

pub AreLatest-new : (latest firsts : List ℕ) (c v : ℕ) → AreLatest latest firsts → v < length latest → AreLatest (set latest v (length firsts + 1)) (firsts ++ c ∷ [])
AreLatest-new latest firsts c v are inside d =
    let many : length (firsts ++ c ∷ []) ≡ length firsts + 1 = length_push firsts c in
    elim (cases_eq d v) [
      | inl same ↦ omega (arith, ap (λ k. get_or (set latest v (length firsts + 1)) k 0) same ∙ get_or-set_same latest v (length firsts + 1) 0 inside, many)
      | inr other ↦ omega (arith, get_or-set_other latest v d (length firsts + 1) 0 other, are d, many)
    ]

-- items stay where there is one more
pub HasItem-more : (groups : List GroupParts) (firsts : List ℕ) (new c item : ℕ) → HasItem groups firsts c item → HasItem groups (firsts ++ new ∷ []) c item
HasItem-more groups firsts new c item has =
    (omega (arith, has.0, length_push firsts new), subst (λ f. HaveSameVertices groups f c) (sym (get_or_append_left firsts (new ∷ []) 0 item has.0)) has.1)

-- a corner has the item whose first corner it is
pub HasItem-new : (groups : List GroupParts) (firsts : List ℕ) (c : ℕ) → HasItem groups (firsts ++ c ∷ []) c (length firsts)
HasItem-new groups firsts c = (
  omega (arith, length_push firsts c),
  subst (λ f. HaveSameVertices groups f c) (sym (get_or_push firsts c 0 (length firsts) refl)) (λ k d below. refl),
)

-- ---- corners and faces

pub HaveItems-none : (groups : List GroupParts) (firsts : List ℕ) → HaveItems groups 0 [] firsts
HaveItems-none groups firsts = record { each = refl; item = λ c below. absurd (omega arith) }

-- items that stay
abbrev pub KeepItems : List GroupParts → List ℕ → List ℕ → Type 0
KeepItems groups before after = (c item : ℕ) → HasItem groups before c item → HasItem groups after c item

HaveItems-more : (groups : List GroupParts) (c item : ℕ) (items before after : List ℕ) → HaveItems groups c items before → KeepItems groups before after → HasItem groups after c item →
    HaveItems groups (c + 1) (items ++ item ∷ []) after
HaveItems-more groups c item items before after have keeps at = record {
  each = length_push items item ∙ ap (λ n. n + 1) have.each;
  item = λ k below. elim (cases_lt k c) [
    | inl early ↦
        subst (HasItem groups after k) (sym (get_or_append_left items (item ∷ []) 0 k (omega (arith, have.each)))) (keeps k (get_or items k 0) (have.item k early))
    | inr past ↦
        let same : c ≡ k = omega arith in
        subst (HasItem groups after k) (sym (get_or_push items item 0 k (have.each ∙ same))) (subst (λ n. HasItem groups after n item) same at)
  ];
}

-- the corners of one more face
pub HaveItems-face : (groups : List GroupParts) (f a b c : ℕ) (items f0 f1 f2 f3 : List ℕ) → HaveItems groups (3 * f) items f0 → KeepItems groups f0 f1 → HasItem groups f1 (3 * f) a →
    KeepItems groups f1 f2 → HasItem groups f2 (3 * f + 1) b → KeepItems groups f2 f3 → HasItem groups f3 (3 * f + 2) c →
    HaveItems groups (3 * (f + 1)) (((items ++ a ∷ []) ++ b ∷ []) ++ c ∷ []) f3
HaveItems-face groups f a b c items f0 f1 f2 f3 have k1 at_a k2 at_b k3 at_c =
    let two : 3 * f + 1 + 1 ≡ 3 * f + 2 = omega arith in
    let three : 3 * f + 2 + 1 ≡ 3 * (f + 1) = omega arith in
    let first = HaveItems-more groups (3 * f) a items f0 f1 have k1 at_a in
    let second = HaveItems-more groups (3 * f + 1) b (items ++ a ∷ []) f1 f2 first k2 at_b in
    subst (λ n. HaveItems groups n (((items ++ a ∷ []) ++ b ∷ []) ++ c ∷ []) f3) three
    (HaveItems-more groups (3 * f + 2) c ((items ++ a ∷ []) ++ b ∷ []) f2 f3 (subst (λ n. HaveItems groups n ((items ++ a ∷ []) ++ b ∷ []) f2) two second) k3 at_c)

-- faces by items, with the rows of these
pub ItemFaces-corners : (columns : Columns) (groups : List GroupParts) (count : ℕ) (firsts items : List ℕ) (faces : List (List ℕ)) →
    RowsFollowVertices groups (3 * count) (corner_row columns) → AreItems groups (3 * count) (3 * count) firsts → HaveItems groups (3 * count) items firsts →
    faces ≡ map (triple items) (range_with_len 0 count) → AreItemFaces columns count faces (map (corner_row columns) firsts)
ItemFaces-corners columns groups count firsts items faces follow are have made = record {
  distinct_rows = are.distinct_rows (corner_row columns) follow;
  few = omega (arith, length-map firsts (corner_row columns), are.few);
  items = items;
  have = record {
    each = have.each;
    row = λ c below.
        let item = get_or items c 0 in
        let has = have.item c below in
        let first = get_or firsts item 0 in (
          omega (arith, has.0, length-map firsts (corner_row columns)),
          get_or-map (corner_row columns) firsts item 0 [] has.0 ∙ follow first c (are.before item has.0) below has.1,
        );
  };
  are = made;
}

-- one more face
pub faces-more : (items : List ℕ) (a b c f : ℕ) (faces : List (List ℕ)) → length items ≡ 3 * f → faces ≡ map (triple items) (range_with_len 0 f) → faces ++ (a ∷ b ∷ c ∷ []) ∷ [] ≡ map (triple (((items ++ a ∷ []) ++ b ∷ []) ++ c ∷ [])) (range_with_len 0 (f + 1))
faces-more items a b c f faces each are =
    ap (λ (fs : List (List ℕ)). fs ++ (a ∷ b ∷ c ∷ []) ∷ []) (are ∙ same)
    ∙ ap (λ (t : List ℕ). map (triple all) (range_with_len 0 f) ++ t ∷ []) (sym last)
    ∙ sym (map-range_with_len_more (triple all) 0 f f (omega arith))
  where
    one : List ℕ
    one = items ++ a ∷ []

    two : List ℕ
    two = (items ++ a ∷ []) ++ b ∷ []

    all : List ℕ
    all = ((items ++ a ∷ []) ++ b ∷ []) ++ c ∷ []

    one_long : length (items ++ a ∷ []) ≡ 3 * f + 1
    one_long = length_push items a ∙ ap (λ n. n + 1) each

    two_long : length ((items ++ a ∷ []) ++ b ∷ []) ≡ 3 * f + 2
    two_long = omega (arith, length_push (items ++ a ∷ []) b, one_long)

    early : (k : ℕ) → k < 3 * f → get_or items k 0 ≡ get_or (((items ++ a ∷ []) ++ b ∷ []) ++ c ∷ []) k 0
    early k below =
        sym (get_or_append_left ((items ++ a ∷ []) ++ b ∷ []) (c ∷ []) 0 k (omega (arith, two_long))
        ∙ get_or_append_left (items ++ a ∷ []) (b ∷ []) 0 k (omega (arith, one_long))
        ∙ get_or_append_left items (a ∷ []) 0 k (omega (arith, each)))

    at_a : get_or (((items ++ a ∷ []) ++ b ∷ []) ++ c ∷ []) (3 * f) 0 ≡ a
    at_a =
        get_or_append_left ((items ++ a ∷ []) ++ b ∷ []) (c ∷ []) 0 (3 * f) (omega (arith, two_long))
        ∙ get_or_append_left (items ++ a ∷ []) (b ∷ []) 0 (3 * f) (omega (arith, one_long))
        ∙ get_or_push items a 0 (3 * f) each

    at_b : get_or (((items ++ a ∷ []) ++ b ∷ []) ++ c ∷ []) (3 * f + 1) 0 ≡ b
    at_b =
        get_or_append_left ((items ++ a ∷ []) ++ b ∷ []) (c ∷ []) 0 (3 * f + 1) (omega (arith, two_long))
        ∙ get_or_push (items ++ a ∷ []) b 0 (3 * f + 1) one_long

    at_c : get_or (((items ++ a ∷ []) ++ b ∷ []) ++ c ∷ []) (3 * f + 2) 0 ≡ c
    at_c = get_or_push ((items ++ a ∷ []) ++ b ∷ []) c 0 (3 * f + 2) two_long

    last : triple (((items ++ a ∷ []) ++ b ∷ []) ++ c ∷ []) f ≡ a ∷ b ∷ c ∷ []
    last =
        ap (λ x. x ∷ get_or (((items ++ a ∷ []) ++ b ∷ []) ++ c ∷ []) (3 * f + 1) 0 ∷ get_or (((items ++ a ∷ []) ++ b ∷ []) ++ c ∷ []) (3 * f + 2) 0 ∷ []) at_a
        ∙ ap (λ x. a ∷ x ∷ get_or (((items ++ a ∷ []) ++ b ∷ []) ++ c ∷ []) (3 * f + 2) 0 ∷ []) at_b
        ∙ ap (λ x. a ∷ b ∷ x ∷ []) at_c

    same_triple : (k : ℕ) → k < f → triple items k ≡ triple (((items ++ a ∷ []) ++ b ∷ []) ++ c ∷ []) k
    same_triple k below =
        ap (λ x. x ∷ get_or items (3 * k + 1) 0 ∷ get_or items (3 * k + 2) 0 ∷ []) (early (3 * k) (omega arith))
        ∙ ap (λ x. get_or (((items ++ a ∷ []) ++ b ∷ []) ++ c ∷ []) (3 * k) 0 ∷ x ∷ get_or items (3 * k + 2) 0 ∷ []) (early (3 * k + 1) (omega arith))
        ∙ ap (λ x. get_or (((items ++ a ∷ []) ++ b ∷ []) ++ c ∷ []) (3 * k) 0 ∷ get_or (((items ++ a ∷ []) ++ b ∷ []) ++ c ∷ []) (3 * k + 1) 0 ∷ x ∷ []) (early (3 * k + 2) (omega arith))

    same : map (triple items) (range_with_len 0 f) ≡ map (triple (((items ++ a ∷ []) ++ b ∷ []) ++ c ∷ [])) (range_with_len 0 f)
    same =
        same_lists (map (triple items) (range_with_len 0 f)) (map (triple (((items ++ a ∷ []) ++ b ∷ []) ++ c ∷ [])) (range_with_len 0 f))
        (length-map-range_with_len (triple items) 0 f ∙ sym (length-map-range_with_len (triple (((items ++ a ∷ []) ++ b ∷ []) ++ c ∷ [])) 0 f))
        (λ k d below.
        let inside : k < f = omega (arith, length-map-range_with_len (triple items) 0 f) in
        get_or-map-range_with_len (triple items) 0 f k k d inside (omega arith)
        ∙ same_triple k inside
        ∙ sym (get_or-map-range_with_len (triple (((items ++ a ∷ []) ++ b ∷ []) ++ c ∷ [])) 0 f k k d inside (omega arith)))
