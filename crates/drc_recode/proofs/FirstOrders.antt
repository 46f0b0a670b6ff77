-- What holds of a geometry in the order before rows, and of rows turned back.
use Rattle.std.proofs.Common.{◌≡◌, ◌⊎◌, ℕ, zero, suc, ◌+◌, ◌-◌, ◌*◌, ◌%◌, ◌<◌, ◌≤◌, eqb, List, [], length, get_or, map, ℤ, refl, sym, ap, ◌∙◌, subst, inl, inr, arith}
use Rattle.std.specs.List.{All, position_or_len}
use Rattle.std.proofs.lemmas.Bool.{eq-eqb, eqb-true}
use Rattle.std.proofs.lemmas.List.{length-map, get_or-map}
use Rattle.std.proofs.lemmas.List.Elements.{All-from_get_or}
use Rattle.std.proofs.lemmas.List.FromFn.{length-map-range_with_len, get_or-map-range_with_len, fill_by_all}
use Rattle.drc_base.specs.declared.limits.TheConstants.{MAX_VALUES}
use Rattle.mesh_model.specs.declared.geometries.Geometry.{Geometry}
use Rattle.mesh_model.specs.declared.geometries.Geometry.TheVariants.{Mesh, Cloud}
use Rattle.attr_heads.specs.Head.{width_of}
use Rattle.mesh_model.specs.IsGeometry.{IsGeometry}
use Rattle.mesh_model.specs.Parts.{MeshParts, CloudParts, RowFits, IsMesh, IsCloud}
use Rattle.mesh_model.specs.Renumbering.{plain, composed, inverted, NamesApart, turned_face, renumbered}
use Rattle.mesh_model.specs.RenumberingLaws.{RenumberedIsMesh, RenumberedIsSame}
use Rattle.mesh_model.specs.Same.{Rows, NamesEachOnce, SameMesh, SameCloud, Same, named, turn}
use Rattle.mesh_model.specs.SameLaws.{count_of, SameIsSymmetric, SameIsTransitive}
use Rattle.mesh_model.proofs.Counts.{OnePlace, one_place, first-one_place}
use Rattle.drc_recode.specs.FirstOrder.{reordered, first_order, CanTurnBack, MeshStandsAgain, CloudStandsAgain, StandsAgain}

-- ---- rows turned back

-- the row of a number on the way back
abbrev row_back : Rows → ℕ → ℕ × ℕ
row_back rows f = let i = position_or_len (λ (row : ℕ × ℕ). eqb row.0 f) rows in (i, (3 - turn rows i) % 3)

length-inverted : (rows : Rows) → length (inverted rows) ≡ length rows
length-inverted rows = length-map-range_with_len (row_back rows) 0 (length rows)

module _ (rows : Rows) (names : NamesEachOnce (length rows) rows) where
  -- the row that names a number
  namer : (f : ℕ) → f < length rows → (j : ℕ) × OnePlace (λ row. eqb row.0 f) rows (0, 0) j
  namer f below = one_place (λ row. eqb row.0 f) rows (0, 0) (names.once f below)

  namer-names : (f : ℕ) (below : f < length rows) → named rows (namer f below).0 ≡ f
  namer-names f below = eqb-true (named rows (namer f below).0) f (namer f below).1.passes

  -- what stands at that number on the way back
  inverted-at : (f : ℕ) (below : f < length rows) → get_or (inverted rows) f (0, 0) ≡ ((namer f below).0, (3 - turn rows (namer f below).0) % 3)
  inverted-at f below =
      get_or-map-range_with_len (row_back rows) 0 (length rows) f f (0, 0) below (omega arith)
      ∙ ap (λ (i : ℕ). (i, (3 - turn rows i) % 3)) (first-one_place (λ (row : ℕ × ℕ). eqb row.0 f) rows (0, 0) (namer f below).0 (namer f below).1)

  -- what stands at the number that row i names
  inverted-own : (i : ℕ) → i < length rows → get_or (inverted rows) (named rows i) (0, 0) ≡ (i, (3 - turn rows i) % 3)
  inverted-own i below =
      let inside = names.within i (0, 0) below in
      let own : i ≡ (namer (named rows i) inside).0 = (namer (named rows i) inside).1.alone i below (eq-eqb (named rows i) (named rows i) refl) in
      inverted-at (named rows i) inside ∙ ap (λ (j : ℕ). (j, (3 - turn rows j) % 3)) (sym own)

  -- the rows back name each number apart
  pub inverted-apart : NamesApart (length rows) (inverted rows)
  inverted-apart = record {
    one_each = length-inverted rows;
    within = λ i below. subst (λ (row : ℕ × ℕ). row.0 < length rows) (sym (inverted-at i below)) (namer i below).1.inside;
    turns = λ i below. subst (λ (row : ℕ × ℕ). row.1 < 3) (sym (inverted-at i below)) (omega arith);
    apart = λ i j bi bj same.
        let e : (namer i bi).0 ≡ (namer j bj).0 =
        sym (ap (λ (row : ℕ × ℕ). row.0) (inverted-at i bi)) ∙ same ∙ ap (λ (row : ℕ × ℕ). row.0) (inverted-at j bj) in
        sym (namer-names i bi) ∙ ap (named rows) e ∙ namer-names j bj;
  }

pair : (a b f t : ℕ) → a ≡ f → b ≡ t → ◌≡◌ {A = ℕ × ℕ} (a, b) (f, t)
pair a b f t p q = rw (p, q) refl

-- the rows back undo the rows
pub inverted-undoes : (rows : Rows) → NamesEachOnce (length rows) rows → All (λ row. row.1 ≤ 2) rows → composed rows (inverted rows) ≡ plain (length rows)
inverted-undoes rows names turns =
    fill_by_all unturned (composed rows (inverted rows)) (length rows) (0, 0) (length-map (inverted rows) then ∙ length-inverted rows) (λ f below.
    let j = (namer rows names f below).0 in
    let little : turn rows j ≤ 2 = turns j (0, 0) (namer rows names f below).1.inside in
    get_or-map then (inverted rows) f (0, 0) (0, 0) (omega (arith, length-inverted rows))
    ∙ ap then (inverted-at rows names f below)
    ∙ pair (named rows j) ((turn rows j + (3 - turn rows j) % 3) % 3) f 0 (namer-names rows names f below) (omega arith))
  where
    unturned : ℕ → ℕ × ℕ
    unturned k = (k, 0)

    then : ℕ × ℕ → ℕ × ℕ
    then row = (named rows row.0, (turn rows row.0 + row.1) % 3)

-- ---- the corners of faces that are turned back

three : (k : ℕ) → k < 3 → (k ≡ 0) ⊎ ((k ≡ 1) ⊎ (k ≡ 2))
three zero below = inl refl
three (suc zero) below = inr (inl refl)
three (suc (suc zero)) below = inr (inr refl)
three (suc (suc (suc k))) below = absurd (omega arith)

turned-at : (face : List ℕ) (t k : ℕ) → k < 3 → get_or (turned_face face t) k 0 ≡ get_or face ((k + t) % 3) 0
turned-at face t k below = elim (three k below) [
  | inl e0 ↦ rw e0 (ap (λ n. get_or face n 0) (omega arith))
  | inr later ↦ elim later [ inl e1 ↦ rw e1 refl | inr e2 ↦ rw e2 refl ]
]

mesh-stands : (n : MeshParts) (rows : Rows) → CanTurnBack (Mesh n) rows → MeshStandsAgain n (renumbered n (inverted rows)) rows
mesh-stands n rows can = record {
  heads = refl;
  points = refl;
  count = length-map (inverted rows) face_of ∙ length-inverted rows ∙ can.one_each;
  corners = λ i k below.
      let under : i < length rows = omega (arith, can.one_each) in
      let t = turn rows i in
      let little : t ≤ 2 = can.turns i (0, 0) under in
      let place : named rows i < length (inverted rows) = omega (arith, can.names.within i (0, 0) under, length-inverted rows) in
      let face : get_or (map face_of (inverted rows)) (named rows i) [] ≡ turned_face (get_or n.faces i []) ((3 - t) % 3) =
      get_or-map face_of (inverted rows) (named rows i) (0, 0) [] place ∙ ap face_of (inverted-own rows can.names i under) in
      let corner : ((k + t) % 3 + (3 - t) % 3) % 3 ≡ k % 3 = omega arith in
      ap (λ (f : List ℕ). get_or f ((k + t) % 3) 0) face
      ∙ turned-at (get_or n.faces i []) ((3 - t) % 3) ((k + t) % 3) (omega arith)
      ∙ ap (λ l. get_or (get_or n.faces i []) l 0) corner;
}
  where
    face_of : ℕ × ℕ → List ℕ
    face_of row = turned_face (get_or n.faces row.0 []) row.1

-- ---- the points of a cloud in another order

abbrev point_of : CloudParts → ℕ × ℕ → List ℤ
point_of c row = get_or c.points row.0 []

length-reordered : (c : CloudParts) (rows : Rows) → length (reordered c rows).points ≡ length rows
length-reordered c rows = length-map rows (point_of c)

reordered-at : (c : CloudParts) (rows : Rows) (i : ℕ) (d : List ℤ) → i < length rows → get_or (reordered c rows).points i d ≡ get_or c.points (named rows i) []
reordered-at c rows i d below = get_or-map (point_of c) rows i (0, 0) d below

pub reordered-cloud : (c : CloudParts) (rows : Rows) → IsCloud c → NamesApart (length c.points) rows → IsCloud (reordered c rows)
reordered-cloud c rows is apart = record {
  heads_pass = is.heads_pass;
  few_points = omega (arith, many, is.few_points);
  few_values = subst (λ n. n * width_of c.heads ≤ MAX_VALUES) (sym many) is.few_values;
  rows_fit = All-from_get_or (RowFits c.heads) (reordered c rows).points [] (λ i below.
      let under : i < length rows = omega (arith, length-reordered c rows) in
      let inside : i < length c.points = omega (arith, apart.one_each) in
      subst (RowFits c.heads) (sym (reordered-at c rows i [] under)) (is.rows_fit (named rows i) [] (apart.within i inside)));
}
  where
    many : length (reordered c rows).points ≡ length c.points
    many = length-reordered c rows ∙ apart.one_each

cloud-stands : (n : CloudParts) (rows : Rows) → CanTurnBack (Cloud n) rows → CloudStandsAgain n (reordered n (inverted rows)) rows
cloud-stands n rows can = record {
  heads = refl;
  count = length-reordered n (inverted rows) ∙ length-inverted rows ∙ can.one_each;
  points = λ i below.
      let under : i < length rows = omega (arith, can.one_each) in
      let place : named rows i < length (inverted rows) = omega (arith, can.names.within i (0, 0) under, length-inverted rows) in
      reordered-at n (inverted rows) (named rows i) [] place ∙ ap (point_of n) (inverted-own rows can.names i under);
}

pub stands-again : (n : Geometry) (rows : Rows) → CanTurnBack n rows → StandsAgain n (first_order n rows) rows
stands-again (Mesh n) rows can = mesh-stands n rows can
stands-again (Cloud n) rows can = cloud-stands n rows can

-- ---- a geometry in the first order

apart-back : (count : ℕ) (rows : Rows) → length rows ≡ count → NamesEachOnce (length rows) rows → NamesApart count (inverted rows)
apart-back count rows many names = subst (λ n. NamesApart n (inverted rows)) many (inverted-apart rows names)

pub first-geometry : RenumberedIsMesh → (n : Geometry) (rows : Rows) → IsGeometry n → CanTurnBack n rows → IsGeometry (first_order n rows)
first-geometry mesh (Mesh n) rows is can = mesh n (inverted rows) is (apart-back (length n.faces) rows can.one_each can.names)
first-geometry mesh (Cloud n) rows is can = reordered-cloud n (inverted rows) is (apart-back (length n.points) rows can.one_each can.names)

-- as many rows as what they name
names-long : (count : ℕ) (rows : Rows) → length (inverted rows) ≡ count → NamesEachOnce count rows → NamesEachOnce (length rows) rows
names-long count rows many names = subst (λ n. NamesEachOnce n rows) (sym many ∙ length-inverted rows) names

same-mesh : SameIsSymmetric → SameIsTransitive → RenumberedIsSame → (g n : MeshParts) (rows : Rows) → IsMesh n → SameMesh g n rows
    → SameMesh g (renumbered n (inverted rows)) (plain (length g.faces))
same-mesh symmetric transitive again g n rows is same =
    let back : SameMesh n g (inverted rows) = symmetric (Mesh g) (Mesh n) rows same in
    let names = names-long (length g.faces) rows back.each_row same.each_face in
    let many : length rows ≡ length g.faces = sym (length-inverted rows) ∙ back.each_row in
    let turns : All (λ row. row.1 ≤ 2) rows = All-from_get_or (λ (row : ℕ × ℕ). row.1 ≤ 2) rows (0, 0) (λ i below.
    let small = (same.faces i (omega (arith, same.each_row))).0 in omega arith) in
    let first : SameMesh n (renumbered n (inverted rows)) (inverted rows) = again n (inverted rows) is (apart-back (length n.faces) rows same.each_row names) in
    let both : SameMesh g (renumbered n (inverted rows)) (composed rows (inverted rows)) =
    transitive (Mesh g) (Mesh n) (Mesh (renumbered n (inverted rows))) rows (inverted rows) same first in
    subst (SameMesh g (renumbered n (inverted rows))) (inverted-undoes rows names turns ∙ ap plain many) both

-- a cloud is the same as before by the rows that order its points
reordered-same : (c : CloudParts) (rows : Rows) → NamesEachOnce (length c.points) rows → ((i : ℕ) → i < length rows → turn rows i ≡ 0) → SameCloud c (reordered c rows) rows
reordered-same c rows names flat = record {
  heads = refl;
  each_row = sym (length-reordered c rows);
  each_point = names;
  points = λ i below.
      let under : i < length rows = omega (arith, length-reordered c rows) in
      (flat i under, reordered-at c rows i [] under);
}

same-cloud : SameIsSymmetric → SameIsTransitive → (g n : CloudParts) (rows : Rows) → SameCloud g n rows
    → SameCloud g (reordered n (inverted rows)) (plain (length g.points))
same-cloud symmetric transitive g n rows same =
    let back : SameCloud n g (inverted rows) = symmetric (Cloud g) (Cloud n) rows same in
    let names = names-long (length g.points) rows back.each_row same.each_point in
    let many : length rows ≡ length g.points = sym (length-inverted rows) ∙ back.each_row in
    let turns : All (λ row. row.1 ≤ 2) rows = All-from_get_or (λ (row : ℕ × ℕ). row.1 ≤ 2) rows (0, 0) (λ i below.
    let flat = (same.points i (omega (arith, same.each_row))).0 in omega arith) in
    let first : SameCloud n (reordered n (inverted rows)) (inverted rows) =
    reordered-same n (inverted rows) back.each_point (λ i below. (back.points i (omega (arith, back.each_row))).0) in
    let both : SameCloud g (reordered n (inverted rows)) (composed rows (inverted rows)) =
    transitive (Cloud g) (Cloud n) (Cloud (reordered n (inverted rows))) rows (inverted rows) same first in
    subst (SameCloud g (reordered n (inverted rows))) (inverted-undoes rows names turns ∙ ap plain many) both

pub first-same : SameIsSymmetric → SameIsTransitive → RenumberedIsSame → (g n : Geometry) (rows : Rows) → IsGeometry n → Same g n rows
    → Same g (first_order n rows) (plain (count_of g))
first-same symmetric transitive again (Mesh g) (Mesh n) rows is same = same-mesh symmetric transitive again g n rows is same
first-same symmetric transitive again (Cloud g) (Cloud n) rows is same = same-cloud symmetric transitive g n rows same
first-same symmetric transitive again (Mesh g) (Cloud n) rows is same = absurd same
first-same symmetric transitive again (Cloud g) (Mesh n) rows is same = absurd same

-- ---- one geometry in order after another

-- the plain rows twice are the plain rows
composed-plain : (n : ℕ) → composed (plain n) (plain n) ≡ plain n
composed-plain n =
    fill_by_all unturned (composed (plain n) (plain n)) n (0, 0) (length-map (plain n) then ∙ length-map-range_with_len unturned 0 n) (λ i below.
    get_or-map then (plain n) i (0, 0) (0, 0) (omega (arith, length-map-range_with_len unturned 0 n))
    ∙ ap then (plain-at i below)
    ∙ pair (named (plain n) i) ((turn (plain n) i + 0) % 3) i 0 (ap (λ (row : ℕ × ℕ). row.0) (plain-at i below)) (ap (λ (row : ℕ × ℕ). (row.1 + 0) % 3) (plain-at i below)))
  where
    unturned : ℕ → ℕ × ℕ
    unturned k = (k, 0)

    then : ℕ × ℕ → ℕ × ℕ
    then row = (named (plain n) row.0, (turn (plain n) row.0 + row.1) % 3)

    plain-at : (i : ℕ) → i < n → get_or (plain n) i (0, 0) ≡ (i, 0)
    plain-at i below = get_or-map-range_with_len unturned 0 n i i (0, 0) below (omega arith)

-- what is the same in order has as many faces or points
same-count : (g h : Geometry) → Same g h (plain (count_of g)) → count_of h ≡ count_of g
same-count (Mesh g) (Mesh h) same = sym same.each_row ∙ length-map-range_with_len unturned 0 (length g.faces) where
  unturned : ℕ → ℕ × ℕ
  unturned k = (k, 0)
same-count (Cloud g) (Cloud h) same = sym same.each_row ∙ length-map-range_with_len unturned 0 (length g.points) where
  unturned : ℕ → ℕ × ℕ
  unturned k = (k, 0)
same-count (Mesh g) (Cloud h) same = absurd same
same-count (Cloud g) (Mesh h) same = absurd same

-- what is the same in order as one that is the same in order
pub same-in_order : SameIsTransitive → (g h i : Geometry) → Same g h (plain (count_of g)) → Same h i (plain (count_of h)) → Same g i (plain (count_of g))
same-in_order transitive g h i first second =
    subst (Same g i) (composed-plain (count_of g))
    (transitive g h i (plain (count_of g)) (plain (count_of g)) first (subst (λ n. Same h i (plain n)) (same-count g h first) second))
