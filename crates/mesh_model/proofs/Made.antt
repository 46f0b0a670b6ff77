-- What the tests of a geometry say of its rows and faces, and back.
use Rattle.std.proofs.Common.{◌≡◌, ℕ, ◌+◌, ◌*◌, ◌/◌, ◌%◌, ◌<◌, ◌≤◌, Bool, true, not, leb, ltb, List, [], length, get_or, take, drop, None, Ok, ℤ, pos, refl, sym, ap, ◌∙◌, subst, add-zero, arith}
use Rattle.std.specs.List.{All, list_all}
use Rattle.std.proofs.lemmas.Bool.{leb-true, le-leb, ltb-true, lt-ltb, not-false}
use Rattle.std.proofs.lemmas.Nat.{mul-add-lt, mod-mul-add, div-add-mod', mod_below, div_below}
use Rattle.std.proofs.Math.Nat.{mul-div_cancel}
use Rattle.std.proofs.lemmas.List.Sums.{AllPass-from_list_all, list_all-from_AllPass}
use Rattle.std.proofs.lemmas.List.Elements.{All-from_get_or, All-weaker}
use Rattle.drc_base.specs.declared.kinds.Kind.TheVariants.{PointLimit, ValueLimit, FaceLimit, IndexRange}
use Rattle.drc_base.specs.declared.limits.TheConstants.{MAX_POINTS, MAX_VALUES}
use Rattle.attr_heads.specs.declared.heads.Head.{Head}
use Rattle.attr_heads.specs.FirstFault.{unless, at_place, value_unless}
use Rattle.attr_heads.specs.Bounds.{in_bounds, no_bounds}
use Rattle.attr_heads.specs.Head.{width_of, row_bounds, heads_fault}
use Rattle.mesh_model.specs.Parts.{MeshParts, CloudParts, rows_of, cells_of, count_fault, faces_fault, index_fault, range_fault, mesh_fault, cloud_fault, mesh_of, cloud_of, AreRows, RowFits, ArePoints, IsMesh, IsCloud}
use Rattle.mesh_model.specs.Stored.{AreStored}
use Rattle.attr_heads.proofs.Widths.{width_of-bounds}
use Rattle.attr_heads.proofs.FirstFaults.{unless-none, unless-true, at_place-none, first_fault-none, first_fault-cons}
use Rattle.mesh_model.proofs.Places.{position-none, position-none_back}
use Rattle.mesh_model.proofs.Ranges.{fits_at, range_fault-none, range_fault-none_back}
use Rattle.mesh_model.proofs.Rows.{length-rows_of, get_or-rows_of, length-stored_row, get_or-stored_row, length-cells_of, length-cells_of-div, get_or-cells_of, rows_of-cells_of}

-- the counts are within the limits
pub count_fault-points : (points width : ℕ) → count_fault points width ≡ None → points ≤ MAX_POINTS
count_fault-points points width e = leb-true _ _ (unless-none _ PointLimit points (first_fault-none _ _ e).0)

pub count_fault-values : (points width : ℕ) → count_fault points width ≡ None → points * width ≤ MAX_VALUES
count_fault-values points width e =
    leb-true _ _ (unless-none _ ValueLimit (points * width) (first_fault-none _ _ (first_fault-none (unless (leb points MAX_POINTS) PointLimit points) _ e).1).0)

pub count_fault-none : (points width : ℕ) → points ≤ MAX_POINTS → points * width ≤ MAX_VALUES → count_fault points width ≡ None
count_fault-none points width few_points few_values =
    first_fault-cons _ _ (unless-true _ PointLimit points (le-leb _ _ few_points))
    (first_fault-cons _ [] (unless-true _ ValueLimit (points * width) (le-leb _ _ few_values)) refl)

-- each number of each face is below the number of points
pub index_fault-faces : (points : ℕ) (faces : List (List ℕ)) → index_fault points faces ≡ None → All (λ face. All (λ p. p < points) face) faces
unfolding index_fault
index_fault-faces points faces e =
    let test : List ℕ → Bool = λ face. not (list_all (λ p. ltb p points) face) in
    All-from_get_or (λ face. All (λ p. p < points) face) faces [] (λ f below.
    let passes = not-false _ (position-none_back test faces (at_place-none IndexRange _ e) f [] below) in
    All-weaker (λ p. ltb p points ≡ true) (λ p. p < points) (λ p t. ltb-true p points t) _
    (AllPass-from_list_all (λ p. ltb p points) _ passes))

pub index_fault-none : (points : ℕ) (faces : List (List ℕ)) → All (λ face. All (λ p. p < points) face) faces → index_fault points faces ≡ None
unfolding index_fault
index_fault-none points faces inside =
    ap (at_place IndexRange) (position-none (λ face. not (list_all (λ p. ltb p points) face)) faces [] (λ f below.
    ap not (list_all-from_AllPass (λ p. ltb p points) _
    (All-weaker (λ p. p < points) (λ p. ltb p points ≡ true) (λ p t. lt-ltb p points t) _ (inside f [] below)))))

-- a stored row fits the heads where each cell is within its bounds
RowFits-stored : (heads : List Head) (cells : List ℤ) (count i : ℕ) → length cells ≡ count * width_of heads → i < count → ((k : ℕ) → k < length cells → fits_at heads cells k ≡ true) → RowFits heads (take (width_of heads) (drop (i * width_of heads) cells))
RowFits-stored heads cells count i whole inside fit =
    let w = width_of heads in (
      length-stored_row w count cells i whole inside,
      λ j narrow.
          let within : i * w + j < w * count = mul-add-lt i w j count inside narrow in
          ap (λ value. in_bounds (get_or (row_bounds heads) j no_bounds) value) (get_or-stored_row w cells i j (pos 0) narrow)
          ∙ sym (ap (λ n. in_bounds (get_or (row_bounds heads) n no_bounds) (get_or cells (i * w + j) (pos 0))) (mod-mul-add i w j narrow))
          ∙ fit (i * w + j) (omega arith),
    )

-- the rows of a flat list that passes the tests fit the heads
ArePoints-wide : (heads : List Head) (cells : List ℤ) (count : ℕ) → 0 < width_of heads → length cells ≡ count * width_of heads → heads_fault heads ≡ None → count_fault count (width_of heads) ≡ None → range_fault heads cells ≡ None → ArePoints heads (rows_of (width_of heads) cells)
ArePoints-wide heads cells count wide whole pass counts ranges =
    let w = width_of heads in
    let many : length cells / w ≡ count = ap (λ n. n / w) whole ∙ mul-div_cancel count wide in
    let rows : length (rows_of w cells) ≡ count = length-rows_of w cells ∙ many in
    record {
      heads_pass = pass;
      few_points = omega (arith, rows, count_fault-points count w counts);
      few_values = subst (λ n. n * w ≤ MAX_VALUES) (sym rows) (count_fault-values count w counts);
      rows_fit = All-from_get_or (RowFits heads) (rows_of w cells) [] (λ i below.
          let inside : i < count = omega arith in
          subst (RowFits heads) (sym (get_or-rows_of w cells i [] (omega arith)))
          (RowFits-stored heads cells count i whole inside (range_fault-none_back heads cells ranges)));
    }

pub ArePoints-made : (heads : List Head) (cells : List ℤ) (width count : ℕ) → AreStored heads cells width count → heads_fault heads ≡ None → count_fault count width ≡ None → range_fault heads cells ≡ None → ArePoints heads (rows_of width cells)
ArePoints-made heads cells width count stored pass counts ranges =
    let is = stored.width_is in
    subst (λ w. ArePoints heads (rows_of w cells)) (sym is)
    (ArePoints-wide heads cells count (subst (λ w. 0 < w) is stored.wide) (subst (λ w. length cells ≡ count * w) is stored.whole) pass
    (subst (λ w. count_fault count w ≡ None) is counts) ranges)

-- heads, cells and faces that pass the tests are a mesh
pub IsMesh-made : (heads : List Head) (cells : List ℤ) (width count : ℕ) (faces : List (List ℕ)) → AreStored heads cells width count → heads_fault heads ≡ None → count_fault count width ≡ None → faces_fault faces ≡ None → index_fault count faces ≡ None → range_fault heads cells ≡ None → All (λ face. length face ≡ 3) faces → IsMesh (record { heads = heads; points = rows_of width cells; faces = faces })
IsMesh-made heads cells width count faces stored pass counts few indices ranges long =
    let many : length (rows_of width cells) ≡ count = length-rows_of width cells ∙ ap (λ n. n / width) stored.whole ∙ mul-div_cancel count stored.wide in
    record {
      points = ArePoints-made heads cells width count stored pass counts ranges;
      few_faces = leb-true _ _ (unless-none _ FaceLimit (length faces) few);
      faces = λ f d below. (long f d below, subst (λ n. All (λ p. p < n) (get_or faces f d)) (sym many) (index_fault-faces count faces indices f d below));
    }

-- whole rows of as many cells as there are
pub whole-rows : (heads : List Head) (cells : List ℤ) (width : ℕ) → AreRows heads cells → heads_fault heads ≡ None → width ≡ width_of heads → length cells ≡ length cells / width * width
whole-rows heads cells width rows pass is =
    let none : length cells % width ≡ 0 = ap (λ w. length cells % w) is ∙ rows pass in
    omega (arith, div-add-mod' (length cells) width)

-- as many rows as are stored
pub length-stored : (heads : List Head) (cells : List ℤ) (width count : ℕ) → AreStored heads cells width count → length (rows_of width cells) ≡ count
length-stored heads cells width count stored = length-rows_of width cells ∙ ap (λ n. n / width) stored.whole ∙ mul-div_cancel count stored.wide

-- where rows fit heads, each cell of their flat list is within its bounds
fits_at-cells_of : (heads : List Head) (points : List (List ℤ)) → 0 < width_of heads → All (RowFits heads) points → (k : ℕ) → k < length points * width_of heads → fits_at heads (cells_of points) k ≡ true
fits_at-cells_of heads points wide fit k below =
    let w = width_of heads in
    let i = k / w in
    let j = k % w in
    let narrow : j < w = mod_below k w wide in
    let inside : i < length points = div_below k w (length points) wide below in
    let place : i * w + j ≡ k = div-add-mod' k w in
    let long : All (λ row. length row ≡ w) points = λ r d b. (fit r d b).0 in
    let value : get_or (cells_of points) k (pos 0) ≡ get_or (get_or points i []) j (pos 0) =
    ap (λ n. get_or (cells_of points) n (pos 0)) (sym place) ∙ get_or-cells_of w points i j (pos 0) long inside narrow in
    ap (in_bounds (get_or (row_bounds heads) j no_bounds)) value ∙ (fit i [] inside).1 j narrow

-- where rows fit heads, no cell of their flat list is outside its bounds
pub range_fault-cells_of : (heads : List Head) (points : List (List ℤ)) → heads_fault heads ≡ None → All (RowFits heads) points → range_fault heads (cells_of points) ≡ None
range_fault-cells_of heads points pass fit =
    let w = width_of heads in
    let wide : 0 < w = (width_of-bounds heads pass).0 in
    let whole = length-cells_of w points (λ r d b. (fit r d b).0) in
    range_fault-none heads (cells_of points) (λ k below. fits_at-cells_of heads points wide fit k (subst (λ n. k < n) whole below))

-- the flat list of points that fit passes each test of points
pub ArePoints-tests : (heads : List Head) (points : List (List ℤ)) → ArePoints heads points → (length (cells_of points) / width_of heads ≡ length points) × (count_fault (length (cells_of points) / width_of heads) (width_of heads) ≡ None) × (range_fault heads (cells_of points) ≡ None) × (rows_of (width_of heads) (cells_of points) ≡ points) × (length (cells_of points) % width_of heads ≡ 0)
ArePoints-tests heads points are =
    let w = width_of heads in
    let wide : 0 < w = (width_of-bounds heads are.heads_pass).0 in
    let long : All (λ row. length row ≡ w) points = λ r d b. (are.rows_fit r d b).0 in
    let many = length-cells_of-div w points wide long in
    let whole = length-cells_of w points long in (
      many,
      subst (λ n. count_fault n w ≡ None) (sym many) (count_fault-none (length points) w are.few_points are.few_values),
      range_fault-cells_of heads points are.heads_pass are.rows_fit,
      rows_of-cells_of w points wide long,
      ap (λ n. n % w) (whole ∙ sym (add-zero (length points * w))) ∙ mod-mul-add (length points) w 0 wide,
    )

-- every mesh is made of its heads, the flat list of its points and its faces
pub mesh_of-IsMesh : (m : MeshParts) → IsMesh m → mesh_of m.heads (cells_of m.points) m.faces ≡ Ok m
mesh_of-IsMesh m is =
    let t = ArePoints-tests m.heads m.points is.points in
    let few : faces_fault m.faces ≡ None = unless-true _ FaceLimit (length m.faces) (le-leb _ _ is.few_faces) in
    let inside : All (λ face. All (λ p. p < length (cells_of m.points) / width_of m.heads) face) m.faces =
    λ f d b. subst (λ n. All (λ p. p < n) (get_or m.faces f d)) (sym t.0) (is.faces f d b).1 in
    let none : mesh_fault m.heads (cells_of m.points) m.faces ≡ None =
    first_fault-cons _ _ is.points.heads_pass
    (first_fault-cons _ _ t.1 (first_fault-cons _ _ few (first_fault-cons _ _ (index_fault-none _ m.faces inside) (first_fault-cons _ [] t.2 refl)))) in
    let made : List (List ℤ) → MeshParts = λ points. record { heads = m.heads; points = points; faces = m.faces } in
    ap (λ fault. value_unless fault (made (rows_of (width_of m.heads) (cells_of m.points)))) none ∙ ap (λ points. Ok (made points)) t.3

-- every cloud is made of its heads and the flat list of its points
pub cloud_of-IsCloud : (c : CloudParts) → IsCloud c → cloud_of c.heads (cells_of c.points) ≡ Ok c
cloud_of-IsCloud c is =
    let t = ArePoints-tests c.heads c.points is in
    let none : cloud_fault c.heads (cells_of c.points) ≡ None =
    first_fault-cons _ _ is.heads_pass (first_fault-cons _ _ t.1 (first_fault-cons _ [] t.2 refl)) in
    let made : List (List ℤ) → CloudParts = λ points. record { heads = c.heads; points = points } in
    ap (λ fault. value_unless fault (made (rows_of (width_of c.heads) (cells_of c.points)))) none ∙ ap (λ points. Ok (made points)) t.3

-- the flat list of points that fit is whole rows
pub AreRows-cells_of : (heads : List Head) (points : List (List ℤ)) → ArePoints heads points → AreRows heads (cells_of points)
AreRows-cells_of heads points are = λ _. (ArePoints-tests heads points are).4
