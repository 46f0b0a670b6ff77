-- The points of a file that is read again: those of the cloud, in the order of the rows.
use Rattle.std.proofs.Common.{◌≡◌, ℕ, ◌<◌, true, cond, ℤ, pos, List, [], length, get_or, map, refl, sym, ◌∙◌, ap, subst, arith}
use Rattle.std.specs.Prelude.{◌==◌}
use Rattle.std.specs.List.{range_with_len}
use Rattle.std.proofs.lemmas.List.{length-map, get_or-map}
use Rattle.std.proofs.lemmas.List.Sorted.{sum_by-IsPermutation}
use Rattle.attr_heads.specs.Bounds.{in_bounds, no_bounds}
use Rattle.attr_heads.specs.Head.{row_bounds, width_of}
use Rattle.mesh_model.specs.Parts.{CloudParts, IsCloud}
use Rattle.mesh_model.specs.Same.{NamesEachOnce, Rows, SameCloud}
use Rattle.mesh_model.proofs.Counts.{count-map, count-range}
use Rattle.kd_tree.specs.Keys.{Key, key_at}
use Rattle.kd_tree.specs.Order.{IsKdOrder, point_cmp}
use Rattle.kd_tree.proofs.Orders.{order-below}
use Rattle.kd_points.specs.Extents.{extents_of, key_within, keys_of, row_within}
use Rattle.kd_points.specs.Meaning.{FirstOutside}
use Rattle.kd_points.proofs.Clouded.{length-row_bounds}
use Rattle.kd_points.proofs.Counting.{sorted_length}
use Rattle.kd_points.proofs.RowsBack.{row_back}

-- the keys in the order, and their points
abbrev pub sorted_keys : CloudParts → List ℕ → List Key
sorted_keys c order = map (key_at (keys_of c)) order

abbrev pub sorted_points : CloudParts → List ℕ → List (List ℤ)
sorted_points c order = map (row_within (extents_of c)) (sorted_keys c order)

-- as many as the cloud has
pub length-sorted : (c : CloudParts) (order : List ℕ) → IsKdOrder (keys_of c) order → length (sorted_keys c order) ≡ length c.points
length-sorted c order is = sorted_length (keys_of c) order is ∙ length-map c.points (key_within (extents_of c))

-- the number of a point
below_count : (c : CloudParts) (order : List ℕ) → IsKdOrder (keys_of c) order → (i : ℕ) → i < length order → get_or order i 0 < length c.points
below_count c order is i inside =
    omega (arith, order-below (point_cmp (keys_of c)) (length (keys_of c)) order is i 0 inside, length-map c.points (key_within (extents_of c)))

-- each point that is read is a point of the cloud
point_back : (c : CloudParts) (order : List ℕ) → IsCloud c → IsKdOrder (keys_of c) order → (i : ℕ) → i < length order
    → get_or (sorted_points c order) i [] ≡ get_or c.points (get_or order i 0) []
point_back c order cloud is i inside =
    let extents = extents_of c in
    let p = get_or order i 0 in
    let below = below_count c order is i inside in
    let row = get_or-map (row_within extents) (sorted_keys c order) i [] [] (omega (arith, inside, length-map order (key_at (keys_of c)))) in
    let key = get_or-map (key_at (keys_of c)) order i 0 [] inside in
    let own = get_or-map (key_within extents) c.points p [] [] below in
    row ∙ ap (row_within extents) (key ∙ own) ∙ row_back c p cloud below

-- none of its integers is outside its data type
pub all_inside : (c : CloudParts) (order : List ℕ) → IsCloud c → IsKdOrder (keys_of c) order → FirstOutside (row_bounds c.heads) (sorted_points c order) (width_of c.heads)
all_inside c order cloud is = record {
  within = omega (arith, length-row_bounds c.heads);
  before = λ i j inside narrow.
      let low : i < length order = omega (arith, inside, length-map (sorted_keys c order) (row_within (extents_of c)), length-map order (key_at (keys_of c))) in
      let fits = (cloud.rows_fit (get_or order i 0) [] (below_count c order is i low)).1 j narrow in
      subst (λ (row : List ℤ). in_bounds (get_or (row_bounds c.heads) j no_bounds) (get_or row j (pos 0)) ≡ true) (sym (point_back c order cloud is i low)) fits;
  here = λ below. absurd (omega (arith, below, length-row_bounds c.heads));
}

-- the rows of an order
abbrev pub rows_by : List ℕ → Rows
rows_by order = map (λ p. (p, 0)) order

-- they name each point once
each_once : (c : CloudParts) (order : List ℕ) → IsKdOrder (keys_of c) order → NamesEachOnce (length c.points) (rows_by order)
each_once c order is =
    let pair : ℕ → ℕ × ℕ = λ p. (p, 0) in
    let n = length (keys_of c) in
    let many : n ≡ length c.points = length-map c.points (key_within (extents_of c)) in
    record {
      within = λ k d inside.
          let low : k < length order = omega (arith, inside, length-map order pair) in
          subst (λ (r : ℕ × ℕ). r.0 < length c.points) (sym (get_or-map pair order k 0 d low)) (below_count c order is k low);
      once = λ f below.
          count-map (λ (row : ℕ × ℕ). row.0 == f) pair order
          ∙ sum_by-IsPermutation (λ (x : ℕ). cond (x == f) 1 0) (range_with_len 0 n) order is.each
          ∙ count-range 0 n f (omega arith) (omega (arith, below, many));
    }

-- the cloud that is read is the same cloud by these rows
pub same_points : (c : CloudParts) (order : List ℕ) → IsCloud c → IsKdOrder (keys_of c) order
    → SameCloud c (record { heads = c.heads; points = sorted_points c order }) (rows_by order)
same_points c order cloud is =
    let pair : ℕ → ℕ × ℕ = λ p. (p, 0) in
    let long : length (sorted_points c order) ≡ length order = length-map (sorted_keys c order) (row_within (extents_of c)) ∙ length-map order (key_at (keys_of c)) in
    record {
      heads = refl;
      each_row = length-map order pair ∙ sym long;
      each_point = each_once c order is;
      points = λ i inside.
          let low : i < length order = omega (arith, inside, long) in
          let row : get_or (rows_by order) i (0, 0) ≡ (get_or order i 0, 0) = get_or-map pair order i 0 (0, 0) low in (
            ap (λ (r : ℕ × ℕ). r.1) row,
            point_back c order cloud is i low ∙ ap (λ (r : ℕ × ℕ). get_or c.points r.0 []) (sym row),
          );
    }
