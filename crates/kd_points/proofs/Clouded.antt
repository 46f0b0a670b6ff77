-- The cloud of a header and keys.
use Rattle.std.proofs.Common.{◌≡◌, ℕ, ◌+◌, ◌*◌, ◌<◌, ◌≤◌, Bool, true, false, not, ℤ, pos, List, [], ◌∷◌, length, get_or, map, replicate, Option, None, Some, Ok, Err, refl, sym, ◌∙◌, ap, subst, arith, zero-add, length-append}
use Rattle.std.specs.Prelude.{option_map}
use Rattle.std.specs.List.{range_with_len, position}
use Rattle.std.proofs.lemmas.List.{length-map, length-replicate, get_or-map, get_or_default}
use Rattle.std.proofs.lemmas.List.FromFn.{length-range_with_len, get_or-range_with_len, length-map-range_with_len}
use Rattle.std.proofs.lemmas.List.Folds.{list_all_at}
use Rattle.std.proofs.lemmas.List.Sums.{list_all-from_AllPass, sum_by-cons}
use Rattle.drc_base.specs.declared.limits.TheConstants.{MAX_KD_POINTS, MAX_KD_VALUES}
use Rattle.drc_base.specs.declared.kinds.Kind.TheVariants as kind
use Rattle.attr_heads.specs.declared.heads.Head.{Head}
use Rattle.attr_heads.specs.FirstFault.{at_place, value_unless}
use Rattle.attr_heads.specs.Bounds.{in_bounds, no_bounds, bounds_of}
use Rattle.attr_heads.specs.Head.{heads_fault, row_bounds, width_of}
use Rattle.mesh_model.specs.Parts.{ArePoints, CloudParts, RowFits, cells_of}
use Rattle.mesh_model.proofs.Places.{position-none, position-at}
use Rattle.kd_tree.specs.Keys.{Key}
use Rattle.kd_points.specs.declared.extents.Extent.{Extent}
use Rattle.kd_points.specs.declared.headers.Header.{Header}
use Rattle.kd_points.specs.Extents.{row_within}
use Rattle.kd_points.specs.Meaning.{FirstOutside, cloud_of_keys, extent_size, are_points_typed, typed_fault}

-- bounds for each integer
pub length-row_bounds : (heads : List Head) → length (row_bounds heads) ≡ width_of heads
length-row_bounds [] = refl
length-row_bounds (h ∷ heads) =
    let here = length-append (replicate h.comps (bounds_of h)) (row_bounds heads) in
    let long = length-replicate h.comps (bounds_of h) in
    let step = sum_by-cons (λ (g : Head). g.comps) h heads in
    omega (arith, here, long, step, length-row_bounds heads)

pub length-row_within : (extents : List Extent) (key : Key) → length (row_within extents key) ≡ length extents
unfolding row_within
length-row_within extents key = length-map-range_with_len _ 0 (length extents)

-- a component whose integers are all in its data type, and one with another
typed-is : (heads : List Head) (points : List (List ℤ)) (j : ℕ)
    → ((i : ℕ) → i < length points → in_bounds (get_or (row_bounds heads) j no_bounds) (get_or (get_or points i []) j (pos 0)) ≡ true) → are_points_typed heads points j ≡ true
typed-is heads points j each =
    list_all-from_AllPass (λ (row : List ℤ). in_bounds (get_or (row_bounds heads) j no_bounds) (get_or row j (pos 0))) points
    (λ i d inside. ap (λ (row : List ℤ). in_bounds (get_or (row_bounds heads) j no_bounds) (get_or row j (pos 0))) (get_or_default points i d [] inside) ∙ each i inside)

untyped-is : (heads : List Head) (points : List (List ℤ)) (j i : ℕ) → i < length points
    → in_bounds (get_or (row_bounds heads) j no_bounds) (get_or (get_or points i []) j (pos 0)) ≡ false → are_points_typed heads points j ≡ false
untyped-is heads points j i inside fails = list_all_at (λ (row : List ℤ). in_bounds (get_or (row_bounds heads) j no_bounds) (get_or row j (pos 0))) points i [] inside fails

-- the place of a component's extent, where there is one
abbrev place_of : ℕ → Option ℕ → Option ℕ
place_of at component = option_map (λ component. at + extent_size * component) component

-- no component has an integer outside its data type
pub typed_none : (heads : List Head) (at : ℕ) (points : List (List ℤ)) (r : ℕ) → FirstOutside (row_bounds heads) points r → r ≡ width_of heads → typed_fault heads at points ≡ None
unfolding typed_fault
typed_none heads at points r first all =
    let w = width_of heads in
    let test : ℕ → Bool = λ component. not (are_points_typed heads points component) in
    let none : position test (range_with_len 0 w) ≡ None = position-none test (range_with_len 0 w) 0 (λ k below.
    let low : k < w = omega (arith, below, length-range_with_len 0 w) in
    ap test (get_or-range_with_len 0 w k 0 low ∙ zero-add k)
    ∙ ap not (typed-is heads points k (λ i inside. first.before i k inside (omega (arith, low, all))))) in
    ap (λ p. at_place kind.ValueRange (place_of at p)) none

-- component r is the first
pub typed_at : (heads : List Head) (at : ℕ) (points : List (List ℤ)) (r : ℕ) → FirstOutside (row_bounds heads) points r → r < width_of heads
    → typed_fault heads at points ≡ Some (record { kind = kind.ValueRange; at = at + 5 * r })
unfolding typed_fault
typed_at heads at points r first some =
    let w = width_of heads in
    let test : ℕ → Bool = λ component. not (are_points_typed heads points component) in
    let long = length-range_with_len 0 w in
    let found = first.here (omega (arith, some, length-row_bounds heads)) in
    let is : position test (range_with_len 0 w) ≡ Some r = position-at test (range_with_len 0 w) r 0 (omega (arith, some, long))
    (λ k below.
    let low : k < w = omega (arith, below, some) in
    ap test (get_or-range_with_len 0 w k 0 low ∙ zero-add k)
    ∙ ap not (typed-is heads points k (λ i inside. first.before i k inside below)))
    (ap test (get_or-range_with_len 0 w r 0 some ∙ zero-add r)
    ∙ ap not (untyped-is heads points r found.0 found.1 found.2)) in
    ap (λ p. at_place kind.ValueRange (place_of at p)) is

-- the points of keys within extents, where none is outside, fit their heads
pub fit_points : (heads : List Head) (extents : List Extent) (keys : List Key) (r : ℕ) → heads_fault heads ≡ None → length extents ≡ width_of heads
    → length keys ≤ MAX_KD_POINTS → length keys * width_of heads ≤ MAX_KD_VALUES
    → FirstOutside (row_bounds heads) (map (row_within extents) keys) r → r ≡ width_of heads → ArePoints heads (map (row_within extents) keys)
fit_points heads extents keys r pass wide few values first all =
    let points : List (List ℤ) = map (row_within extents) keys in
    let many : length points ≡ length keys = length-map keys (row_within extents) in
    record {
      heads_pass = pass;
      few_points = omega (arith, few, many);
      few_values = rw many (omega (arith, values));
      rows_fit = λ i d inside.
          let same : get_or points i d ≡ get_or points i [] = get_or_default points i d [] inside in
          let at : get_or points i [] ≡ row_within extents (get_or keys i []) = get_or-map (row_within extents) keys i [] [] (omega (arith, inside, many)) in
          subst (RowFits heads) (sym same) (
            ap length at ∙ length-row_within extents (get_or keys i []) ∙ wide,
            λ j narrow. first.before i j inside (omega (arith, narrow, all)),
          );
    }

-- the cloud, and the fault
pub cloud_inside : (h : Header) (keys : List Key) (r : ℕ) → FirstOutside (row_bounds h.heads) (map (row_within h.extents) keys) r → r ≡ width_of h.heads
    → cloud_of_keys h keys ≡ Ok (record { heads = h.heads; points = map (row_within h.extents) keys })
unfolding cloud_of_keys
cloud_inside h keys r first all =
    let points : List (List ℤ) = map (row_within h.extents) keys in
    let whole : CloudParts = record { heads = h.heads; points = points } in
    ap (λ fault. value_unless fault whole) (typed_none h.heads h.at points r first all)

pub cloud_outside : (h : Header) (keys : List Key) (r : ℕ) → FirstOutside (row_bounds h.heads) (map (row_within h.extents) keys) r → r < width_of h.heads
    → cloud_of_keys h keys ≡ Err (record { kind = kind.ValueRange; at = h.at + 5 * r })
unfolding cloud_of_keys
cloud_outside h keys r first some =
    let points : List (List ℤ) = map (row_within h.extents) keys in
    let whole : CloudParts = record { heads = h.heads; points = points } in
    ap (λ fault. value_unless fault whole) (typed_at h.heads h.at points r first some)

-- integers of points that keys give, none of which is outside its data type
pub record AreFit (heads : List Head) (extents : List Extent) (keys : List Key) (cells : List ℤ) (r : ℕ) : Type 0 where
  pub first : FirstOutside (row_bounds heads) (map (row_within extents) keys) r
  pub all : r ≡ width_of heads
  pub are : ArePoints heads (map (row_within extents) keys)
  pub cells_are : cells ≡ cells_of (map (row_within extents) keys)

pub fit_cells : (heads seen_heads : List Head) (extents seen : List Extent) (keys : List Key) (cells : List ℤ) (r : ℕ) → seen_heads ≡ heads → seen ≡ extents
    → heads_fault heads ≡ None → length extents ≡ width_of heads → length keys ≤ MAX_KD_POINTS → length keys * width_of heads ≤ MAX_KD_VALUES
    → FirstOutside (row_bounds seen_heads) (map (row_within seen) keys) r → (r ≡ width_of seen_heads → cells ≡ cells_of (map (row_within seen) keys))
    → width_of heads ≤ r → AreFit heads extents keys cells r
fit_cells heads seen_heads extents seen keys cells r same_heads same pass wide few values first put most =
    let first' : FirstOutside (row_bounds heads) (map (row_within extents) keys) r =
    subst (λ e. FirstOutside (row_bounds heads) (map (row_within e) keys) r) same (subst (λ h. FirstOutside (row_bounds h) (map (row_within seen) keys) r) same_heads first) in
    let all : r ≡ width_of heads = omega (arith, most, first'.within, length-row_bounds heads) in
    record {
      first = first';
      all = all;
      are = fit_points heads extents keys r pass wide few values first' all;
      cells_are = put (all ∙ ap width_of (sym same_heads)) ∙ ap (λ (e : List Extent). cells_of (map (row_within e) keys)) same;
    }
