-- Points from their keys are the points.
use Rattle.std.proofs.Common.{◌≡◌, ℕ, ◌*◌, ◌%◌, ◌^◌, ◌<◌, ◌≤◌, ℤ, pos, negsuc, ◌≤ℤ◌, ◌+ℤ◌, ◌-ℤ◌, List, [], length, get_or, map, sum, refl, sym, ◌∙◌, ap, subst, arith, zero-add, FitsSigned, IsTrue, Option, None, Some, replicate, pow_mono}
use lib.Dec.{T}
use Rattle.std.specs.Prelude.{int_le, nat_le, Bool, true, ◌∷◌}
use Rattle.std.specs.Int.{w32, int_min, int_max}
use Rattle.std.specs.List.{fold}
use Rattle.std.specs.List.{All, range_with_len}
use Rattle.std.proofs.lemmas.Bool.{and_parts, leb-true}
use Rattle.std.proofs.lemmas.Int.{ints, clamps, fold-int_min_bounds}
use Rattle.std.proofs.lemmas.List.Elements.{All-nil, All-append, All-replicate, All-head, All-tail}
use Rattle.std.proofs.Math.Nat.{mod-eq_of_lt}
use Rattle.std.proofs.lemmas.List.{length-map, get_or-map, get_or_default, same_lists}
use Rattle.std.proofs.lemmas.List.FromFn.{length-map-range_with_len, get_or-map-range_with_len}
use Rattle.attr_heads.specs.declared.heads.Head.{Head}
use Rattle.attr_heads.specs.declared.bounds.Bounds.{Bounds}
use Rattle.attr_heads.specs.Bounds.{in_bounds, no_bounds, bounds_of, bounds_under}
use Rattle.attr_heads.specs.Octahedra.{has_square_bits}
use Rattle.attr_heads.specs.Head.{row_bounds, width_of}
use Rattle.attr_heads.proofs.Types.{least_low, greatest_high}
use Rattle.mesh_model.specs.Parts.{CloudParts, IsCloud}
use Rattle.kd_points.specs.declared.extents.Extent.{Extent}
use Rattle.kd_points.specs.Extents.{above, axes_over, column_of, depth_of, extent_of, extents_of, greatest_in, key_within, least_in, no_extent, offset_of, row_within}
use Rattle.kd_points.specs.Keys.{offset_in}
use Rattle.drc_bits.specs.Digits.{digits}
use Rattle.kd_points.proofs.Clouded.{length-row_bounds}
use Rattle.kd_points.proofs.Headed.{squares_pass}
use Rattle.kd_points.proofs.Axed.{offset_back}
use Rattle.drc_bits.proofs.Digits.{digits-above, digits-most}
use Rattle.kd_points.proofs.Extended.{greatest-least, least-most}
use Rattle.kd_points.proofs.Lying.{depth-most, extent_at, get_or-column, length-extents_of, least_below}

holds : (b : Bool) → b ≡ true → T b
holds b e = subst T (sym e) tt

-- an integer of a data type has 32 bits
IsSmall : ℤ → Type 0
IsSmall v = (negsuc 2147483647 ≤ℤ v) × (v ≤ℤ pos 2147483647)

-- bounds of 32 bits
record IsNarrow (b : Bounds) : Type 0 where
  least : negsuc 2147483647 ≤ℤ b.least
  greatest : b.greatest ≤ℤ pos 2147483647

small : (b : Bounds) (v : ℤ) → IsNarrow b → in_bounds b v ≡ true → IsSmall v
unfolding in_bounds IsSmall
small b v narrow is =
    let p = and_parts (int_le b.least v) (int_le v b.greatest) is in
    let low : b.least ≤ℤ v = record { le = holds (int_le b.least v) p.0 } in
    let high : v ≤ℤ b.greatest = record { le = holds (int_le v b.greatest) p.1 } in
    (omega (arith, ints, low, narrow.least), omega (arith, ints, high, narrow.greatest))

-- the bounds of heads that pass are narrow
head_narrow : (h : Head) → IsTrue (has_square_bits h.octa) → IsNarrow (bounds_of h)
head_narrow h square = by_square h.dtype h.octa square where
  by_square : (dtype : ℕ) (octa : Option ℕ) → IsTrue (has_square_bits octa) → IsNarrow (bounds_under dtype octa)
  by_square dtype None square = record { least = least_low dtype; greatest = greatest_high dtype }
  by_square dtype (Some bits) square =
      let q = and_parts (nat_le 2 bits) (nat_le bits 30) square in
      let few : bits ≤ 30 = leb-true bits 30 q.1 in
      let most : 2 ^ bits ≤ 2 ^ 30 = pow_mono {i = bits} {j = 30} few in
      record { least = omega (arith, ints); greatest = omega (arith, ints, most) }

row_narrow : (heads : List Head) → All (λ h. IsTrue (has_square_bits h.octa)) heads → All IsNarrow (row_bounds heads)
row_narrow [] squares = All-nil IsNarrow
row_narrow (h ∷ heads) squares =
    All-append IsNarrow (replicate h.comps (bounds_of h)) (row_bounds heads)
    (All-replicate IsNarrow h.comps (bounds_of h) (head_narrow h (All-head (λ (g : Head). IsTrue (has_square_bits g.octa)) h heads squares)))
    (row_narrow heads (All-tail (λ (g : Head). IsTrue (has_square_bits g.octa)) h heads squares))

-- the least and the greatest of small integers are small
fold-least : (a : ℤ) (xs : List ℤ) → negsuc 2147483647 ≤ℤ a → All IsSmall xs → negsuc 2147483647 ≤ℤ fold int_min a xs
unfolding IsSmall
fold-least a [] low all = low
fold-least a (x ∷ xs) low all =
    let here = (All-head IsSmall x xs all).0 in
    let next : negsuc 2147483647 ≤ℤ int_min a x = omega (arith, ints, clamps, low, here) in
    fold-least (int_min a x) xs next (All-tail IsSmall x xs all)

fold-most : (a : ℤ) (xs : List ℤ) → a ≤ℤ pos 2147483647 → All IsSmall xs → fold int_max a xs ≤ℤ pos 2147483647
unfolding IsSmall
fold-most a [] high all = high
fold-most a (x ∷ xs) high all =
    let here = (All-head IsSmall x xs all).1 in
    let next : int_max a x ≤ℤ pos 2147483647 = omega (arith, ints, clamps, high, here) in
    fold-most (int_max a x) xs next (All-tail IsSmall x xs all)

-- the distance back
above-pos : (z : ℤ) → pos 0 ≤ℤ z → pos (above z) ≡ z
above-pos (pos n) h = refl
above-pos (negsuc n) h = absurd (omega (arith, ints, h))

above-back : (low v : ℤ) → low ≤ℤ v → low +ℤ pos (above (v -ℤ low)) ≡ v
above-back low v order =
    let is : pos (above (v -ℤ low)) ≡ v -ℤ low = above-pos (v -ℤ low) (omega (arith, ints, order)) in
    ap (λ x. low +ℤ x) is ∙ omega (arith, ints)

-- a smaller distance
above-most : (low v high : ℤ) → low ≤ℤ v → v ≤ℤ high → above (v -ℤ low) ≤ above (high -ℤ low)
above-most low v high a b =
    let one : pos (above (v -ℤ low)) ≡ v -ℤ low = above-pos (v -ℤ low) (omega (arith, ints, a)) in
    let two : pos (above (high -ℤ low)) ≡ high -ℤ low = above-pos (high -ℤ low) (omega (arith, ints, a, b)) in
    omega (arith, ints, one, two, b)

-- the integers of a component are small
column_small : (c : CloudParts) (j : ℕ) → IsCloud c → j < width_of c.heads → All IsSmall (column_of j c.points)
column_small c j is narrow = λ k d inside.
    let low : k < length c.points = omega (arith, inside, length-map c.points (λ (row : List ℤ). get_or row j (pos 0))) in
    subst IsSmall (sym (get_or-map (λ (row : List ℤ). get_or row j (pos 0)) c.points k [] d low))
    (small (get_or (row_bounds c.heads) j no_bounds) (get_or (get_or c.points k []) j (pos 0))
    (row_narrow c.heads (squares_pass c.heads is.heads_pass) j no_bounds (omega (arith, narrow, length-row_bounds c.heads)))
    ((is.rows_fit k [] low).1 j narrow))

-- the extent of a component fits its fields
fits_signed : (z : ℤ) → IsSmall z → FitsSigned w32 z
unfolding IsSmall
fits_signed (pos n) s = record { sfits = omega (arith, ints, s.1) }
fits_signed (negsuc n) s = record { sfits = omega (arith, ints, s.0) }

pub extent_fits : (c : CloudParts) → IsCloud c → 0 < length c.points → All (λ e. FitsSigned w32 e.least × (e.bits ≤ 32)) (extents_of c)
unfolding IsSmall
extent_fits c is some = λ j d inside.
    let narrow : j < width_of c.heads = omega (arith, inside, length-extents_of c) in
    let column = column_of j c.points in
    let all = column_small c j is narrow in
    let long : length column ≡ length c.points = length-map c.points (λ (row : List ℤ). get_or row j (pos 0)) in
    let first = get_or column 0 (pos 0) in
    let start = all 0 (pos 0) (omega (arith, some, long)) in
    let under = (fold-int_min_bounds first column (fold int_min first column) refl).0 in
    let low = fold-least first column start.0 all in
    let least : IsSmall (least_in column) = (low, omega (arith, ints, under, start.1)) in
    let at : get_or (extents_of c) j d ≡ extent_of column = get_or_default (extents_of c) j d no_extent inside ∙ extent_at c j narrow in
    subst (λ (e : Extent). FitsSigned w32 e.least × (e.bits ≤ 32)) (sym at) (fits_signed (least_in column) least, digits-most 32 (above (greatest_in column -ℤ least_in column)))

pub depth_few : (c : CloudParts) → IsCloud c → 0 < length c.points → depth_of (extents_of c) ≤ 32 * width_of c.heads
depth_few c is some =
    let fits = extent_fits c is some in
    omega (arith, depth-most (extents_of c) (λ j d inside. (fits j d inside).1), length-extents_of c)

-- the offset of a point fits the bits of its component
offset_below : (c : CloudParts) (i j : ℕ) → IsCloud c → i < length c.points → j < width_of c.heads
    → offset_of (extents_of c) (get_or c.points i []) j < 2 ^ get_or (map (λ e. e.bits) (extents_of c)) j 0
unfolding IsSmall
offset_below c i j is inside narrow =
    let extents = extents_of c in
    let column = column_of j c.points in
    let v = get_or (get_or c.points i []) j (pos 0) in
    let least = least_in column in
    let greatest = greatest_in column in
    let first = get_or column 0 (pos 0) in
    let long : length column ≡ length c.points = length-map c.points (λ (row : List ℤ). get_or row j (pos 0)) in
    let all = column_small c j is narrow in
    let start = all 0 (pos 0) (omega (arith, inside, long)) in
    let low = fold-least first column start.0 all in
    let high = fold-most first column start.1 all in
    let under : v ≤ℤ greatest = subst (λ x. x ≤ℤ greatest) (get_or-column c.points i j inside) (greatest-least column i (pos 0) (omega (arith, inside, long))) in
    let over : least ≤ℤ v = subst (λ x. least ≤ℤ x) (get_or-column c.points i j inside) (least-most column i (pos 0) (omega (arith, inside, long))) in
    let span = above (greatest -ℤ least) in
    let is_span : pos span ≡ greatest -ℤ least = above-pos (greatest -ℤ least) (omega (arith, ints, under, over)) in
    let short : span < 2 ^ 32 = omega (arith, ints, is_span, low, high) in
    let within : above (v -ℤ least) < 2 ^ digits span = omega (arith, above-most least v greatest over under, digits-above 32 span short) in
    let at : get_or extents j no_extent ≡ extent_of column = extent_at c j narrow in
    let bits : get_or (map (λ (e : Extent). e.bits) extents) j 0 ≡ digits span =
    get_or-map (λ (e : Extent). e.bits) extents j no_extent 0 (omega (arith, narrow, length-extents_of c)) ∙ ap (λ (e : Extent). e.bits) at in
    let offset : offset_of extents (get_or c.points i []) j ≡ above (v -ℤ least) = ap (λ (e : Extent). above (v -ℤ e.least)) at in
    subst (λ n. offset_of extents (get_or c.points i []) j < 2 ^ n) (sym bits) (subst (λ o. o < 2 ^ digits span) (sym offset) within)

pub row_back : (c : CloudParts) (i : ℕ) → IsCloud c → i < length c.points
    → row_within (extents_of c) (key_within (extents_of c) (get_or c.points i [])) ≡ get_or c.points i []
unfolding row_within key_within axes_over
row_back c i is inside =
    let extents = extents_of c in
    let row : List ℤ = get_or c.points i [] in
    let bits : List ℕ = map (λ (e : Extent). e.bits) extents in
    let key = key_within extents row in
    let value : ℕ → ℤ = λ component. (get_or extents component no_extent).least +ℤ pos (offset_in (axes_over extents) key component) in
    let wide : length extents ≡ width_of c.heads = length-extents_of c in
    let long : length row ≡ width_of c.heads = (is.rows_fit i [] inside).0 in
    same_lists (map value (range_with_len 0 (length extents))) row (length-map-range_with_len value 0 (length extents) ∙ wide ∙ sym long)
    (λ j d low.
    let narrow : j < width_of c.heads = omega (arith, low, length-map-range_with_len value 0 (length extents), wide) in
    let back : offset_in (axes_over extents) key j ≡ offset_of extents row j % 2 ^ get_or bits j 0 = offset_back (sum bits) bits (offset_of extents row) j refl in
    let fits = offset_below c i j is inside narrow in
    let whole : offset_of extents row j % 2 ^ get_or bits j 0 ≡ offset_of extents row j = mod-eq_of_lt fits in
    get_or-map-range_with_len value 0 (length extents) j j d (omega (arith, narrow, wide)) (zero-add j)
    ∙ ap (λ o. (get_or extents j no_extent).least +ℤ pos o) (back ∙ whole)
    ∙ above-back (get_or extents j no_extent).least (get_or row j (pos 0)) (least_below c i j inside narrow)
    ∙ get_or_default row j (pos 0) d (omega (arith, narrow, long)))
