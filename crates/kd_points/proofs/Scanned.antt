-- Which component is the first with an integer outside its data type: found integer by integer, and point by point.
use Rattle.std.proofs.Common.{◌≡◌, ℕ, ◌+◌, ◌<◌, ◌≤◌, min, true, false, ℤ, pos, ◌+ℤ◌, List, [], ◌∷◌, ◌++◌, length, get_or, map, take, sym, ◌∙◌, ap, subst, inl, inr, arith, zero-add, append_assoc}
use Rattle.std.specs.List.{range_with_len}
use Rattle.std.proofs.lemmas.Bool.{cases_lt, cases_Bool}
use Rattle.std.proofs.lemmas.List.{take_all, get_or_default}
use Rattle.std.proofs.lemmas.List.FromFn.{map-range_with_len_more, length-map-range_with_len, get_or-map-range_with_len, fill_by_all}
use Rattle.attr_heads.specs.declared.bounds.Bounds.{Bounds}
use Rattle.attr_heads.specs.Bounds.{in_bounds, no_bounds}
use Rattle.mesh_model.specs.Parts.{cells_of}
use Rattle.kd_tree.specs.Keys.{Key}
use Rattle.kd_points.specs.declared.extents.Extent.{Extent}
use Rattle.kd_points.specs.Extents.{axes_over, integer_at, no_extent, row_within}
use Rattle.kd_points.specs.Keys.{offset_in}
use Rattle.kd_points.specs.Meaning.{FirstOutside}
use Rattle.kd_points.proofs.Appending.{appended-more}

-- the first components of a point were looked at, where before it `before` was the first outside
pub record IsScan (bounds : List Bounds) (value : ℕ → ℤ) (before : ℕ) (old cells : List ℤ) (component outside : ℕ) : Type 0 where
  pub kept : outside ≤ before
  pub typed : (j : ℕ) → j < component → j < outside → in_bounds (get_or bounds j no_bounds) (value j) ≡ true
  pub untyped : outside < before → (outside < component) × (in_bounds (get_or bounds outside no_bounds) (value outside) ≡ false)
  pub cells_are : outside ≡ length bounds → cells ≡ old ++ map value (range_with_len 0 component)

-- one component more
pub scan-next : (bounds : List Bounds) (value : ℕ → ℤ) (before : ℕ) (old cells new : List ℤ) (component outside next : ℕ) → component < length bounds
    → IsScan bounds value before old cells component outside
    → (in_bounds (get_or bounds component no_bounds) (value component) ≡ true → (next ≡ outside) × (new ≡ cells ++ value component ∷ []))
    → (in_bounds (get_or bounds component no_bounds) (value component) ≡ false → next ≡ min outside component)
    → IsScan bounds value before old new (component + 1) next
scan-next bounds value before old cells new component outside next inside s here past_it =
    elim (cases_Bool (in_bounds (get_or bounds component no_bounds) (value component))) [
      | inl is ↦
          let e = here is in
          subst (λ n. IsScan bounds value before old new (component + 1) n) (sym e.0) (record {
            kept = s.kept;
            typed = λ j low less. elim (cases_lt j component) [
              | inl b ↦ s.typed j b less
              | inr past ↦ (let at : component ≡ j = omega arith in subst (λ k. in_bounds (get_or bounds k no_bounds) (value k) ≡ true) at is)
            ];
            untyped = λ less. (omega (arith, (s.untyped less).0), (s.untyped less).1);
            cells_are = λ all.
                e.1 ∙ ap (λ l. l ++ value component ∷ []) (s.cells_are all)
                ∙ append_assoc old (map value (range_with_len 0 component)) (value component ∷ [])
                ∙ ap (λ l. old ++ l) (sym (map-range_with_len_more value 0 component component (zero-add component)));
          })
      | inr fails ↦ elim (cases_lt outside component) [
        | inl early ↦
            let e : next ≡ outside = past_it fails ∙ omega arith in
            subst (λ n. IsScan bounds value before old new (component + 1) n) (sym e) (record {
              kept = s.kept;
              typed = λ j low less. s.typed j (omega arith) less;
              untyped = λ less. (omega (arith, (s.untyped less).0), (s.untyped less).1);
              cells_are = λ all. absurd (omega arith);
            })
        | inr late ↦
            let e : next ≡ component = past_it fails ∙ omega arith in
            subst (λ n. IsScan bounds value before old new (component + 1) n) (sym e) (record {
              kept = omega (arith, s.kept);
              typed = λ j low less. s.typed j less (omega arith);
              untyped = λ less. (omega arith, fails);
              cells_are = λ all. absurd (omega arith);
            })
      ]
    ]

-- the first points were looked at
pub record IsScanned (bounds : List Bounds) (points : List (List ℤ)) (k : ℕ) (cells : List ℤ) (outside : ℕ) : Type 0 where
  pub within : outside ≤ length bounds
  pub before : (i j : ℕ) → i < k → j < outside → in_bounds (get_or bounds j no_bounds) (get_or (get_or points i []) j (pos 0)) ≡ true
  pub here : outside < length bounds → (i : ℕ) × (i < k) × (in_bounds (get_or bounds outside no_bounds) (get_or (get_or points i []) outside (pos 0)) ≡ false)
  pub cells_are : outside ≡ length bounds → cells ≡ cells_of (take k points)

-- one point more
pub scanned-next : (bounds : List Bounds) (points : List (List ℤ)) (k : ℕ) (cells new : List ℤ) (outside next : ℕ) (value : ℕ → ℤ) → k < length points
    → get_or points k [] ≡ map value (range_with_len 0 (length bounds)) → IsScanned bounds points k cells outside → next ≤ outside
    → ((j : ℕ) → j < next → in_bounds (get_or bounds j no_bounds) (value j) ≡ true)
    → (next < outside → in_bounds (get_or bounds next no_bounds) (value next) ≡ false)
    → (next ≡ length bounds → new ≡ cells ++ map value (range_with_len 0 (length bounds)))
    → IsScanned bounds points (k + 1) new next
scanned-next bounds points k cells new outside next value inside row s kept typed untyped put =
    let at : (j : ℕ) → j < length bounds → value j ≡ get_or (get_or points k []) j (pos 0) = λ j narrow.
    sym (ap (λ r. get_or r j (pos 0)) row ∙ get_or-map-range_with_len value 0 (length bounds) j j (pos 0) narrow (zero-add j)) in
    record {
      within = omega (arith, s.within);
      before = λ i j low less. elim (cases_lt i k) [
        | inl early ↦ s.before i j early (omega arith)
        | inr last ↦
            let narrow : j < length bounds = omega (arith, s.within) in
            let same : k ≡ i = omega arith in
            subst (λ m. in_bounds (get_or bounds j no_bounds) (get_or (get_or points m []) j (pos 0)) ≡ true) same
            (subst (λ v. in_bounds (get_or bounds j no_bounds) v ≡ true) (at j narrow) (typed j less))
      ];
      here = λ some. elim (cases_lt next outside) [
        | inl fewer ↦ (k, omega arith, subst (λ v. in_bounds (get_or bounds next no_bounds) v ≡ false) (at next some) (untyped fewer))
        | inr same ↦
            let e : outside ≡ next = omega arith in
            let found = s.here (omega (arith, e)) in
            (found.0, omega (arith, found.1), subst (λ n. in_bounds (get_or bounds n no_bounds) (get_or (get_or points found.0 []) n (pos 0)) ≡ false) e found.2)
      ];
      cells_are = λ all.
          let still : outside ≡ length bounds = omega (arith, s.within) in
          appended-more (λ (r : List ℤ). r) points k (get_or points k []) [] cells new inside (get_or_default points k [] (get_or points k []) inside) (s.cells_are still)
          (put all ∙ ap (λ r. cells ++ r) (sym row));
    }

-- all points were looked at
pub scanned-all : (bounds : List Bounds) (points : List (List ℤ)) (k : ℕ) (cells : List ℤ) (outside : ℕ) → k ≡ length points → IsScanned bounds points k cells outside
    → FirstOutside bounds points outside × (outside ≡ length bounds → cells ≡ cells_of points)
scanned-all bounds points k cells outside end s = (
  record {
    within = s.within;
    before = λ i j low less. s.before i j (omega (arith, end)) less;
    here = λ some. let found = s.here some in (found.0, omega (arith, found.1, end), found.2);
  },
  λ all. s.cells_are all ∙ ap cells_of (take_all k points (omega (arith, end))),
)

-- the point of a key from the offsets that it gives
pub row-is : (extents : List Extent) (offsets : List ℕ) (key : Key) → length offsets ≡ length extents
    → ((j : ℕ) → j < length offsets → get_or offsets j 0 ≡ offset_in (axes_over extents) key j)
    → row_within extents key ≡ map (integer_at extents offsets) (range_with_len 0 (length extents))
unfolding row_within
row-is extents offsets key same each =
    let value : ℕ → ℤ = λ component. (get_or extents component no_extent).least +ℤ pos (offset_in (axes_over extents) key component) in
    fill_by_all (integer_at extents offsets) (map value (range_with_len 0 (length extents))) (length extents) (pos 0) (length-map-range_with_len value 0 (length extents))
    (λ k inside. get_or-map-range_with_len value 0 (length extents) k k (pos 0) inside (zero-add k)
    ∙ ap (λ o. (get_or extents k no_extent).least +ℤ pos o) (sym (each k (omega (arith, same)))))
