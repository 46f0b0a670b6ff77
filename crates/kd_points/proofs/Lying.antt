-- Where axes and points lie within extents.
use Rattle.std.proofs.Common.{inl, inr, ◌^◌, pow_mono, ◌≡◌, ℕ, ◌*◌, ◌<◌, ◌≤◌, ℤ, pos, ◌≤ℤ◌, List, [], ◌∷◌, length, get_or, map, sum, sym, subst, arith}
use Rattle.std.specs.List.{All}
use Rattle.std.proofs.lemmas.List.{length-map, get_or-map}
use Rattle.std.proofs.lemmas.List.FromFn.{length-map-range_with_len, get_or-map-range_with_len}
use Rattle.std.proofs.lemmas.List.Elements.{All-weaker, All-head, All-tail}
use Rattle.std.proofs.lemmas.List.Sums.{sum_by-cons}
use Rattle.attr_heads.specs.Head.{width_of}
use Rattle.mesh_model.specs.Parts.{CloudParts}
use Rattle.kd_points.specs.declared.axes.Axis.{Axis}
use Rattle.kd_points.specs.declared.extents.Extent.{Extent}
use Rattle.kd_points.specs.Axes.{axes_of}
use Rattle.kd_points.specs.Extents.{axes_over, column_of, depth_of, extent_of, extents_of, no_extent}
use Rattle.std.proofs.lemmas.Bool.{cases_lt}
use Rattle.std.proofs.lemmas.List.{get_or_past}
use Rattle.kd_tree.specs.Keys.{Key}
use Rattle.kd_points.specs.Keys.{offset_in}
use Rattle.kd_points.proofs.Axed.{LiesIn, axes_in-within, length-axes_in, offset_in-below}
use Rattle.kd_points.proofs.Extended.{least-most}

-- an axis within extents: a component, and one of 32 bits
abbrev pub IsAxis : ℕ → Axis → Type 0
IsAxis width axis = (axis.component < width) × (axis.bit < 32)

pub axes_lie : (extents : List Extent) → All (λ e. e.bits ≤ 32) extents → All (IsAxis (length extents)) (axes_over extents)
unfolding axes_over
axes_lie extents small =
    let bits : List ℕ = map (λ e. e.bits) extents in
    All-weaker (LiesIn bits) (IsAxis (length extents)) (λ axis lies.
    let inside : axis.component < length extents = omega (arith, lies.0, length-map extents (λ e. e.bits)) in
    let at = get_or-map (λ (e : Extent). e.bits) extents axis.component no_extent 0 inside in
    let most : (get_or extents axis.component no_extent).bits ≤ 32 = small axis.component no_extent inside in
    (inside, omega (arith, lies.1, at, most)))
    (axes_of bits) (axes_in-within (sum bits) bits (omega arith))

pub length-axes_over : (extents : List Extent) → length (axes_over extents) ≡ depth_of extents
unfolding axes_over
length-axes_over extents = length-axes_in (depth_of extents) (map (λ e. e.bits) extents)

pub length-extents_of : (c : CloudParts) → length (extents_of c) ≡ width_of c.heads
unfolding extents_of
length-extents_of c = length-map-range_with_len (λ component. extent_of (column_of component c.points)) 0 (width_of c.heads)

-- the extent of a component
pub extent_at : (c : CloudParts) (j : ℕ) → j < width_of c.heads → get_or (extents_of c) j no_extent ≡ extent_of (column_of j c.points)
unfolding extents_of
extent_at c j inside = get_or-map-range_with_len (λ component. extent_of (column_of component c.points)) 0 (width_of c.heads) j j no_extent inside (omega arith)

-- the integer of a point in a component, as one of that component
pub get_or-column : (points : List (List ℤ)) (i j : ℕ) → i < length points → get_or (column_of j points) i (pos 0) ≡ get_or (get_or points i []) j (pos 0)
get_or-column points i j inside = get_or-map (λ (row : List ℤ). get_or row j (pos 0)) points i [] (pos 0) inside

-- no integer of a point is below the least one
pub least_below : (c : CloudParts) (i j : ℕ) → i < length c.points → j < width_of c.heads → (get_or (extents_of c) j no_extent).least ≤ℤ get_or (get_or c.points i []) j (pos 0)
least_below c i j inside narrow =
    let column = column_of j c.points in
    let within : i < length column = omega (arith, inside, length-map c.points (λ (row : List ℤ). get_or row j (pos 0))) in
    let P : Extent → Type 0 = λ e. e.least ≤ℤ get_or (get_or c.points i []) j (pos 0) in
    subst P (sym (extent_at c j narrow))
    (subst (λ v. (extent_of column).least ≤ℤ v) (get_or-column c.points i j inside) (least-most column i (pos 0) within))

-- so many bits are at most 32 for each component
pub depth-most : (extents : List Extent) → All (λ e. e.bits ≤ 32) extents → depth_of extents ≤ 32 * length extents
depth-most [] small = omega arith
depth-most (e ∷ extents) small =
    let here : e.bits ≤ 32 = All-head (λ (e : Extent). e.bits ≤ 32) e extents small in
    let rest = depth-most extents (All-tail (λ (e : Extent). e.bits ≤ 32) e extents small) in
    let step = sum_by-cons (λ (n : ℕ). n) e.bits (map (λ (e : Extent). e.bits) extents) in
    omega (arith, here, rest, step)

-- an offset has at most 32 bits, whatever the key
pub offset_fits : (extents : List Extent) → All (λ e. e.bits ≤ 32) extents → (key : Key) (j : ℕ) → offset_in (axes_over extents) key j < 2 ^ 32
unfolding axes_over
offset_fits extents small key j =
    let bits : List ℕ = map (λ e. e.bits) extents in
    let most : get_or bits j 0 ≤ 32 = elim (cases_lt j (length extents)) [
      | inl inside ↦ (let at = get_or-map (λ (e : Extent). e.bits) extents j no_extent 0 inside in
          let few : (get_or extents j no_extent).bits ≤ 32 = small j no_extent inside in omega (arith, at, few))
      | inr past ↦ (let none = get_or_past bits j 0 (omega (arith, past, length-map extents (λ (e : Extent). e.bits))) in omega (arith, none))
    ] in
    let below = offset_in-below (sum bits) bits key j (omega arith) in
    let power : 2 ^ get_or bits j 0 ≤ 2 ^ 32 = pow_mono {i = get_or bits j 0} {j = 32} most in
    omega (arith, below, power)
