-- Offsets that grow bit by bit, and components with integers outside their data types.
use Rattle.std.proofs.Common.{◌≡◌, ℕ, ◌+◌, ◌^◌, ◌<◌, ◌≤◌, ◌==◌, ◌&&◌, true, false, List, ◌∷◌, length, get_or, drop, set, refl, sym, ◌∙◌, ap, inl, inr, arith}
use Rattle.std.specs.Prelude.{if◌then◌else◌}
use Rattle.std.proofs.lemmas.Bool.{cases_eq, eq-eqb, ne_eqb}
use Rattle.std.proofs.lemmas.List.{drop_more, drop_all, get_or-set_same, get_or-set_other}
use Rattle.kd_tree.specs.Keys.{Key}
use Rattle.kd_points.specs.declared.axes.Axis.{Axis}
use Rattle.kd_points.specs.Keys.{offset_in}

-- the first of the axes that are left gives its bit
pub offset_in-next : (axes : List Axis) (key : Key) (d : ℕ) (axis : Axis) (j : ℕ) → d < length axes → d < length key
    → offset_in (drop d axes) (drop d key) j
    ≡ (if get_or key d false && (get_or axes d axis).component == j then 2 ^ (get_or axes d axis).bit else 0) + offset_in (drop (d + 1) axes) (drop (d + 1) key) j
offset_in-next axes key d axis j more long =
    ap (λ a. offset_in a (drop d key) j) (drop_more axes d axis more)
    ∙ ap (λ k. offset_in (get_or axes d axis ∷ drop (d + 1) axes) k j) (drop_more key d false long)

-- no axis is left
pub offset_in-end : (axes : List Axis) (key : Key) (d j : ℕ) → length axes ≤ d → offset_in (drop d axes) (drop d key) j ≡ 0
offset_in-end axes key d j done = ap (λ a. offset_in a (drop d key) j) (drop_all d axes done)

-- a bit 0 leaves all offsets
pub low-bit : (axes : List Axis) (key : Key) (d : ℕ) (axis : Axis) (j before whole : ℕ) → d < length axes → d < length key → get_or key d false ≡ false
    → before + offset_in (drop d axes) (drop d key) j ≡ whole → before + offset_in (drop (d + 1) axes) (drop (d + 1) key) j ≡ whole
low-bit axes key d axis j before whole more long bit so =
    let next = offset_in-next axes key d axis j more long in
    let none : (if get_or key d false && (get_or axes d axis).component == j then 2 ^ (get_or axes d axis).bit else 0) ≡ 0 = rw bit refl in
    omega (arith, next, none, so)

-- a bit 1 adds its power of two in its component
pub high-bit : (axes : List Axis) (key : Key) (d : ℕ) (axis : Axis) (offsets : List ℕ) (j whole : ℕ) → d < length axes → d < length key → get_or key d false ≡ true
    → axis ≡ get_or axes d axis → axis.component < length offsets
    → get_or offsets j 0 + offset_in (drop d axes) (drop d key) j ≡ whole
    → get_or (set offsets axis.component (get_or offsets axis.component 0 + 2 ^ axis.bit)) j 0 + offset_in (drop (d + 1) axes) (drop (d + 1) key) j ≡ whole
high-bit axes key d axis offsets j whole more long bit at inside so =
    let rest = offset_in (drop (d + 1) axes) (drop (d + 1) key) j in
    let next : offset_in (drop d axes) (drop d key) j ≡ (if true && axis.component == j then 2 ^ axis.bit else 0) + rest =
    offset_in-next axes key d axis j more long
    ∙ ap (λ b. (if b && (get_or axes d axis).component == j then 2 ^ (get_or axes d axis).bit else 0) + rest) bit
    ∙ ap (λ (a : Axis). (if true && a.component == j then 2 ^ a.bit else 0) + rest) (sym at) in
    elim (cases_eq j axis.component) [
      | inl e ↦
          let yes : (axis.component == j) ≡ true = eq-eqb axis.component j (sym e) in
          let weight : (if axis.component == j then 2 ^ axis.bit else 0) ≡ 2 ^ axis.bit = rw yes refl in
          let now : get_or (set offsets axis.component (get_or offsets axis.component 0 + 2 ^ axis.bit)) j 0 ≡ get_or offsets j 0 + 2 ^ axis.bit =
          ap (λ k. get_or (set offsets axis.component (get_or offsets axis.component 0 + 2 ^ axis.bit)) k 0) e
          ∙ get_or-set_same offsets axis.component (get_or offsets axis.component 0 + 2 ^ axis.bit) 0 inside
          ∙ ap (λ k. get_or offsets k 0 + 2 ^ axis.bit) (sym e) in
          omega (arith, next, weight, now, so)
      | inr other ↦
          let no : (axis.component == j) ≡ false = ne_eqb axis.component j (λ e. other (sym e)) in
          let weight : (if axis.component == j then 2 ^ axis.bit else 0) ≡ 0 = rw no refl in
          let now = get_or-set_other offsets axis.component j (get_or offsets axis.component 0 + 2 ^ axis.bit) 0 other in
          omega (arith, next, weight, now, so)
    ]

-- what a bit 1 adds is at most the whole
pub high-most : (axes : List Axis) (key : Key) (d : ℕ) (axis : Axis) (before whole : ℕ) → d < length axes → d < length key → get_or key d false ≡ true
    → axis ≡ get_or axes d axis → before + offset_in (drop d axes) (drop d key) axis.component ≡ whole → before + 2 ^ axis.bit ≤ whole
high-most axes key d axis before whole more long bit at so =
    let rest = offset_in (drop (d + 1) axes) (drop (d + 1) key) axis.component in
    let next : offset_in (drop d axes) (drop d key) axis.component ≡ (if axis.component == axis.component then 2 ^ axis.bit else 0) + rest =
    offset_in-next axes key d axis axis.component more long
    ∙ ap (λ b. (if b && (get_or axes d axis).component == axis.component then 2 ^ (get_or axes d axis).bit else 0) + rest) bit
    ∙ ap (λ (a : Axis). (if true && a.component == axis.component then 2 ^ a.bit else 0) + rest) (sym at) in
    let yes = eq-eqb axis.component axis.component refl in
    let weight : (if axis.component == axis.component then 2 ^ axis.bit else 0) ≡ 2 ^ axis.bit = rw yes refl in
    omega (arith, next, weight, so)
