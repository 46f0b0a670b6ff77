-- The axes: where they lie, and that the bits along them give each offset.
use Rattle.std.proofs.Common.{◌≡◌, ◌≢◌, ℕ, zero, suc, ◌+◌, ◌-◌, ◌*◌, ◌/◌, ◌%◌, ◌^◌, ◌<◌, ◌≤◌, ◌==◌, ◌&&◌, Bool, true, false, List, [], ◌∷◌, ◌++◌, length, get_or, sum, refl, sym, ◌∙◌, ap, subst, inl, inr, arith, pow-suc, pow_pos, append-nil, append_assoc, length-set}
use Rattle.std.specs.Prelude.{if◌then◌else◌}
use Rattle.std.specs.List.{All}
use Rattle.std.proofs.lemmas.Bool.{cases_eq, eq-eqb, ne_eqb}
use Rattle.std.proofs.lemmas.List.{get_or-set_same, get_or-set_other}
use Rattle.std.proofs.lemmas.List.Elements.{All-nil, All-cons, All-weaker}
use Rattle.std.proofs.lemmas.List.Sums.{sum_by-cons}
use Rattle.std.proofs.lemmas.Nat.{mod-pow-add}
use Rattle.kd_tree.specs.Keys.{Key}
use Rattle.kd_points.specs.declared.axes.Axis.{Axis}
use Rattle.kd_points.specs.Axes.{axes_in, fullest, one_fewer}
use Rattle.kd_points.specs.Keys.{number_has_bit, key_of, offset_in}
use Rattle.kd_points.proofs.Fullest.{fullest-some, one_fewer-sum}

-- the next axis
abbrev pub axis_of : List ℕ → Axis
axis_of left = record { component = fullest left; bit = get_or left (fullest left) 0 - 1 }

-- one axis more
pub axes_in-next : (n k : ℕ) (left : List ℕ) (front whole : List Axis) → front ++ axes_in (n - k) left ≡ whole → k < n
    → (front ++ axis_of left ∷ []) ++ axes_in (n - (k + 1)) (one_fewer left (fullest left)) ≡ whole
unfolding axes_in
axes_in-next n k left front whole so fits =
    let one : n - k ≡ suc (n - (k + 1)) = omega arith in
    append_assoc front (axis_of left ∷ []) (axes_in (n - (k + 1)) (one_fewer left (fullest left)))
    ∙ ap (λ m. front ++ axes_in m left) (sym one) ∙ so

-- no axis is left
pub axes_in-end : (n k : ℕ) (left : List ℕ) (front whole : List Axis) → front ++ axes_in (n - k) left ≡ whole → n ≤ k → front ≡ whole
unfolding axes_in
axes_in-end n k left front whole so done =
    let none : n - k ≡ 0 = omega arith in
    sym (append-nil front) ∙ ap (λ m. front ++ axes_in m left) (sym none) ∙ so

pub length-axes_in : (n : ℕ) (left : List ℕ) → length (axes_in n left) ≡ n
unfolding axes_in
length-axes_in zero left = refl
length-axes_in (suc n) left = ap suc (length-axes_in n (one_fewer left (fullest left)))

-- what is left of a component's bits
fewer-most : (left : List ℕ) (f c : ℕ) → f < length left → get_or (one_fewer left f) c 0 ≤ get_or left c 0
fewer-most left f c inside = elim (cases_eq c f) [
  | inl e ↦ (let same = get_or-set_same left f (get_or left f 0 - 1) 0 inside in
      rw e (omega (arith, same)))
  | inr other ↦ (let same = get_or-set_other left f c (get_or left f 0 - 1) 0 other in omega (arith, same))
]

-- an axis is a bit of a component
abbrev pub LiesIn : List ℕ → Axis → Type 0
LiesIn left axis = (axis.component < length left) × (axis.bit < get_or left axis.component 0)

pub axes_in-within : (n : ℕ) (left : List ℕ) → n ≤ sum left → All (LiesIn left) (axes_in n left)
unfolding axes_in
axes_in-within zero left few = All-nil (LiesIn left)
axes_in-within (suc n) left few =
    let f = fullest left in
    let has = fullest-some left (omega arith) in
    let less = one_fewer-sum left (omega arith) in
    let rest = axes_in-within n (one_fewer left f) (omega (arith, less)) in
    All-cons (LiesIn left) (axis_of left) (axes_in n (one_fewer left f)) (has.0, omega (arith, has.1))
    (All-weaker (LiesIn (one_fewer left f)) (LiesIn left) (λ axis lies.
    let most = fewer-most left f axis.component has.0 in
    (omega (arith, lies.0, length-set left f (get_or left f 0 - 1)), omega (arith, lies.1, most)))
    (axes_in n (one_fewer left f)) rest)

-- the weight of an axis' bit in a component
abbrev weight : Bool → Axis → ℕ → ℕ
weight bit axis component = if bit && axis.component == component then 2 ^ axis.bit else 0

weight-other : (bit : Bool) (axis : Axis) (component : ℕ) → component ≢ axis.component → weight bit axis component ≡ 0
weight-other true axis component other = let no = ne_eqb axis.component component (λ e. other (sym e)) in rw no refl
weight-other false axis component other = refl

weight-most : (bit : Bool) (axis : Axis) (component : ℕ) → weight bit axis component ≤ 2 ^ axis.bit
weight-most true axis component = elim (axis.component == component) as (λ t. (if t then 2 ^ axis.bit else 0) ≤ 2 ^ axis.bit) [ true ↦ omega arith | false ↦ omega arith ]
weight-most false axis component = omega arith

weight-is : (bit : Bool) (axis : Axis) → weight bit axis axis.component ≡ (if bit then 2 ^ axis.bit else 0)
weight-is true axis = let yes = eq-eqb axis.component axis.component refl in rw yes refl
weight-is false axis = refl

-- the offset in a component is within its bits, whatever the key
pub offset_in-below : (n : ℕ) (left : List ℕ) (key : Key) (c : ℕ) → n ≤ sum left → offset_in (axes_in n left) key c < 2 ^ get_or left c 0
unfolding axes_in
offset_in-below zero left key c few = pow_pos (get_or left c 0)
offset_in-below (suc n) left [] c few = pow_pos (get_or left c 0)
offset_in-below (suc n) left (bit ∷ key) c few =
    let f = fullest left in
    let l = get_or left f 0 in
    let has = fullest-some left (omega arith) in
    let less = one_fewer-sum left (omega arith) in
    let rest : offset_in (axes_in n (one_fewer left f)) key c < 2 ^ get_or (one_fewer left f) c 0 = offset_in-below n (one_fewer left f) key c (omega (arith, less)) in
    elim (cases_eq c f) [
      | inl e ↦
          let same = get_or-set_same left f (l - 1) 0 has.0 in
          let below : offset_in (axes_in n (one_fewer left f)) key c < 2 ^ (l - 1) = subst (λ m. offset_in (axes_in n (one_fewer left f)) key c < 2 ^ m) (ap (λ k. get_or (one_fewer left f) k 0) e ∙ same) rest in
          let one : l ≡ suc (l - 1) = omega (arith, has.1) in
          let double : 2 ^ l ≡ 2 ^ (l - 1) * 2 = ap (λ m. 2 ^ m) one ∙ pow-suc 2 (l - 1) in
          let top = weight-most bit (axis_of left) c in
          subst (λ k. offset_in (axes_in (suc n) left) (bit ∷ key) c < 2 ^ get_or left k 0) (sym e) (omega (arith, below, double, top))
      | inr other ↦
          let same = get_or-set_other left f c (l - 1) 0 other in
          let none = weight-other bit (axis_of left) c other in
          let below : offset_in (axes_in n (one_fewer left f)) key c < 2 ^ get_or left c 0 = subst (λ m. offset_in (axes_in n (one_fewer left f)) key c < 2 ^ m) same rest in
          omega (arith, below, none)
    ]

-- a number's lowest bits: the highest of them, and the others
split-bit : (o d : ℕ) → (if number_has_bit d o then 2 ^ d else 0) + o % 2 ^ d ≡ o % 2 ^ suc d
split-bit o d =
    let b = o / 2 ^ d % 2 in
    let next : suc d ≡ 1 + d = omega arith in
    let whole : o % 2 ^ suc d ≡ b * 2 ^ d + o % 2 ^ d = ap (λ n. o % 2 ^ n) next ∙ mod-pow-add o 1 d in
    elim (cases_eq b 1) [
      | inl one ↦
          let yes = eq-eqb b 1 one in
          let is : o % 2 ^ suc d ≡ 1 * 2 ^ d + o % 2 ^ d = whole ∙ ap (λ n. n * 2 ^ d + o % 2 ^ d) one in
          rw yes (omega (arith, is))
      | inr other ↦
          let no = ne_eqb b 1 other in
          let zero_bit : b ≡ 0 = omega arith in
          let is : o % 2 ^ suc d ≡ 0 * 2 ^ d + o % 2 ^ d = whole ∙ ap (λ n. n * 2 ^ d + o % 2 ^ d) zero_bit in
          rw no (omega (arith, is))
    ]

-- none is more than all together
least-sum : (xs : List ℕ) (c : ℕ) → get_or xs c 0 ≤ sum xs
least-sum [] c = omega arith
least-sum (x ∷ xs) zero = let step = sum_by-cons (λ (n : ℕ). n) x xs in omega (arith, step)
least-sum (x ∷ xs) (suc c) = let step = sum_by-cons (λ (n : ℕ). n) x xs in omega (arith, step, least-sum xs c)

-- the bits of a key along the axes give each offset, up to the bits that are left
pub offset_back : (n : ℕ) (left : List ℕ) (o : ℕ → ℕ) (c : ℕ) → n ≡ sum left → offset_in (axes_in n left) (key_of (axes_in n left) o) c ≡ o c % 2 ^ get_or left c 0
unfolding axes_in
offset_back zero left o c all =
    let none : get_or left c 0 ≡ 0 = omega (arith, least-sum left c, all) in
    let one : o c % 2 ^ 0 ≡ 0 = omega arith in
    sym (ap (λ m. o c % 2 ^ m) none ∙ one)
offset_back (suc n) left o c all =
    let f = fullest left in
    let l = get_or left f 0 in
    let axis = axis_of left in
    let bit = number_has_bit axis.bit (o f) in
    let has = fullest-some left (omega (arith, all)) in
    let less = one_fewer-sum left (omega (arith, all)) in
    let rest = offset_back n (one_fewer left f) o c (omega (arith, less, all)) in
    elim (cases_eq c f) [
      | inl e ↦
          let same : get_or (one_fewer left f) c 0 ≡ l - 1 = ap (λ k. get_or (one_fewer left f) k 0) e ∙ get_or-set_same left f (l - 1) 0 has.0 in
          let one : suc (l - 1) ≡ l = omega (arith, has.1) in
          let here : weight bit axis c ≡ (if bit then 2 ^ axis.bit else 0) = ap (weight bit axis) e ∙ weight-is bit axis in
          ap (λ w. w + offset_in (axes_in n (one_fewer left f)) (key_of (axes_in n (one_fewer left f)) o) c) here
          ∙ ap (λ r. (if bit then 2 ^ axis.bit else 0) + r) (rest ∙ ap (λ m. o c % 2 ^ m) same ∙ ap (λ k. o k % 2 ^ (l - 1)) e)
          ∙ split-bit (o f) (l - 1)
          ∙ ap (λ m. o f % 2 ^ m) one
          ∙ ap (λ k. o k % 2 ^ get_or left k 0) (sym e)
      | inr other ↦
          let same = get_or-set_other left f c (l - 1) 0 other in
          ap (λ w. w + offset_in (axes_in n (one_fewer left f)) (key_of (axes_in n (one_fewer left f)) o) c) (weight-other bit axis c other)
          ∙ (let none : 0 + offset_in (axes_in n (one_fewer left f)) (key_of (axes_in n (one_fewer left f)) o) c ≡ offset_in (axes_in n (one_fewer left f)) (key_of (axes_in n (one_fewer left f)) o) c = omega arith in none)
          ∙ rest ∙ ap (λ m. o c % 2 ^ m) same
    ]
