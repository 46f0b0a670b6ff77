-- Classes by edges and directions.
use Rattle.std.proofs.Common.{◌≡◌, ◌≢◌, ℕ, ◌+◌, ◌*◌, ◌/◌, ◌<◌, eqb, min, List, length, get_or, inl, inr, sym, ap, ◌∙◌, arith}
use Rattle.std.proofs.lemmas.Bool.{cases_eq, cond-true, cond-false, eq-eqb, ne_eqb}
use Rattle.corner_table.specs.Sides.{next, prev, side_at}
use Rattle.corner_table.proofs.Places.{next-next}
use Rattle.corner_table.proofs.Numbers.{face-lt}
use Rattle.pairing.specs.Positions.{position_in, AreTriangles}
use Rattle.first_items.specs.FirstItems.{AreFirstItems}
use Rattle.pairing.specs.Classes.{AreBounds, class_at, AreEdges, reversed, AreClasses}
use Rattle.first_items.proofs.PairNumbers.{firsts_number}

up_class : (edge start low : ℕ) → start ≡ low → class_at edge start low ≡ 2 * edge
up_class edge start low e = cond-true (eqb start low) (2 * edge) (2 * edge + 1) (eq-eqb start low e)

down_class : (edge start low : ℕ) → start ≢ low → class_at edge start low ≡ 2 * edge + 1
down_class edge start low h = cond-false (eqb start low) (2 * edge) (2 * edge + 1) (ne_eqb start low h)

-- a side's edge, its direction and its class
pub data IsClass (start end edge class : ℕ) : Type 0 where
  upwards : start < end → class ≡ 2 * edge → IsClass start end edge class
  downwards : end < start → class ≡ 2 * edge + 1 → IsClass start end edge class

class_tells : (start end edge low class : ℕ) → start ≢ end → low ≡ min start end → class ≡ class_at edge start low → IsClass start end edge class
class_tells start end edge low class h l e = elim (cases_eq start low) [
  | inl p ↦ upwards (omega arith) (e ∙ up_class edge start low p)
  | inr p ↦ downwards (omega arith) (e ∙ down_class edge start low p)
]

pub record AreDirected (faces : ℕ) (numbers lows highs firsts classes : List ℕ) (count : ℕ) : Type 0 where
  pub triangles : AreTriangles faces numbers
  pub bounds : AreBounds numbers lows highs
  pub first_items : AreFirstItems lows highs firsts
  pub edges : AreEdges firsts classes count (length numbers)
  pub each : length classes ≡ length numbers
  pub class_is : (k : ℕ) → k < length numbers → get_or classes k 0 ≡ class_at (get_or classes k 0 / 2) (position_in numbers (next (side_at k))) (get_or lows k 0)

module _ {faces : ℕ} {numbers lows highs firsts classes : List ℕ} {count : ℕ} (D : AreDirected faces numbers lows highs firsts classes count) where
  start : ℕ → ℕ
  start x = position_in numbers (next (side_at x))

  ends_apart : (x : ℕ) → x < length numbers → position_in numbers (next (side_at x)) ≢ position_in numbers (prev (side_at x))
  ends_apart x h e =
      let l = D.triangles.each in
      D.triangles.apart (next (side_at x)) (face-lt x faces (omega arith)) (e ∙ ap (position_in numbers) (sym (next-next (side_at x))))

  class_of : (x : ℕ) → x < length numbers → IsClass (position_in numbers (next (side_at x))) (position_in numbers (prev (side_at x))) (get_or classes x 0 / 2) (get_or classes x 0)
  class_of x h = class_tells (position_in numbers (next (side_at x))) (position_in numbers (prev (side_at x))) (get_or classes x 0 / 2) (get_or lows x 0) (get_or classes x 0) (ends_apart x h) (D.bounds.low x h) (D.class_is x h)

  below : (x : ℕ) → x < length numbers → (get_or classes x 0 < 2 * count) × (reversed (get_or classes x 0) < 2 * count)
  below x h =
      let b = D.edges.below x h in
      elim (class_of x h) [
        | upwards p e ↦ (omega arith, omega arith)
        | downwards p e ↦ (omega arith, omega arith)
      ]

  pub classes_are : AreClasses numbers classes (2 * count)
  classes_are = record {
    each = D.each;
    below = λ x h. (below x h).0;
    reverse_below = λ x h. (below x h).1;
    alike = alike;
    apart = apart;
  }
    where
      alike : (x y : ℕ) → x < length numbers → y < length numbers → position_in numbers (next (side_at x)) ≡ position_in numbers (prev (side_at y)) → position_in numbers (prev (side_at x)) ≡ position_in numbers (next (side_at y)) → get_or classes x 0 ≡ reversed (get_or classes y 0)
      alike x y h k e f =
          let l = D.bounds.each_low in
          let lx = D.bounds.low x h in
          let ly = D.bounds.low y k in
          let hx = D.bounds.high x h in
          let hy = D.bounds.high y k in
          let low : get_or lows x 0 ≡ get_or lows y 0 = omega arith in
          let high : get_or highs x 0 ≡ get_or highs y 0 = omega arith in
          let edge = D.edges.alike x y h k ((firsts_number D.first_items).alike x y (omega arith) (omega arith) low high) in
          elim (class_of x h) [
            | upwards p q ↦ elim (class_of y k) [
              | upwards r s ↦ absurd (omega arith)
              | downwards r s ↦ omega arith
            ]
            | downwards p q ↦ elim (class_of y k) [
              | upwards r s ↦ omega arith
              | downwards r s ↦ absurd (omega arith)
            ]
          ]

      apart : (x y : ℕ) → x < length numbers → y < length numbers → get_or classes x 0 ≡ reversed (get_or classes y 0) →
          (position_in numbers (next (side_at x)) ≡ position_in numbers (prev (side_at y))) × (position_in numbers (prev (side_at x)) ≡ position_in numbers (next (side_at y)))
      apart x y h k e =
          let l = D.bounds.each_low in
          let lx = D.bounds.low x h in
          let ly = D.bounds.low y k in
          let hx = D.bounds.high x h in
          let hy = D.bounds.high y k in
          let same : get_or classes x 0 / 2 ≡ get_or classes y 0 / 2 → (get_or lows x 0 ≡ get_or lows y 0) × (get_or highs x 0 ≡ get_or highs y 0) = λ q. (firsts_number D.first_items).apart x y (omega arith) (omega arith) (D.edges.apart x y h k q) in
          elim (class_of x h) [
            | upwards p q ↦ elim (class_of y k) [
              | upwards r s ↦ absurd (omega arith)
              | downwards r s ↦ (let t = same (omega arith) in let t0 = t.0 in let t1 = t.1 in (omega arith, omega arith))
            ]
            | downwards p q ↦ elim (class_of y k) [
              | upwards r s ↦ (let t = same (omega arith) in let t0 = t.0 in let t1 = t.1 in (omega arith, omega arith))
              | downwards r s ↦ absurd (omega arith)
            ]
          ]
