-- Pairs of sides that are reversed to each other make a proper surface.
use Rattle.std.proofs.Common.{◌≡◌, ℕ, List, refl, sym, ap, ◌∙◌}
use Rattle.corner_table.specs.Sides.{Side, next, prev, Gluing}
use Rattle.corner_table.specs.Fans.{InFan, here, leftwards, rightwards, IsProper}
use Rattle.corner_table.proofs.Places.{next-prev, prev-next}
use Rattle.corner_table.proofs.Walks.{left_crosses, right_crosses}
use Rattle.pairing.specs.Positions.{position_in, AreTriangles}
use Rattle.pairing.proofs.Turns.{ArePairs}

-- all corners of a fan have one position
pub fan_position : {faces : ℕ} {numbers : List ℕ} {n : ℕ} {g : Gluing} → ArePairs faces numbers n g → {c d : Side} → InFan g c d → position_in numbers c ≡ position_in numbers d
fan_position P here = refl
fan_position {numbers = numbers} {g = g} P (leftwards {c = c} {d = x} s p) =
    let R = P.reversed (next c) (prev x) (left_crosses g c x s) in
    ap (position_in numbers) (sym (prev-next c)) ∙ R.ends ∙ ap (position_in numbers) (next-prev x) ∙ fan_position P p
fan_position {numbers = numbers} {g = g} P (rightwards {c = c} {d = x} s p) =
    let R = P.reversed (prev c) (next x) (right_crosses g c x s) in
    ap (position_in numbers) (sym (next-prev c)) ∙ R.starts ∙ ap (position_in numbers) (prev-next x) ∙ fan_position P p

pub pairs_proper : {faces : ℕ} {numbers : List ℕ} {n : ℕ} {g : Gluing} → AreTriangles faces numbers → ArePairs faces numbers n g → IsProper faces g
pairs_proper T P = record {
  gluing = P.gluing;
  three_fans = record { at_next = λ c h p. T.apart c h (fan_position P p) };
  opposite = λ x y e p. (P.reversed x y e).thirds (fan_position P p);
}
