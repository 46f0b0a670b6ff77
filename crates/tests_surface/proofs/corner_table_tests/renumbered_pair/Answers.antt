-- Two rows that list both faces.
use Rattle.std.proofs.Common.{◌≡◌, ℕ, zero, suc, ◌<◌, [], ◌∷◌, get_or, List, refl, arith}
use Rattle.corner_table.specs.Carried.{IsRenumbering}
use Rattle.tests_surface.proofs.corner_table_tests.renumbered_pair.Goals as goal

two_rows : IsRenumbering 2 ((1, 1) ∷ (0, 2) ∷ [])
two_rows = record { one_each = refl; within = within; turns = turns; apart = apart }
  where
    rows : List (ℕ × ℕ)
    rows = (1, 1) ∷ (0, 2) ∷ []

    within : (i : ℕ) → i < 2 → (get_or rows i (0, 0)).0 < 2
    within zero h = omega arith
    within (suc zero) h = omega arith
    within (suc (suc i)) h = absurd (omega arith)

    turns : (i : ℕ) → i < 2 → (get_or rows i (0, 0)).1 < 3
    turns zero h = omega arith
    turns (suc zero) h = omega arith
    turns (suc (suc i)) h = absurd (omega arith)

    apart : (i j : ℕ) → i < 2 → j < 2 → (get_or rows i (0, 0)).0 ≡ (get_or rows j (0, 0)).0 → i ≡ j
    apart zero zero h k e = refl
    apart zero (suc zero) h k e = absurd (omega arith)
    apart (suc zero) zero h k e = absurd (omega arith)
    apart (suc zero) (suc zero) h k e = refl
    apart (suc (suc i)) j h k e = absurd (omega arith)
    apart zero (suc (suc j)) h k e = absurd (omega arith)
    apart (suc zero) (suc (suc j)) h k e = absurd (omega arith)

pub renumbered-requires : goal.renumbered-requires
renumbered-requires g c = rw (c.into_sides.ensures, c.glue_pair.ensures, c.add_faces.ensures) two_rows
