-- The tests of rows are what they say.
use Rattle.std.proofs.Common.{◌≡◌, ◌↔◌, ℕ, zero, suc, ◌+◌, ◌<◌, Bool, true, false, not, eqb, ltb, [], length, get_or, take, ap, sym, ◌∙◌, arith}
use Rattle.std.specs.Bool.{Decides}
use Rattle.std.specs.List.{list_any}
use Rattle.std.proofs.lemmas.Bool.{false≢true, and_parts, and_from, not-true, not_from_false, ltb-true, lt-ltb, eq-eqb, ne_eqb}
use Rattle.std.proofs.lemmas.Bool.Decides.{Decides-and, Decides-like, Decides-eqb, Decides-ltb, same_from_decides}
use Rattle.std.proofs.lemmas.List.{length-take, get_or-take}
use Rattle.std.proofs.lemmas.List.Elements.{All-from_get_or}
use Rattle.std.proofs.lemmas.List.Folds.{list_any_at, list_any_none}
use Rattle.mesh_model.specs.Parts.{MeshParts, CloudParts, corner}
use Rattle.mesh_model.specs.Same.{Rows, named, turn, SameFace, SameCloudPoint}
use Rattle.mesh_model.proofs.DistinctRows.{same_row-decides}
use Rattle.drc_verify.specs.RowTests.{NamesNew, FaceIsRight, PointIsRight, names_new, same_face, same_point, face_is_right, point_is_right}

three : (P : ℕ → Type 0) → P 0 → P 1 → P 2 → (k : ℕ) → k < 3 → P k
three P a b c zero below = a
three P a b c (suc zero) below = b
three P a b c (suc (suc zero)) below = c
three P a b c (suc (suc (suc k))) below = absurd (omega arith)

pub same_face-decides : (m n : MeshParts) (i f t : ℕ) → Decides (same_face m n i f t) (SameFace m n i f t)
unfolding same_face
same_face-decides m n i f t =
    Decides-like (same_face m n i f t)
    (λ h. (h.0.0.0, three (λ k. corner n i k ≡ corner m f (k + t)) h.0.0.1 h.0.1 h.1))
    (λ s. (((s.0, s.1 0 (omega arith)), s.1 1 (omega arith)), s.1 2 (omega arith)))
    (Decides-and _ _ (Decides-and _ _ (Decides-and _ _ (Decides-ltb t 3) (same_row-decides (corner n i 0) (corner m f (0 + t))))
    (same_row-decides (corner n i 1) (corner m f (1 + t)))) (same_row-decides (corner n i 2) (corner m f (2 + t))))

pub same_point-decides : (m n : CloudParts) (i p t : ℕ) → Decides (same_point m n i p t) (SameCloudPoint m n i p t)
unfolding same_point
same_point-decides m n i p t =
    Decides-and _ _ (Decides-eqb t 0) (same_row-decides (get_or n.points i []) (get_or m.points p []))

-- tests that say the same are these
pub face_told : (m n : MeshParts) (i f t : ℕ) (r : Bool) → ((r ≡ true) ↔ SameFace m n i f t) → r ≡ same_face m n i f t
face_told m n i f t r told = same_from_decides r (same_face m n i f t) told (same_face-decides m n i f t)

pub point_told : (m n : CloudParts) (i p t : ℕ) (r : Bool) → ((r ≡ true) ↔ SameCloudPoint m n i p t) → r ≡ same_point m n i p t
point_told m n i p t r told = same_from_decides r (same_point m n i p t) told (same_point-decides m n i p t)

-- a row before row i names another number
pub is_new-decides : (count : ℕ) (rows : Rows) (i : ℕ) → i < length rows → Decides (names_new count rows i) (NamesNew count rows i)
unfolding names_new
is_new-decides count rows i inside = (
  λ t.
      let parts = and_parts (ltb (named rows i) count) (not (list_any same (take i rows))) t in
      let none : list_any same (take i rows) ≡ false = not-true (list_any same (take i rows)) parts.1 in (
        ltb-true (named rows i) count parts.0,
        λ j before is.
            let short : j < length (take i rows) = omega (arith, length-take i rows) in
            let here : same (get_or (take i rows) j (0, 0)) ≡ true = ap same (get_or-take i rows j (0, 0) before) ∙ eq-eqb (named rows j) (named rows i) is in
            false≢true (sym none ∙ list_any_at same (take i rows) j (0, 0) short here),
      ),
  λ new.
      and_from (ltb (named rows i) count) (not (list_any same (take i rows))) (lt-ltb (named rows i) count new.0)
      (not_from_false (list_any same (take i rows)) (list_any_none same (take i rows)
      (All-from_get_or (λ row. same row ≡ false) (take i rows) (0, 0) (λ j short.
      let before : j < i = omega (arith, length-take i rows) in
      ap same (get_or-take i rows j (0, 0) before) ∙ ne_eqb (named rows j) (named rows i) (new.1 j before))))),
)
  where
    same : ℕ × ℕ → Bool
    same row = eqb row.0 (named rows i)

pub face-decides : (m n : MeshParts) (rows : Rows) (i : ℕ) → i < length rows → Decides (face_is_right m n rows i) (FaceIsRight m n rows i)
face-decides m n rows i inside =
    Decides-and _ _ (is_new-decides (length m.faces) rows i inside) (same_face-decides m n i (named rows i) (turn rows i))

pub point-decides : (m n : CloudParts) (rows : Rows) (i : ℕ) → i < length rows → Decides (point_is_right m n rows i) (PointIsRight m n rows i)
point-decides m n rows i inside =
    Decides-and _ _ (is_new-decides (length m.points) rows i inside) (same_point-decides m n i (named rows i) (turn rows i))
