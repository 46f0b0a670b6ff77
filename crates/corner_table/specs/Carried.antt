-- A surface under new numbers of its faces, each face turned (this project's own definition).
use Rattle.std.specs.Prelude.{◌≡◌, ℕ, zero, suc, ◌<◌, ◌↔◌, List, length, get_or, Some}
use Rattle.corner_table.specs.Sides.{Side, Place, side, place_after, Gluing}

-- a place turned by k
abbrev pub turned : ℕ → Place → Place
turned zero p = p
turned (suc k) p = place_after (turned k p)

-- row i of a renumbering says which face the new face i is, and by how much it is turned: its corner k is corner k + turn of that face
abbrev pub carry : List (ℕ × ℕ) → Side → Side
carry rows s = let row = get_or rows s.face (0, 0) in side row.0 (turned row.1 s.place)

-- the rows list each face once, with turns below 3
pub record IsRenumbering (faces : ℕ) (rows : List (ℕ × ℕ)) : Type 0 where
  pub one_each : length rows ≡ faces
  pub within : (i : ℕ) → i < faces → (get_or rows i (0, 0)).0 < faces
  pub turns : (i : ℕ) → i < faces → (get_or rows i (0, 0)).1 < 3
  pub apart : (i j : ℕ) → i < faces → j < faces → (get_or rows i (0, 0)).0 ≡ (get_or rows j (0, 0)).0 → i ≡ j

-- h has the pairs of g under the new numbers, and no others
pub record IsCarried (faces : ℕ) (g : Gluing) (rows : List (ℕ × ℕ)) (h : Gluing) : Type 0 where
  pub pairs : (x y : Side) → x.face < faces → y.face < faces → (h x ≡ Some y) ↔ (g (carry rows x) ≡ Some (carry rows y))
  pub within : (x y : Side) → h x ≡ Some y → (x.face < faces) × (y.face < faces)
