-- Vertices of a finished surface: a number for each fan (that they go by least corners is this project's own choice).
use Rattle.std.specs.Prelude.{◌≡◌, ℕ, ◌*◌, ◌<◌, ◌↔◌, Bool, false, IsTrue, List, length, get_or}
use Rattle.corner_table.specs.Sides.{Side, number, Gluing}
use Rattle.corner_table.specs.Fans.{InFan, MeetsBoundary}
use Rattle.corner_table.specs.Table.{free_entry}

-- the label of a corner
abbrev pub label_at : List ℕ → Side → ℕ
label_at labels c = get_or labels (number c) free_entry

-- each fan has a label, by the order of the fans' least corners; `ends` says which of them meet a boundary
pub record IsLabelled (faces : ℕ) (g : Gluing) (labels : List ℕ) (count : ℕ) (ends : List Bool) : Type 0 where
  pub each_corner : length labels ≡ 3 * faces
  pub bounded : (c : Side) → c.face < faces → label_at labels c < count
  pub used : (k : ℕ) → k < count → (c : Side) × (c.face < faces) × (label_at labels c ≡ k)
  -- before a corner each lesser label has been met
  pub in_order : (c : Side) → c.face < faces → (k : ℕ) → k < label_at labels c →
      (b : Side) × (number b < number c) × (label_at labels b ≡ k)
  pub one_label : (c d : Side) → c.face < faces → d.face < faces → InFan g c d → label_at labels c ≡ label_at labels d
  pub one_fan : (c d : Side) → c.face < faces → d.face < faces → label_at labels c ≡ label_at labels d → InFan g c d
  pub each_label : length ends ≡ count
  pub boundary : (c : Side) → c.face < faces → IsTrue (get_or ends (label_at labels c) false) ↔ MeetsBoundary g c
