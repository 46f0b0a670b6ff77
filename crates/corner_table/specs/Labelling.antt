-- The labels while they are being given, fan after fan, and corner after corner of a fan. These are the code's own words, for the steps of
-- `label_vertices`; what it answers is stated by `IsLabelled` alone.
use Rattle.std.specs.Prelude.{◌≡◌, ◌≢◌, ℕ, ◌*◌, ◌<◌, ◌≤◌, ◌⊎◌, ◌↔◌, Bool, true, false, IsTrue, List, length, get_or, count_by, eqb, Some, None}
use Rattle.corner_table.specs.Sides.{Side, number, Gluing}
use Rattle.corner_table.specs.Fans.{InFan, MeetsBoundary, swing_left, swing_right}
use Rattle.corner_table.specs.Table.{free_entry}
use Rattle.corner_table.specs.Labels.{label_at}

-- how many corners have no label
abbrev pub unlabelled : List ℕ → ℕ
unlabelled labels = count_by (λ v. eqb v free_entry) labels

-- a corner that carries the new label has a next corner to the left, which carries it too
abbrev pub GoesLeft : Gluing → ℕ → List ℕ → Side → Type 0
GoesLeft g label labels c = (d : Side) × (swing_left g c ≡ Some d) × (label_at labels d ≡ label)

-- the same to the right
abbrev pub GoesRight : Gluing → ℕ → List ℕ → Side → Type 0
GoesRight g label labels c = (d : Side) × (swing_right g c ≡ Some d) × (label_at labels d ≡ label)

-- what a corner's label was and is: unchanged, or newly the label, in the fan of the start
abbrev pub Marks : Gluing → ℕ → List ℕ → List ℕ → Side → Side → Type 0
Marks g label old new start c =
    ((label_at new c ≡ label_at old c) × (label_at new c ≢ label))
    ⊎ ((label_at new c ≡ label) × (label_at old c ≡ free_entry) × InFan g start c)

-- the labels before a fan is labelled: alike along each fan, and the start has none
pub record IsReady (g : Gluing) (label : ℕ) (old : List ℕ) (start : Side) : Type 0 where
  pub alike : (c d : Side) → InFan g c d → label_at old c ≡ label_at old d
  pub unlabelled : label_at old start ≡ free_entry
  pub fresh : (c : Side) → label_at old c ≢ label
  pub real : label ≢ free_entry

-- the labels while the fan of a corner is being labelled
pub record IsMarking (g : Gluing) (label : ℕ) (old new : List ℕ) (start : Side) : Type 0 where
  pub long : length new ≡ length old
  pub begun : label_at new start ≡ label
  pub marks : (c : Side) → Marks g label old new start c

-- the walk to the left: from each labelled corner but the last it goes on, to each but the start it came,
-- and from the last it goes on to no labelled corner but the start
pub record IsLeftwards (g : Gluing) (label : ℕ) (old new : List ℕ) (start at : Side) : Type 0 where
  pub marking : IsMarking g label old new start
  pub here : label_at new at ≡ label
  pub lefts : (c : Side) → label_at new c ≡ label → c ≢ at → GoesLeft g label new c
  pub rights : (c : Side) → label_at new c ≡ label → c ≢ start → GoesRight g label new c
  pub ahead : (c : Side) → label_at new c ≡ label → c ≢ start → swing_left g at ≢ Some c

-- what the walk to the left leaves, and whether it came to an end or round to its start
pub record IsLeftDone (g : Gluing) (label : ℕ) (old new : List ℕ) (start : Side) (open_fan : Bool) : Type 0 where
  pub marking : IsMarking g label old new start
  pub lefts : (c : Side) → label_at new c ≡ label → (swing_left g c ≡ None) ⊎ GoesLeft g label new c
  pub rights : (c : Side) → label_at new c ≡ label → c ≢ start → GoesRight g label new c
  pub round : open_fan ≡ false → (c : Side) → label_at new c ≡ label → GoesLeft g label new c × GoesRight g label new c
  pub ended : open_fan ≡ true → MeetsBoundary g start

-- the walk to the right from the start of an open fan: from each labelled corner but the last it goes on
pub record IsRightwards (g : Gluing) (label : ℕ) (old new : List ℕ) (start at : Side) : Type 0 where
  pub marking : IsMarking g label old new start
  pub here : label_at new at ≡ label
  pub lefts : (c : Side) → label_at new c ≡ label → (swing_left g c ≡ None) ⊎ GoesLeft g label new c
  pub rights : (c : Side) → label_at new c ≡ label → c ≢ at → GoesRight g label new c

-- each swing from a labelled corner leads to a labelled one
pub record IsWhole (g : Gluing) (label : ℕ) (old new : List ℕ) (start : Side) : Type 0 where
  pub marking : IsMarking g label old new start
  pub lefts : (c : Side) → label_at new c ≡ label → (swing_left g c ≡ None) ⊎ GoesLeft g label new c
  pub rights : (c : Side) → label_at new c ≡ label → (swing_right g c ≡ None) ⊎ GoesRight g label new c

-- a fan is labelled whole: labels are alike along each fan again
pub record IsFanLabelled (g : Gluing) (label : ℕ) (old new : List ℕ) (start : Side) (open_fan : Bool) : Type 0 where
  pub marking : IsMarking g label old new start
  pub alike : (c d : Side) → InFan g c d → label_at new c ≡ label_at new d
  pub boundary : IsTrue open_fan ↔ MeetsBoundary g start

-- the labels of the fans with a corner before corner number i, of which there are n
pub record IsLabelling (faces : ℕ) (g : Gluing) (i n : ℕ) (labels : List ℕ) (ends : List Bool) : Type 0 where
  pub each_corner : length labels ≡ 3 * faces
  pub few : n ≤ i
  pub alike : (c d : Side) → InFan g c d → label_at labels c ≡ label_at labels d
  pub passed : (c : Side) → number c < i → label_at labels c ≢ free_entry
  pub bounded : (c : Side) → label_at labels c ≢ free_entry → label_at labels c < n
  pub used : (k : ℕ) → k < n → (b : Side) × (number b < i) × (label_at labels b ≡ k)
  pub in_order : (c : Side) → label_at labels c ≢ free_entry → (k : ℕ) → k < label_at labels c →
      (b : Side) × (number b < number c) × (label_at labels b ≡ k)
  pub one_fan : (c d : Side) → label_at labels c ≢ free_entry → label_at labels c ≡ label_at labels d → InFan g c d
  pub each_label : length ends ≡ n
  pub boundary : (c : Side) → label_at labels c ≢ free_entry → IsTrue (get_or ends (label_at labels c) false) ↔ MeetsBoundary g c
