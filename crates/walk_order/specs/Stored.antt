-- How a walk lies in the lists of the code.
use Rattle.std.specs.Prelude.{◌≡◌, ℕ, ◌+◌, ◌*◌, ◌<◌, ◌≤◌, Bool, true, false, cond, nat_le, Option, Some, None}
use Rattle.std.specs.Prelude.{List, [], ◌∷◌, length, get_or, map, count_by, All, vec_len, vec_capacity}
use Rattle.drc_base.specs.declared.limits.TheConstants.{MAX_FACES}
use Rattle.corner_table.specs.Sides.{Side, next, prev, side_at, Gluing, IsGluing}
use Rattle.corner_table.specs.Table.{glued_in}
use Rattle.corner_table.specs.Labels.{IsLabelled, label_at}
use Rattle.corner_table.specs.Ordered.{Ordered, AreFaces, ordered_from}
use Rattle.walk_order.specs.declared.surface.Surface.{Surface}
use Rattle.walk_order.specs.declared.marks.Marks.{Marks}
use Rattle.walk_order.specs.declared.marks.TheConstants.{NEW, NEW_AT_END}
use Rattle.walk_order.specs.Visits.{Walk, is_visited, lacks, entered}
use Rattle.walk_order.specs.DepthFirst.{goes_right_alone, walk}

-- the gluing of a surface
abbrev pub gluing_in : Surface → Gluing
gluing_in s = glued_in s.across.now

-- the lists of a surface: its gluing, and its classes
pub record IsSurface (s : Surface) : Type 0 where
  pub limit : s.faces ≤ MAX_FACES
  pub long : 3 * s.faces ≤ length s.across.now
  pub gluing : IsGluing s.faces (glued_in s.across.now)
  pub labelled : IsLabelled s.faces (glued_in s.across.now) s.labels.now (length s.ends.now) s.ends.now

-- what is kept for a class without an entry: whether a free side meets it
abbrev pub new_mark : Bool → ℕ
new_mark ended = cond ended NEW_AT_END NEW

-- a class has no entry, as is kept for it
abbrev pub is_mark : ℕ → Bool
is_mark v = nat_le NEW_AT_END v

-- how many classes have no entry
unfoldable pub unused : List ℕ → ℕ
unused table = count_by is_mark table

-- for each class the number of its entry, or that it has none
pub record IsEntryTable (labels : List ℕ) (ends : List Bool) (entries : List Side) (table : List ℕ) : Type 0 where
  pub long : length table ≡ length ends
  pub counted : unused table + length entries ≡ length table
  pub new : (k : ℕ) → k < length table → lacks labels entries k ≡ true → get_or table k 0 ≡ new_mark (get_or ends k false)
  pub told : (k : ℕ) → k < length table → lacks labels entries k ≡ false →
      (get_or table k 0 < length entries) × (label_at labels (get_or entries (get_or table k 0) (side_at 0)) ≡ k)
  pub back : (i : ℕ) → i < length entries → get_or table (label_at labels (get_or entries i (side_at 0))) 0 ≡ i

-- the entries so far, as the walk has them
abbrev pub marked_entries : Marks → List Side
marked_entries m = map side_at m.entries.items

-- the walk that the marks stand for
abbrev pub marked_walk : Marks → Walk
marked_walk m = record { visited = m.visited.items; entries = marked_entries m }

-- the surface with the entries so far; what is kept for a class without an entry is above their numbers
abbrev pub ordered_so_far : Surface → Marks → Ordered
ordered_so_far s m = ordered_from s.across.now s.labels.now m.entry_of_class.items (marked_entries m)

-- a walk as it is stored, with room for an entry of each class
pub record IsStored (s : Surface) (m : Marks) : Type 0 where
  pub sized : vec_len m.visited ≡ s.faces
  pub table : IsEntryTable s.labels.now s.ends.now (marked_entries m) m.entry_of_class.items
  pub corners : All (λ (c : ℕ). c < 3 * s.faces) m.entries.items
  pub faces : AreFaces (ordered_so_far s m) m.faces_across.items
  pub room : length s.ends.now ≤ vec_capacity m.entries
  pub room_across : length s.ends.now ≤ vec_capacity m.faces_across

-- every class has an entry
abbrev pub AllHaveEntries : List ℕ → List Side → ℕ → Type 0
AllHaveEntries labels entries count = (k : ℕ) → k < count → lacks labels entries k ≡ false

-- a corner, where there is one, before those that wait
abbrev pub before : Option Side → List Side → List Side
before None waiting = waiting
before (Some c) waiting = c ∷ waiting

-- one turn at a corner while others wait, the next one first: the walk after it, what waits then, and the corner to go on at
abbrev pub turn_step : Gluing → List ℕ → List Bool → Walk → List Side → Side → Walk × List Side × Option Side
turn_step g labels ends w waiting c = cond (is_visited w c.face) (w, waiting, None)
    (entered labels w c, cond (goes_right_alone labels ends w c) waiting (before (g (prev c)) waiting), g (next c))

-- the walks from corners that wait, in turn
unfoldable pub walks_in_turn : Gluing → List ℕ → List Bool → ℕ → Walk → List Side → Walk
walks_in_turn g labels ends n w [] = w
walks_in_turn g labels ends n w (c ∷ cs) = walks_in_turn g labels ends n (walk g labels ends n w (Some c)) cs
