-- What an order of entries is (Draco Bitstream Specification 2.2, attribute traversal).
use Rattle.std.specs.Prelude.{◌≡◌, ℕ, ◌*◌, ◌<◌, List, length, get_or, map, All}
use Rattle.corner_table.specs.declared.corner_lists.Order.{Order}
use Rattle.corner_table.specs.Sides.{Side, number, side_at}
use Rattle.corner_table.specs.Table.{free_entry}
use Rattle.corner_table.specs.Labels.{label_at}
use Rattle.corner_table.specs.Ordered.{entries_by}

-- the corners of the entries of an order
abbrev pub corners_in : Order → List Side
corners_in o = map side_at o.corner_of_entry

-- the entry of each corner, where the corners have these classes
abbrev pub entries_in : List ℕ → Order → List ℕ
entries_in labels o = entries_by labels o.entry_of_class

-- the entry of a corner
abbrev pub entry_at : List ℕ → Order → Side → ℕ
entry_at labels o c = get_or (entries_in labels o) (number c) free_entry

-- the class of an entry
abbrev pub class_of : List ℕ → Order → ℕ → ℕ
class_of labels o e = label_at labels (get_or (corners_in o) e (side_at 0))

-- an order over a table whose corners have these classes: the class of each corner has an entry, and each entry a corner
pub record IsOrderOver (faces : ℕ) (labels : List ℕ) (o : Order) : Type 0 where
  pub each_corner : length labels ≡ 3 * faces
  pub classes : All (λ (k : ℕ). k < length o.entry_of_class) labels
  pub entries : All (λ (e : ℕ). e < length o.corner_of_entry) o.entry_of_class
  pub corners : All (λ (c : ℕ). c < 3 * faces) o.corner_of_entry

-- each class has one entry: there are as many, no two entries are of one class, and the entry of each corner is of the corner's class
pub record IsOrderOf (faces : ℕ) (labels : List ℕ) (count : ℕ) (o : Order) : Type 0 where
  pub over : IsOrderOver faces labels o
  pub as_many : length o.corner_of_entry ≡ count
  pub each_class : length o.entry_of_class ≡ count
  pub apart : (i j : ℕ) → i < count → j < count → class_of labels o i ≡ class_of labels o j → i ≡ j
  pub told : (c : Side) → c.face < faces → class_of labels o (entry_at labels o c) ≡ label_at labels c
