-- Faces two of whose corners have one label: the code's own way to the last test, over the labels of a table's vertices.
use Rattle.std.specs.Prelude.{ℕ, zero, suc, Bool, ◌||◌, ◌==◌, cond, List, Option, Some, None}
use Rattle.corner_table.specs.Sides.{first, second, third, side}
use Rattle.corner_table.specs.Labels.{label_at}

abbrev pub is_alike : List ℕ → ℕ → Bool
is_alike labels f =
    (label_at labels (side f first) == label_at labels (side f second))
    || (label_at labels (side f second) == label_at labels (side f third))
    || (label_at labels (side f third) == label_at labels (side f first))

-- the least of the first n faces
unfoldable pub first_alike : List ℕ → ℕ → Option ℕ
first_alike labels zero = None
first_alike labels (suc n) = elim (first_alike labels n) [ Some f ↦ Some f | None ↦ cond (is_alike labels n) (Some n) None ]
