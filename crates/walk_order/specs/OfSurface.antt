-- Labels, ends and orders as functions of a surface alone: what every labelling of its fans gives (Draco Bitstream Specification 2.2,
-- attribute traversal; that fans go by their least corners is this project's choice).
use Rattle.std.specs.Prelude.{◌≡◌, ℕ, Bool, not, ◌&&◌, ◌||◌, nat_lt, is_none, List, length, map, filter}
use Rattle.std.specs.List.{list_any, position_or_len}
use Rattle.corner_table.specs.Sides.{Side, number, next, prev, Gluing, IsGluing}
use Rattle.corner_table.specs.Fans.{meets, corners_of}
use Rattle.corner_table.specs.Labels.{IsLabelled}
use Rattle.corner_table.specs.declared.corner_lists.Order.{Order}
use Rattle.walk_order.specs.Orders.{corners_in, entries_in, IsOrderOf}
use Rattle.walk_order.specs.DepthFirst.{depth_first_order}
use Rattle.walk_order.specs.PredictionDegree.{prediction_degree_order}

-- whether no corner of a lesser number is in the fan of this one
abbrev pub is_least : ℕ → Gluing → Side → Bool
is_least faces g c = not (list_any (λ d. nat_lt (number d) (number c) && meets faces g c d) (corners_of faces))

-- the least corner of each fan, in order
abbrev pub least_corners : ℕ → Gluing → List Side
least_corners faces g = filter (is_least faces g) (corners_of faces)

-- the label of a corner: the place of its fan among these
abbrev pub fan_label : ℕ → Gluing → Side → ℕ
fan_label faces g c = position_or_len (meets faces g c) (least_corners faces g)

-- the labels of all corners
unfoldable pub fan_labels : ℕ → Gluing → List ℕ
fan_labels faces g = map (fan_label faces g) (corners_of faces)

-- how many fans there are
unfoldable pub fans_of : ℕ → Gluing → ℕ
fans_of faces g = length (least_corners faces g)

-- whether a free side starts or ends at a corner of this one's fan
abbrev pub meets_boundary : ℕ → Gluing → Side → Bool
meets_boundary faces g c = list_any (λ d. meets faces g c d && (is_none (g (next d)) || is_none (g (prev d)))) (corners_of faces)

-- of each fan, whether it meets a boundary
unfoldable pub fan_ends : ℕ → Gluing → List Bool
fan_ends faces g = map (meets_boundary faces g) (least_corners faces g)

-- the depth-first order of a surface
abbrev pub depth_first_of : ℕ → Gluing → List Side
depth_first_of faces g = depth_first_order faces g (fan_labels faces g) (fan_ends faces g)

-- its order by prediction degree
abbrev pub prediction_degree_of : ℕ → Gluing → List Side
prediction_degree_of faces g = prediction_degree_order faces g (fan_labels faces g) (fans_of faces g)

-- for each corner its entry in an order: that whose corner is in its fan
unfoldable pub entries_of : ℕ → Gluing → List Side → List ℕ
entries_of faces g order = map (λ c. position_or_len (meets faces g c) order) (corners_of faces)

-- these labels and ends are those of the fans
abbrev pub SurfaceIsLabelled : Type 0
SurfaceIsLabelled = (faces : ℕ) (g : Gluing) → IsGluing faces g →
    IsLabelled faces g (fan_labels faces g) (fans_of faces g) (fan_ends faces g)

-- and no others are
abbrev pub LabelsAreOne : Type 0
LabelsAreOne = (faces : ℕ) (g : Gluing) (labels : List ℕ) (count : ℕ) (ends : List Bool) → IsGluing faces g →
    IsLabelled faces g labels count ends → (labels ≡ fan_labels faces g) × (count ≡ fans_of faces g) × (ends ≡ fan_ends faces g)

-- whatever labels a surface has, its orders are these
abbrev pub OrdersAreOfSurface : Type 0
OrdersAreOfSurface = (faces : ℕ) (g : Gluing) (labels : List ℕ) (count : ℕ) (ends : List Bool) → IsGluing faces g →
    IsLabelled faces g labels count ends →
    (depth_first_order faces g labels ends ≡ depth_first_of faces g)
    × (prediction_degree_order faces g labels count ≡ prediction_degree_of faces g)

-- and the entries of corners in an order of its classes are determined by the corners of the entries
abbrev pub EntriesAreOfSurface : Type 0
EntriesAreOfSurface = (faces : ℕ) (g : Gluing) (labels : List ℕ) (count : ℕ) (ends : List Bool) (o : Order) → IsGluing faces g →
    IsLabelled faces g labels count ends → IsOrderOf faces labels count o → entries_in labels o ≡ entries_of faces g (corners_in o)
