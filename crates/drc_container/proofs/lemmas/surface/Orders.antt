-- The orders that walks leave over a table are those of its surface.
use Rattle.std.proofs.Common.{◌≡◌, ℕ, true, false, Bool, List, ◌∙◌, ap}
use Rattle.corner_table.specs.declared.corner_lists.Order.{Order}
use Rattle.corner_table.specs.Sides.{IsGluing}
use Rattle.corner_table.specs.Table.{Table, gluing_of}
use Rattle.corner_table.specs.Labels.{IsLabelled}
use Rattle.corner_table.specs.Ordered.{Ordered, ordered}
use Rattle.walk_order.specs.Orders.{corners_in, IsOrderOf}
use Rattle.walk_order.specs.DepthFirst.{depth_first_order}
use Rattle.walk_order.specs.PredictionDegree.{prediction_degree_order}
use Rattle.walk_order.specs.OfSurface.{depth_first_of, prediction_degree_of}
use Rattle.walk_order.proofs.OfSurface.{orders_are_of_surface, entries_are_of_surface}
use Rattle.drc_container.specs.reading.OnSurface.{in_order, ordered_by}

-- an order of the classes of a table is one over its surface, in the order of its entries' corners
over-surface : (t : Table) (labels : List ℕ) (count : ℕ) (ends : List Bool) (o : Order) → IsGluing t.faces (gluing_of t)
    → IsLabelled t.faces (gluing_of t) labels count ends → IsOrderOf t.faces labels count o
    → ordered t labels o ≡ in_order t.faces (gluing_of t) (corners_in o)
over-surface t labels count ends o gluing labelled is =
    let over : List ℕ → Ordered = λ entries. record { gluing = gluing_of t; corners = corners_in o; entries = entries } in
    ap over (entries_are_of_surface t.faces (gluing_of t) labels count ends o gluing labelled is)

pub ordered-depth : (t : Table) (labels : List ℕ) (count : ℕ) (ends : List Bool) (o : Order) → IsGluing t.faces (gluing_of t)
    → IsLabelled t.faces (gluing_of t) labels count ends → IsOrderOf t.faces labels count o
    → corners_in o ≡ depth_first_order t.faces (gluing_of t) labels ends → ordered t labels o ≡ ordered_by false t.faces (gluing_of t)
unfolding ordered_by
ordered-depth t labels count ends o gluing labelled is told =
    let order : corners_in o ≡ depth_first_of t.faces (gluing_of t) = told ∙ (orders_are_of_surface t.faces (gluing_of t) labels count ends gluing labelled).0 in
    over-surface t labels count ends o gluing labelled is ∙ ap (in_order t.faces (gluing_of t)) order

pub ordered-degree : (t : Table) (labels : List ℕ) (count : ℕ) (ends : List Bool) (o : Order) → IsGluing t.faces (gluing_of t)
    → IsLabelled t.faces (gluing_of t) labels count ends → IsOrderOf t.faces labels count o
    → corners_in o ≡ prediction_degree_order t.faces (gluing_of t) labels count → ordered t labels o ≡ ordered_by true t.faces (gluing_of t)
unfolding ordered_by
ordered-degree t labels count ends o gluing labelled is told =
    let order : corners_in o ≡ prediction_degree_of t.faces (gluing_of t) = told ∙ (orders_are_of_surface t.faces (gluing_of t) labels count ends gluing labelled).1 in
    over-surface t labels count ends o gluing labelled is ∙ ap (in_order t.faces (gluing_of t)) order
