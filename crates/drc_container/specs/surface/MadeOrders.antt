-- The orders of a surface's entries that were made (Draco Bitstream Specification 2.2, attribute traversal; that each is made
-- once is this project's choice).
use Rattle.std.specs.Prelude.{◌≡◌, ℕ, ◌<◌, ◌^◌, Bool, true, false, List, length, IfSome}
use Rattle.corner_table.specs.declared.corner_lists.Order.{Order}
use Rattle.corner_table.specs.Ordered.{ordered, IsOrdered}
use Rattle.corner_table.specs.Table.{Table, gluing_of}
use Rattle.walk_order.specs.Orders.{IsOrderOver}
use Rattle.drc_container.specs.declared.surface.made_orders.MadeOrders.{MadeOrders}
use Rattle.drc_container.specs.reading.OnSurface.{ordered_by}

-- an order of a table's entries, whose corners have these classes: by prediction degree, or depth first
pub record IsOrderBy (t : Table) (labels : List ℕ) (degree : Bool) (o : Order) : Type 0 where
  pub ordered : ordered t labels o ≡ ordered_by degree t.faces (gluing_of t)
  pub over : IsOrderOver t.faces labels o
  pub is : IsOrdered t labels o
  pub few : length o.corner_of_entry < 2 ^ 32

-- each order that was made is that of its walk
pub record AreOrders (t : Table) (labels : List ℕ) (made : MadeOrders) : Type 0 where
  pub depth_first : IfSome made.depth_first (IsOrderBy t labels false)
  pub by_degree : IfSome made.by_degree (IsOrderBy t labels true)
