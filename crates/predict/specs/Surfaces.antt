-- The surface that values stand on, where they stand on one: there is none in a sequential stream (a corner table, after Rossignac 1999).
use Rattle.std.specs.Prelude.{◌≡◌, ℕ, ◌*◌, Bool, true, false, [], length, Option, Some, None, option_map}
use Rattle.corner_table.specs.Ordered.{Ordered, ordered, IsOrdered}
use Rattle.predict.specs.Schemes.{facts}
use Rattle.predict.specs.declared.schemes.Prediction.{Prediction}
use Rattle.predict.specs.declared.orders.Ordered.{Ordered as OrderedTable}

-- the surface of a table, the classes of its corners and an order over them
abbrev pub surface : OrderedTable → Ordered
surface t = ordered t.sides.now t.classes.now.of_corner t.order.now

-- an ordered surface, where there is one
abbrev pub surface_of : Option OrderedTable → Option Ordered
surface_of on = option_map surface on

-- a surface, where there is one, else that of no face
abbrev pub surface_or : Option Ordered → Ordered
surface_or None = record { gluing = λ _. None; corners = []; entries = [] }
surface_or (Some w) = w

-- whether a prediction needs a surface where there is none
abbrev pub lacks_surface : Prediction → Option Ordered → Bool
lacks_surface q None = (facts q).needs_surface
lacks_surface q (Some w) = false

-- an ordered surface over its table
abbrev pub IsOverTable : OrderedTable → Type 0
IsOverTable t = IsOrdered t.sides.now t.classes.now.of_corner t.order.now

-- an ordered surface over its table, of so many entries
pub record IsOrderedOf (entries : ℕ) (t : OrderedTable) : Type 0 where
  pub over : IsOverTable t
  pub each_entry : entries ≡ length t.order.now.corner_of_entry

-- where there is an ordered surface, it is one over its table, of so many entries
abbrev pub MayBeOrderedOf : ℕ → Option OrderedTable → Type 0
MayBeOrderedOf entries None = Unit {0}
MayBeOrderedOf entries (Some t) = IsOrderedOf entries t

-- where there is an ordered surface, it is one over its table
abbrev pub MayBeOver : Option OrderedTable → Type 0
MayBeOver None = Unit {0}
MayBeOver (Some t) = IsOverTable t

-- there is a surface, and n values of so many components are those of its entries
abbrev pub Stand : Option Ordered → ℕ → ℕ → Type 0
Stand None comps n = ⊥
Stand (Some w) comps n = n ≡ length w.corners * comps

-- n values of so many components stand on a surface, where their prediction needs one
pub record CanStand (q : Prediction) (w : Option Ordered) (comps n : ℕ) : Type 0 where
  pub stand : (facts q).needs_surface ≡ true → Stand w comps n
