-- What the values of a stream stand on: orders whose entries have numbers below their count, and heads of squares with two integers a
-- point.
use Rattle.std.specs.Prelude.{ℕ, ◌<◌, IsTrue, length, All, Option, None, Some}
use Rattle.attr_heads.specs.declared.heads.Head.{Head}
use Rattle.attr_heads.specs.Octahedra.{has_coordinates}
use Rattle.predict.specs.declared.orders.Ordered.{Ordered as OrderedTable}

-- each class has an entry of an ordered table
abbrev pub HasEntries : OrderedTable → Type 0
HasEntries t = All (λ (e : ℕ). e < length t.order.now.corner_of_entry) t.order.now.entry_of_class

-- where there is an ordered table, each class has an entry of it
abbrev pub MayHaveEntries : Option OrderedTable → Type 0
MayHaveEntries None = Unit {0}
MayHaveEntries (Some t) = HasEntries t

-- a head with a square has two integers a point
abbrev pub HasCoordinates : Head → Type 0
HasCoordinates h = IsTrue (has_coordinates h.comps h.octa)
