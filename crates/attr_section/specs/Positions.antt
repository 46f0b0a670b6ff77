-- The positions that other attributes of a stream are predicted from (Draco 1.5.5, mesh prediction schemes that take a parent attribute;
-- which positions can be used is this project's choice).
use Rattle.std.specs.Prelude.{ℕ, ◌+◌, ◌*◌, ◌==◌, ◌&&◌, Bool, ℤ, pos, List, [], ◌∷◌, map, get_or, Option, None, Some, option_map, is_none, if◌then◌else◌}
use Rattle.attr_heads.specs.declared.heads.Head.{Head}
use Rattle.attr_heads.specs.declared.usages.TheConstants.{POSITION}
use Rattle.corner_table.specs.Sides.{Side, number}
use Rattle.corner_table.specs.Ordered.{Ordered}
use Rattle.wrapped_vectors.specs.declared.places.Place.{Place}
use Rattle.attr_section.specs.declared.values.Values.{Values}

-- positions that were read: three integers for each entry, and the entry of each corner of their surface
pub record Positions : Type 0 where
  pub values : List ℤ
  pub of_corner : List ℕ

-- what has been read of the positions of a stream, which are its first attribute of usage 0: none yet, or one that no other can be
-- predicted from, or one that others can
pub data PositionsRead : Type 0 where
  NotYet : PositionsRead
  Unusable : PositionsRead
  Usable : Positions → PositionsRead

-- whether the integers of a head are the three coordinates of a position
abbrev pub has_coordinates : Head → Bool
has_coordinates h = h.comps == 3 && is_none h.octa

-- an attribute of usage 0 as positions: others can be predicted from it where it has three coordinates, and an entry at each corner
abbrev pub as_positions : Option (List ℕ) → Head → List ℤ → PositionsRead
as_positions None h values = Unusable
as_positions (Some of_corner) h values = if has_coordinates h then Usable (record { values = values; of_corner = of_corner }) else Unusable

-- with one more attribute, with the entry of each corner where there is a surface: the first one of usage 0 stays
abbrev pub with_attribute : PositionsRead → Head → List ℤ → Option (List ℕ) → PositionsRead
with_attribute NotYet h values of_corner = if h.usage == POSITION then as_positions of_corner h values else NotYet
with_attribute Unusable h values of_corner = Unusable
with_attribute (Usable ps) h values of_corner = Usable ps

-- the entry of each corner of a surface, where there is one
abbrev pub entries_on : Option Ordered → Option (List ℕ)
entries_on w = option_map (λ s. s.entries) w

-- with more attributes that stand on one surface, each with its head
abbrev pub with_attributes : Option Ordered → PositionsRead → List Head → List Values → PositionsRead
with_attributes w found [] read = found
with_attributes w found (h ∷ heads) [] = found
with_attributes w found (h ∷ heads) (v ∷ read) = with_attributes w (with_attribute found h v.values (entries_on w)) heads read

-- the positions that others can be predicted from
abbrev pub usable : PositionsRead → Option Positions
usable NotYet = None
usable Unusable = None
usable (Usable ps) = Some ps

-- coordinate j of entry e
abbrev pub coordinate : List ℤ → ℕ → ℕ → ℤ
coordinate values e j = get_or values (3 * e + j) (pos 0)

-- the place of an entry of positions, and of the position at a corner
abbrev pub place_of : List ℤ → ℕ → Place
place_of values e = record { x = coordinate values e 0; y = coordinate values e 1; z = coordinate values e 2 }

abbrev pub place_at : Positions → Side → Place
place_at ps c = place_of ps.values (get_or ps.of_corner (number c) 0)

-- for each entry of a surface the position at its corner
unfoldable pub places_on : Positions → Ordered → List Place
places_on ps w = map (place_at ps) w.corners
