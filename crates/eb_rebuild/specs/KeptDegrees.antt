-- The degrees that a rebuilding by links keeps, if they will be asked for: a number for each free side, the degree of the vertex at
-- which it starts, and what each symbol changes. Sides are given by their numbers. These are the code's own tables, from no source; what
-- a degree is stands in Degree.
use Rattle.std.specs.Prelude.{◌≡◌, ℕ, ◌+◌, ◌*◌, ◌≤◌, Bool, List, [], ◌∷◌, ◌++◌, length, get_or, set}
use Rattle.drc_base.specs.declared.limits.TheConstants.{MAX_FACES}
use Rattle.corner_table.specs.Sides.{Side, side, side_at, next, prev, number}
use Rattle.corner_table.specs.Fans.{Follows}
use Rattle.corner_table.specs.Table.{Table, gluing_of, room_of, IsFreeIn}
use Rattle.eb_machine.specs.declared.beside.Beside.{Beside}
use Rattle.eb_machine.specs.Beside.{glued_place}
use Rattle.eb_machine.specs.Degree.{degree}
use Rattle.eb_machine.specs.Named.{Triangle, Row}
use Rattle.eb_machine.specs.Shown.{AreNames}

-- the list with places for the sides of a face more
abbrev pub with_room : List ℕ → List ℕ
with_room degrees = degrees ++ (2 ∷ 2 ∷ 2 ∷ [])

-- the degree at a side rises
abbrev pub degree_raised : ℕ → ℕ → List ℕ → List ℕ
degree_raised side more degrees = set degrees side (get_or degrees side 0 + more)

-- E: face f has three vertices of its own
abbrev pub after_end : ℕ → List ℕ → List ℕ
after_end f degrees = set (set (set degrees (3 * f) 2) (3 * f + 1) 2) (3 * f + 2) 2

-- L and R: face f is glued to side a, which side na follows round the boundary. The side after the glued one starts where a does, the side
-- before it at the new vertex
abbrev pub after_beside : Beside → ℕ → ℕ → ℕ → List ℕ → List ℕ
after_beside b f a na degrees =
    let more = degree_raised na 1 degrees in
    let glued = side f (glued_place b) in
    set (set more (number (next glued)) (get_or more a 0 + 1)) (number (prev glued)) 2

-- C: face f is glued to a side that side na follows and to side t, which comes before that one
abbrev pub after_tip : ℕ → ℕ → ℕ → List ℕ → List ℕ
after_tip f t na degrees =
    let more = degree_raised na 1 degrees in
    set more (3 * f) (get_or more t 0 + 1)

-- S: face f is glued to sides b and a, which sides nb and na follow. The vertex at which b starts becomes the one at which na starts, and
-- brings its corners
abbrev pub after_split : ℕ → ℕ → ℕ → ℕ → ℕ → List ℕ → List ℕ
after_split f b a nb na degrees =
    let one = degree_raised nb 1 degrees in
    let merged = degree_raised na (get_or one b 0) one in
    set merged (3 * f) (get_or merged a 0 + 1)

-- the numbers kept for the free sides of a table are the degrees; and there are names for its vertices, of which so many were made
pub record KeepsDegrees (table : Table) (made : ℕ) (degrees : List ℕ) : Type 0 where
  pub triangles : List Triangle
  pub rows : List Row
  pub long : length triangles ≡ table.faces
  pub names : AreNames triangles rows (gluing_of table) made
  pub kept : (s : Side) → IsFreeIn table s → get_or degrees (number s) 0 ≡ degree table.faces (gluing_of table) (next s)

-- whether degrees are kept, these, and how many there is room for
pub record DegreesValue : Type 0 where
  pub kept : Bool
  pub list : List ℕ
  pub room : ℕ

-- a degree for each side of so many faces, and room for those of a face more
abbrev pub HasPlaces : ℕ → DegreesValue → Type 0
HasPlaces faces d = (length d.list ≡ 3 * faces) × (3 * faces + 3 ≤ d.room)

-- there are places for the sides of a table and of a face more, and no degree is too great to grow
pub record IsReady (table : Table) (d : DegreesValue) : Type 0 where
  pub places : HasPlaces table.faces d
  pub small : (s : Side) → IsFreeIn table s → get_or d.list (number s) 0 ≤ 3 * MAX_FACES

-- what L and R change, where the next face of a table is glued to side a
abbrev pub NotesBeside : Table → Beside → ℕ → DegreesValue → DegreesValue → Type 0
NotesBeside table b a old new =
    (na : Side) × Follows table.faces (gluing_of table) (side_at a) na
    × (new.list ≡ after_beside b table.faces a (number na) (with_room old.list))

-- what C changes, where it is glued to side a and to side t before that
abbrev pub NotesTip : Table → ℕ → ℕ → DegreesValue → DegreesValue → Type 0
NotesTip table a t old new =
    (na : Side) × Follows table.faces (gluing_of table) (side_at a) na
    × (new.list ≡ after_tip table.faces t (number na) (with_room old.list))

-- what S changes, where it is glued to sides b and a
abbrev pub NotesSplit : Table → ℕ → ℕ → DegreesValue → DegreesValue → Type 0
NotesSplit table b a old new =
    (nb na : Side) × Follows table.faces (gluing_of table) (side_at b) nb × Follows table.faces (gluing_of table) (side_at a) na
    × (new.list ≡ after_split table.faces b a (number nb) (number na) (with_room old.list))

-- the list of a table: as long as it has sides, with room for as many as it has room for, and the degrees
pub record KeepsList (table : Table) (made : ℕ) (d : DegreesValue) : Type 0 where
  pub long : length d.list ≡ 3 * table.faces
  pub room : 3 * room_of table ≤ d.room
  pub keeps : KeepsDegrees table made d.list
