-- What a table of sides holds: for each side the number of the side that it is glued to (a corner table, after Rossignac 1999; the
-- entry of a free side is this project's own choice).
use Rattle.std.specs.Prelude.{◌≡◌, ℕ, ◌*◌, ◌/◌, ◌≤◌, cond, eqb, List, length, get_or, Option, Some, None}
use Rattle.drc_base.specs.declared.sides.Side.{Side as NumberedSide}
use Rattle.drc_base.specs.declared.limits.TheConstants.{MAX_FACES}
use Rattle.corner_table.specs.Sides.{Side, side, place_of, number, side_at, Gluing, IsGluing, IsFree}
use Rattle.corner_table.specs.Links.{IsLinked}

-- the side with a number in its face
abbrev pub side_of : NumberedSide → Side
side_of s = side s.face (place_of s.k)

-- the entry of a free side
abbrev pub free_entry : ℕ
free_entry = 4294967295

abbrev pub other_at : ℕ → Option Side
other_at v = cond (eqb v free_entry) None (Some (side_at v))

-- the gluing that a list of entries gives
abbrev pub glued_in : List ℕ → Gluing
glued_in entries x = other_at (get_or entries (number x) free_entry)

-- a table: its number of faces, and an entry for each side that there is room for
pub record Table : Type 0 where
  pub faces : ℕ
  pub entries : List ℕ

-- the gluing of a table
abbrev pub gluing_of : Table → Gluing
gluing_of t = glued_in t.entries

-- how many faces a table has room for
abbrev pub room_of : Table → ℕ
room_of t = length t.entries / 3

-- a free side of a table
abbrev pub IsFreeIn : Table → Side → Type 0
IsFreeIn t x = IsFree t.faces (gluing_of t) x

-- the entries of a table glue sides of its faces
pub record IsSideTable (faces : ℕ) (across : List ℕ) : Type 0 where
  pub limit : length across ≤ 3 * MAX_FACES
  pub whole : length across ≡ 3 * (length across / 3)
  pub fits : 3 * faces ≤ length across
  pub gluing : IsGluing faces (glued_in across)

-- the lists of a table with links fit together: beside the entries stand the links of the boundary, one each for each side of a face
pub record IsLinkedTable (faces : ℕ) (across after before : List ℕ) : Type 0 where
  pub table : IsSideTable faces across
  pub each_after : length after ≡ 3 * faces
  pub each_before : length before ≡ 3 * faces
  pub linked : IsLinked faces (glued_in across) after before
