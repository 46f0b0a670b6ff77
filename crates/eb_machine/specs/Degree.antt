-- The degree of a vertex while a surface is rebuilt, by which the valence coder picks its contexts (Draco Bitstream Specification 2.2,
-- Edgebreaker valence).
use Rattle.std.specs.Prelude.{ℕ, ◌+◌, ◌&&◌, cond, is_none, [], ◌∷◌, count_by}
use Rattle.std.specs.List.{list_any}
use Rattle.corner_table.specs.Sides.{Side, next, Gluing}
use Rattle.corner_table.specs.Fans.{meets, corners_of}
use Rattle.eb_machine.specs.Machine.{State}

-- the number of corners at the vertex of corner c, plus 1 where a free side starts there
abbrev pub degree : ℕ → Gluing → Side → ℕ
degree faces g c =
    count_by (meets faces g c) (corners_of faces)
    + cond (list_any (λ x. is_none (g x) && meets faces g c (next x)) (corners_of faces)) 1 0

-- the degree of the vertex at which the top side starts
abbrev pub top_degree : State → ℕ
top_degree s = elim s.stack [ [] ↦ 0 | a ∷ rest ↦ degree s.built s.glued (next a) ]
