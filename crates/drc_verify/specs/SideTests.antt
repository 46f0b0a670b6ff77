-- Whether the sides of two surfaces are glued alike, as tests (this project's choice).
use Rattle.std.specs.Prelude.{ℕ, Bool, true, false, Option, None, Some}
use Rattle.corner_table.specs.Sides.{Side, same, side_at, Gluing}
use Rattle.drc_verify.specs.Firsts.{first_failing}

-- whether two sides are the partners of one side, or neither is there
abbrev pub same_partner : Option Side → Option Side → Bool
same_partner None None = true
same_partner (Some a) (Some b) = same a b
same_partner None (Some b) = false
same_partner (Some a) None = false

-- whether side number s has the same partner in both, or none in both
abbrev pub is_glued_alike : Gluing → Gluing → ℕ → Bool
is_glued_alike g h s = same_partner (g (side_at s)) (h (side_at s))

-- the first of so many sides that isn't glued alike
abbrev pub first_other : ℕ → Gluing → Gluing → Option ℕ
first_other sides g h = first_failing (is_glued_alike g h) sides
