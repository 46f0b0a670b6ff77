-- How a geometry's points are stored: row after row (this project's choice).
use Rattle.std.specs.Prelude.{ℕ, ◌≡◌, ◌<◌, ◌≤◌, ◌*◌, ℤ, List, length}
use Rattle.attr_heads.specs.declared.heads.Head.{Head}
use Rattle.attr_heads.specs.Head.{width_of}

-- `width` is that of the heads, and the cells are `count` rows
pub record AreStored (heads : List Head) (cells : List ℤ) (width count : ℕ) : Type 0 where
  pub width_is : width ≡ width_of heads
  pub wide : 0 < width
  pub narrow : width ≤ 128
  pub whole : length cells ≡ count * width
