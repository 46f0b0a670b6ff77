-- Bytes that an item reads back, whatever follows them (this project's choice).
use Rattle.std.specs.Prelude.{◌≡◌, ℕ, ◌+◌, List, ◌++◌, length, Ok}
use Rattle.drc_bits.specs.Reading.{Reading, Item}

-- these bytes, wherever they begin and whatever follows them, are an item of this value, and it takes exactly them
pub record Spells {A : Type 0} (item : Reading → Item A) (bytes : List ℕ) (x : A) : Type 0 where
  pub reads : (place : ℕ) (rest : List ℕ)
      → item (record { place = place; rest = bytes ++ rest }) ≡ Ok (x, record { place = place + length bytes; rest = rest })
