-- Short plain indices: those of at most three bytes, which are read all at once (the limit is this project's choice).
use Rattle.std.specs.Prelude.{◌≡◌, ℕ, ◌≤◌, Ok}
use Rattle.drc_bits.specs.Reading.{Reading, Item, advanced}
use Rattle.seq_section.specs.Indices.{index_at}

-- the item is read here, and takes so many bytes, at most three
pub record IsShort (item : Reading → Item ℕ) (c : Reading) (size : ℕ) : Type 0 where
  pub few : size ≤ 3
  pub value : ℕ
  pub read : item c ≡ Ok (value, advanced size c)

-- a face is read here whose three indices are short: they take i, j and k bytes
pub record IsShortFace (points : ℕ) (c : Reading) : Type 0 where
  pub i : ℕ
  pub j : ℕ
  pub k : ℕ
  pub first : IsShort (index_at points) c i
  pub second : IsShort (index_at points) (advanced i c) j
  pub third : IsShort (index_at points) (advanced j (advanced i c)) k
