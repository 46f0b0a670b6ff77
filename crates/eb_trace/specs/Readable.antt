-- What a table and a word of symbols have to be for reverse decoding to read the table from the word: facts of one face each, where face i
-- is that of symbol i in the order of decoding, turned so that the walk's corner is corner 0 (the symbols: Rossignac 1999; the record of
-- facts: this project's choice).
use Rattle.std.specs.Prelude.{◌≡◌, ◌≢◌, ℕ, suc, ◌<◌, ◌≤◌, Some}
use Rattle.corner_table.specs.declared.symbols.Symbol.{Symbol}
use Rattle.corner_table.specs.declared.symbols.Symbol.TheVariants.{C, S, L, R, E}
use Rattle.corner_table.specs.Sides.{Side, Place, first, second, third, side, Gluing, IsGluing}
use Rattle.corner_table.specs.Prefixes.{IsSurrounded}

-- what lies across a side is missing, or of a later face: in the order of the walk, it was visited before
abbrev pub IsPast : Gluing → Side → Type 0
IsPast g x = (y : Side) → g x ≡ Some y → x.face < y.face

-- the walk went on across a side: it is glued to side 0 of the face before
pub record GoesOn (g : Gluing) (x : Side) : Type 0 where
  pub before : ℕ
  pub is_before : x.face ≡ suc before
  pub onto : g x ≡ Some (side before first)

-- the corner kept last is taken first: each face between the two was entered from a face below m
abbrev pub IsKeptLast : Gluing → ℕ → ℕ → Type 0
IsKeptLast g m kept = (j : ℕ) → kept < j → suc j < m → (z : Side) × (g (side j first) ≡ Some z) × (z.face < m)

-- the tip is a new vertex: its ring was unvisited, and the face across side 2 isn't entered there
pub record IsNewTip (g : Gluing) (i : ℕ) : Type 0 where
  pub right : GoesOn g (side i second)
  pub ring : IsSurrounded g i (side i first)
  pub left : (y : Side) → g (side i third) ≡ Some y → y.place ≢ first

-- the walk splits: both other faces are unvisited, and the tip isn't new: it is on a boundary, or a visited face has it
pub record IsSplit (g : Gluing) (i : ℕ) : Type 0 where
  pub right : GoesOn g (side i second)
  pub met : IsSurrounded g i (side i first) → ⊥
  pub across : Side
  pub left : g (side i third) ≡ Some across
  pub below : across.face < i
  pub kept_last : across.place ≡ first → IsKeptLast g i across.face

-- what each symbol says of its face
abbrev pub Says : Gluing → ℕ → Symbol → Type 0
Says g i C = IsNewTip g i
Says g i S = IsSplit g i
Says g i L = GoesOn g (side i second) × IsPast g (side i third)
Says g i R = IsPast g (side i second) × GoesOn g (side i third)
Says g i E = IsPast g (side i second) × IsPast g (side i third)

-- the faces from number n on are interior start faces: the run of each starts across its side 0, and its three fans are rings of faces
-- below n
pub record IsInterior (g : Gluing) (n f : ℕ) : Type 0 where
  pub run : ℕ
  pub is_run : run < n
  pub begins : g (side f first) ≡ Some (side run first)
  pub rings : (k : Place) → IsSurrounded g n (side f k)

-- a table that reverse decoding reads from a word of n symbols
pub record IsReadable (faces : ℕ) (g : Gluing) (n : ℕ) (word : ℕ → Symbol) : Type 0 where
  pub gluing : IsGluing faces g
  pub fewer : n ≤ faces
  -- each face was entered by its side 0: what lies across that is missing, or was visited before
  pub entered : (i : ℕ) → i < n → IsPast g (side i first)
  pub symbols : (i : ℕ) → i < n → Says g i (word i)
  -- interior start faces, and that a run begins across side 0 of one of them
  pub interior : (f : ℕ) → n ≤ f → f < faces → IsInterior g n f
  pub starts : (j : ℕ) (y : Side) → j < n → g (side j first) ≡ Some y → n ≤ y.face → y.place ≡ first
  -- their runs: a later start face has the run of a lesser face
  pub order : (e f i j : ℕ) → n ≤ e → e < f → g (side e first) ≡ Some (side i first) → g (side f first) ≡ Some (side j first) → j < i
