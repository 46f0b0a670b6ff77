-- Which rows are equal to earlier ones, how they are found, and the points that they are. Rows of one bucket
-- are linked, each to the latest before it, and 0 ends a chain, so that a link to row p is p + 1 (this
-- project's choice).
use Rattle.std.specs.Prelude.{ℕ, zero, suc, ◌≡◌, ◌≢◌, ◌<◌, ◌≤◌, ◌+◌, ◌-◌, ◌*◌, [], ℤ, List, length, map, take, slice_index, slice_index_or, All}
use Rattle.std.specs.List.{range_with_len, Contains}
use Rattle.mesh_model.specs.Assembled.{Columns, corner_row, corner_rows, distinct, triple}
use Rattle.mesh_model.specs.Hash.{bucket_of, row_hash}

-- the hashes of the first `count` rows
pub record AreHashes (rows : List (List ℤ)) (count : ℕ) (hashes : List ℕ) : Type 0 where
  pub each : length hashes ≡ count
  pub at : (p : ℕ) → p < count → slice_index hashes p ≡ row_hash (slice_index_or rows p [])

-- the bucket of row p
abbrev pub row_bucket : List (List ℤ) → ℕ → ℕ → ℕ
row_bucket rows mask p = bucket_of mask (row_hash (slice_index_or rows p []))

-- the chain of each of the first `count` rows has every earlier row of its bucket, of mask + 1 buckets
pub record AreChained (rows : List (List ℤ)) (mask count : ℕ) (links : List ℕ) : Type 0 where
  pub back : (p : ℕ) → p < count → slice_index links p ≤ p
  pub same : (p : ℕ) → p < count → 0 < slice_index links p → row_bucket rows mask (slice_index links p - 1) ≡ row_bucket rows mask p
  pub all : (p q : ℕ) → p < count → q < p → row_bucket rows mask q ≡ row_bucket rows mask p → q < slice_index links p

-- the same for some number of buckets
pub record AreChains (rows : List (List ℤ)) (count : ℕ) (links : List ℕ) : Type 0 where
  pub mask : ℕ
  pub linked : AreChained rows mask count links

-- rows by their numbers
abbrev pub rows_at : List (List ℤ) → List ℕ → List (List ℤ)
rows_at rows numbers = map (λ p. slice_index_or rows p []) numbers

-- numbers of the first `count` hashes, among which are all that equal an earlier one
pub record AreKept (hashes : List ℕ) (count : ℕ) (kept : List ℕ) : Type 0 where
  pub within : All (λ p. p < count) kept
  pub all : (p q : ℕ) → p < count → q < p → slice_index hashes q ≡ slice_index hashes p → Contains kept p

-- numbers that rise
abbrev pub AreRising : List ℕ → Type 0
AreRising numbers = (i j : ℕ) → i < j → j < length numbers → slice_index numbers i < slice_index numbers j

-- numbers below `count`, rising, among which are all that pass
pub record ArePassing (Passes : ℕ → Type 0) (count : ℕ) (chosen : List ℕ) : Type 0 where
  pub few : length chosen ≤ count
  pub within : All (λ p. p < count) chosen
  pub rising : AreRising chosen
  pub all : (p : ℕ) → p < count → Passes p → Contains chosen p

-- a hash equals another one of the first `count`
pub record HasEqualHash (hashes : List ℕ) (count p : ℕ) : Type 0 where
  pub other : ℕ
  pub within : other < count
  pub apart : other ≢ p
  pub equal : slice_index hashes other ≡ slice_index hashes p

-- numbers of the first `count` hashes, rising, among which are all that equal another one
abbrev pub AreChosenHashes : List ℕ → ℕ → List ℕ → Type 0
AreChosenHashes hashes count chosen = ArePassing (HasEqualHash hashes count) count chosen

-- a row equals another one of the first `count`
pub record HasEqual (rows : List (List ℤ)) (count p : ℕ) : Type 0 where
  pub other : ℕ
  pub within : other < count
  pub apart : other ≢ p
  pub equal : slice_index_or rows other [] ≡ slice_index_or rows p []

-- numbers of the first `count` rows, rising, among which are all that equal another one
abbrev pub AreChosen : List (List ℤ) → ℕ → List ℕ → Type 0
AreChosen rows count chosen = ArePassing (HasEqual rows count) count chosen

-- a link from row p to an earlier row that is equal; 0 where there is none
pub record IsTwin (rows : List (List ℤ)) (p link : ℕ) : Type 0 where
  pub back : link ≤ p
  pub equal : 0 < link → slice_index_or rows (link - 1) [] ≡ slice_index_or rows p []
  pub none : link ≡ 0 → (q : ℕ) → q < p → slice_index_or rows q [] ≢ slice_index_or rows p []

-- each of the first `count` rows has such a link
abbrev pub AreTwins : List (List ℤ) → ℕ → List ℕ → Type 0
AreTwins rows count links = (p : ℕ) → p < count → IsTwin rows p (slice_index links p)

-- the link to a row that stands at a place among the chosen ones, from the link to that place
abbrev pub spread_link : List ℕ → ℕ → ℕ
spread_link chosen zero = 0
spread_link chosen (suc place) = slice_index chosen place + 1

-- each of the first n chosen rows has its link among those of all rows, and no other row has one
pub record AreSpread (chosen links twins : List ℕ) (n : ℕ) : Type 0 where
  pub at : (j : ℕ) → j < n → slice_index twins (slice_index chosen j) ≡ spread_link chosen (slice_index links j)
  pub other : (p : ℕ) → ((j : ℕ) → j < n → slice_index chosen j ≢ p) → slice_index twins p ≡ 0

-- no two of the first `count` rows are equal
abbrev pub AreUnlike : List (List ℤ) → ℕ → Type 0
AreUnlike rows count = (p q : ℕ) → p < count → q < p → slice_index_or rows q [] ≢ slice_index_or rows p []

-- point p has a row
abbrev pub IsPointOf : List (List ℤ) → List ℤ → ℕ → Type 0
IsPointOf points row p = (p < length points) × (slice_index_or points p [] ≡ row)

-- the points of the first `count` rows, and for each of these rows the number of its point
pub record RowsAreNumbered (rows : List (List ℤ)) (count : ℕ) (numbers : List ℕ) (points : List (List ℤ)) : Type 0 where
  pub distinct_rows : points ≡ distinct (take count rows)
  pub few : length points ≤ count
  pub numbered : (p : ℕ) → p < count → IsPointOf points (slice_index_or rows p []) (slice_index numbers p)

-- the points of the first `count` corners, and for each corner the number of its point
pub record IsNumbering (columns : Columns) (count : ℕ) (numbers : List ℕ) (points : List (List ℤ)) : Type 0 where
  pub distinct_rows : points ≡ distinct (corner_rows columns count)
  pub few : length points ≤ count
  pub each : length numbers ≡ count
  pub numbered : (c : ℕ) → c < count → IsPointOf points (corner_row columns c) (slice_index numbers c)

-- faces of numbered corners
pub record AreNumberedFaces (columns : Columns) (count : ℕ) (faces : List (List ℕ)) (points : List (List ℤ)) : Type 0 where
  pub numbers : List ℕ
  pub numbering : IsNumbering columns (3 * count) numbers points
  pub are : faces ≡ map (triple numbers) (range_with_len 0 count)
