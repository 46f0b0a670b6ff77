-- The connectivity of a sequential mesh (Draco Bitstream Specification 2.2, section "Sequential Connectivity"; the limits
-- are this project's choice).
use Rattle.std.specs.Prelude.{◌≡◌, ℕ, ◌*◌, ◌<◌, Bool, ◌==◌, List, [], ◌∷◌, ◌++◌, length, Option, None, Some, Ok, nat_le, nat_lt}
use Rattle.std.specs.Prelude.{if◌then◌else◌, All}
use Rattle.std.specs.List.{flat_map}
use Rattle.drc_base.specs.declared.kinds.Kind.TheVariants as kind
use Rattle.drc_base.specs.Profile.{Profile}
use Rattle.drc_base.specs.Steps.{◌>>=◌}
use Rattle.drc_bits.specs.Reading.{Reading, Item, must, many_at}
use Rattle.drc_bits.specs.Numbers.{number_at}
use Rattle.drc_bits.specs.Varint.{var32_at, spelling}
use Rattle.drc_bits.specs.Bits.{low_bytes}
use Rattle.symbol_coding.specs.Block.{block_at, block_bytes}
use Rattle.seq_section.specs.Packed.{faces_meant, symbols_of}
use Rattle.seq_section.specs.declared.reading.SeqRead.{SeqRead}
use Rattle.seq_section.specs.declared.reading.Opening.{Opening}

-- the coding of the indices: 0 packed, or 1 plain
abbrev pub method_at : Reading → Item ℕ
method_at c = must kind.IndexMethod (λ n. nat_le n 1) (number_at 1) c

-- the opening of the section in a profile: faces, points, and the coding of the indices
unfoldable pub indices_opening_at : Profile → Reading → Item Opening
indices_opening_at p c = do
  faces ← must kind.FaceLimit (λ n. nat_le n p.faces) var32_at c
  points ← must kind.PointLimit (λ n. nat_le n p.points) var32_at faces.1
  method ← method_at points.1
  Ok (record { faces = faces.0; points = points.0; method = method.0 }, method.1)

-- how many bytes a plain index beside so many points has: one below 2^8, two below 2^16, those of a varint (None) below
-- 2^21, else four
abbrev pub index_width : ℕ → Option ℕ
index_width points =
    if nat_lt points 256 then Some 1
    else if nat_lt points 65536 then Some 2
    else if nat_lt points 2097152 then None else Some 4

-- a number of this width
abbrev pub number_of_width : Option ℕ → Reading → Item ℕ
number_of_width None c = var32_at c
number_of_width (Some n) c = number_at n c

-- the bytes of a number of this width
abbrev pub bytes_of_width : Option ℕ → ℕ → List ℕ
bytes_of_width None i = spelling 5 i
bytes_of_width (Some n) i = low_bytes n i

-- an index of a point
abbrev pub index_at : ℕ → Reading → Item ℕ
index_at points c = must kind.IndexRange (λ i. nat_lt i points) (number_of_width (index_width points)) c

-- a face: the indices of its three points
unfoldable pub face_at : ℕ → Reading → Item (List ℕ)
face_at points c = do
  a ← index_at points c
  b ← index_at points a.1
  d ← index_at points b.1
  Ok (a.0 ∷ b.0 ∷ d.0 ∷ [], d.1)

-- faces of packed indices: a block of symbols, and where it begins IndexRange if an index is no point
unfoldable pub packed_at : ℕ → ℕ → Reading → Item (List (List ℕ))
packed_at points faces c = do
  symbols ← block_at (3 * faces) 1 c
  corners ← faces_meant (record { kind = kind.IndexRange; at = c.place }) points symbols.0
  Ok (corners, symbols.1)

-- the faces behind the opening
abbrev pub faces_at : Opening → Reading → Item (List (List ℕ))
faces_at opening c = if opening.method == 0 then packed_at opening.points opening.faces c
    else many_at (face_at opening.points) opening.faces c

-- the section in a profile
unfoldable pub indices_at : Profile → Reading → Item SeqRead
indices_at p c = do
  opening ← indices_opening_at p c
  faces ← faces_at opening.0 opening.1
  Ok (record { faces = faces.0; points = opening.0.points }, faces.1)

-- the bytes of a plain index beside so many points
abbrev pub index_bytes : ℕ → ℕ → List ℕ
index_bytes points i = bytes_of_width (index_width points) i

-- the bytes of a face's plain indices
abbrev pub face_bytes : ℕ → List ℕ → List ℕ
face_bytes points face = flat_map (index_bytes points) face

-- the bytes of the opening
abbrev pub indices_opening_bytes : ℕ → ℕ → ℕ → List ℕ
indices_opening_bytes faces points method = spelling 5 faces ++ spelling 5 points ++ (method ∷ [])

-- the bytes behind the opening: those of a block of symbols, or of each face
abbrev pub faces_bytes : Bool → List (List ℕ) → ℕ → List ℕ
faces_bytes packed faces points = if packed then block_bytes (symbols_of faces) 1 else flat_map (face_bytes points) faces

-- the bytes of the section, with packed or with plain indices
unfoldable pub indices_bytes : Bool → List (List ℕ) → ℕ → List ℕ
indices_bytes packed faces points = indices_opening_bytes (length faces) points (if packed then 0 else 1) ++ faces_bytes packed faces points

-- a face of points: three indices below their number
abbrev pub IsFaceBelow : ℕ → List ℕ → Type 0
IsFaceBelow points face = (length face ≡ 3) × All (λ i. i < points) face
