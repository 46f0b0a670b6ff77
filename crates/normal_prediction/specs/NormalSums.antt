-- Sums of normals over the faces round the vertices of entries (Draco 1.5.5, MeshPredictionSchemeGeometricNormalPredictorArea; that sums
-- wrap at 64 bits is this project's choice). The sum goes over the corners that have the entry, so their order doesn't matter.
use Rattle.std.specs.Prelude.{ℕ, zero, suc, ◌+◌, ◌-◌, ◌%◌, ◌<◌, ◌==◌, pos, List, length, slice_index, slice_index_or, if◌then◌else◌, ◌≡◌}
use Rattle.wrapped_vectors.specs.Vectors.{vector, vector_sum, cross, apart, reduced}
use Rattle.wrapped_vectors.specs.declared.places.Place.{Place}
use Rattle.wrapped_vectors.specs.declared.vectors.Vector.{Vector}

-- the corner after corner i in its face, and the corner before it
abbrev pub corner_after : ℕ → ℕ
corner_after i = if i % 3 == 2 then i - 2 else i + 1

abbrev pub corner_before : ℕ → ℕ
corner_before i = if i % 3 == 0 then i + 2 else i - 1

-- the place and the vector of zeros
abbrev pub no_place : Place
no_place = record { x = pos 0; y = pos 0; z = pos 0 }

abbrev pub no_vector : Vector
no_vector = vector (pos 0) (pos 0) (pos 0)

-- the place of an entry, and the vector of an entry
abbrev pub place_at : List Place → ℕ → Place
place_at places i = slice_index_or places i no_place

abbrev pub vector_in : List Vector → ℕ → Vector
vector_in vectors i = slice_index_or vectors i no_vector

-- the place of the entry of a corner
abbrev pub corner_place : List ℕ → List Place → ℕ → Place
corner_place entries places i = place_at places (slice_index entries i)

-- the normal of the face of corner i, as that corner sees it: the cross product of the sides to the corner after and to the one before, by
-- the places of the corners' entries
abbrev pub normal_at : List ℕ → List Place → ℕ → Vector
normal_at entries places i = cross
    (apart (corner_place entries places (corner_after i)) (corner_place entries places i))
    (apart (corner_place entries places (corner_before i)) (corner_place entries places i))

-- the sum of the normals of those of the first n corners that have entry e: whole numbers
unfoldable pub fan_sum : List ℕ → List Place → ℕ → ℕ → Vector
fan_sum entries places e zero = no_vector
fan_sum entries places e (suc n) =
    if slice_index entries n == e then vector_sum (fan_sum entries places e n) (normal_at entries places n) else fan_sum entries places e n

-- the sums of all entries over the first n corners, to 64 bits
abbrev pub AreSums : List ℕ → List Place → List Vector → ℕ → Type 0
AreSums entries places sums n = (e : ℕ) → e < length sums → vector_in sums e ≡ reduced (fan_sum entries places e n)
