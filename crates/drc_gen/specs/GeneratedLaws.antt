-- What holds of generated meshes (this project's choice).
use Rattle.std.specs.Prelude.{ℕ, ◌≡◌, ◌≢◌, ◌<◌, ◌≤◌, ◌+◌, ◌-◌, ◌*◌, ◌/◌, ◌^◌, ℤ, pos, ◌≤ℤ◌, ◌<ℤ◌, List, length, take}
use Rattle.std.specs.List.{All}
use Rattle.mesh_model.specs.Parts.{MeshParts, IsMesh, corner}
use Rattle.drc_gen.specs.declared.kinds.GenKind.{GenKind}
use Rattle.drc_gen.specs.declared.kinds.GenKind.TheVariants.{Grid, Torus, Holes, Fans, Seams}
use Rattle.drc_gen.specs.declared.sizes.TheConstants.{LEAST_SIZE, MOST_SIZE}
use Rattle.drc_gen.specs.Generated.{generated_points, generated_faces, generated}

-- a size that a mesh may have
abbrev pub IsSize : ℕ → Type 0
IsSize n = (LEAST_SIZE ≤ n) × (n ≤ MOST_SIZE)

-- each kind at each size is a mesh
abbrev pub GeneratedIsMesh : Type 0
GeneratedIsMesh = (kind : GenKind) (n seed : ℕ) → IsSize n → IsMesh (generated kind n seed)

-- how many points each kind has
abbrev pub generated_point_count : GenKind → ℕ → ℕ
generated_point_count Grid n = (n + 1) * (n + 1)
generated_point_count Torus n = n * n
generated_point_count Holes n = (n + 1) * (n + 1)
generated_point_count Fans n = 2 * (n * n) + 1
generated_point_count Seams n = 4 * (n * n)

-- each kind has these points, whatever the seed
abbrev pub PointsAreCounted : Type 0
PointsAreCounted = (kind : GenKind) (n seed : ℕ) → length (generated_points kind n seed) ≡ generated_point_count kind n

-- how many faces each kind has: where there are holes, two for each cell but the (n - 1) / 2 each way that are left out
abbrev pub FacesAreCounted : GenKind → ℕ → Type 0
FacesAreCounted Grid n = length (generated_faces Grid n) ≡ 2 * (n * n)
FacesAreCounted Torus n = length (generated_faces Torus n) ≡ 2 * (n * n)
FacesAreCounted Holes n = length (generated_faces Holes n) ≡ 2 * (n * n - (n - 1) / 2 * ((n - 1) / 2))
FacesAreCounted Fans n = length (generated_faces Fans n) ≡ n * n
FacesAreCounted Seams n = length (generated_faces Seams n) ≡ 2 * (n * n)

-- each kind has a face
abbrev pub FacesAreSome : Type 0
FacesAreSome = (kind : GenKind) (n : ℕ) → IsSize n → 0 < length (generated_faces kind n)

-- the position of corner k, modulo 3, of face f: the first three integers of its point
abbrev pub position_of : MeshParts → ℕ → ℕ → List ℤ
position_of m f k = take 3 (corner m f k)

-- no two corners of face f have one position
abbrev pub HasThreePositions : MeshParts → ℕ → Type 0
HasThreePositions m f =
    (position_of m f 0 ≢ position_of m f 1)
    × (position_of m f 1 ≢ position_of m f 2)
    × (position_of m f 2 ≢ position_of m f 0)

-- each face of each kind is so
abbrev pub FacesAreProper : Type 0
FacesAreProper = (kind : GenKind) (n seed f : ℕ) → IsSize n → f < length (generated_faces kind n)
    → HasThreePositions (generated kind n seed) f

-- an integer that has no sign and at most 20 bits
abbrev pub IsSmall : ℤ → Type 0
IsSmall v = (pos 0 ≤ℤ v) × (v <ℤ pos (2 ^ 20))

-- each integer of each point is small
abbrev pub ValuesAreSmall : Type 0
ValuesAreSmall = (kind : GenKind) (n seed : ℕ) → IsSize n → All (λ row. All IsSmall row) (generated_points kind n seed)
