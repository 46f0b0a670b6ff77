-- When a row of a renumbering is right (this project's choice): as a relation, and as tests, of which the laws say that they decide it.
use Rattle.std.specs.Prelude.{◌≡◌, ℕ, ◌+◌, ◌<◌, ◌==◌, ◌&&◌, Bool, not, false, nat_lt, List, [], length, take}
use Rattle.std.specs.Prelude.{slice_index_or}
use Rattle.std.specs.List.{list_any}
use Rattle.mesh_model.specs.Parts.{MeshParts, CloudParts, corner}
use Rattle.mesh_model.specs.Same.{Rows, named, turn, SameFace, SameCloudPoint}
use Rattle.mesh_model.specs.Assembled.{same_row}

-- row i names one of so many numbers, and no earlier row names it
abbrev pub NamesNew : ℕ → Rows → ℕ → Type 0
NamesNew count rows i = (named rows i < count) × ((j : ℕ) → j < i → named rows j ≡ named rows i → ⊥)

-- row i of a mesh is right: face i of n is the face of m that it names, turned as it says, and no earlier row names that face
abbrev pub FaceIsRight : MeshParts → MeshParts → Rows → ℕ → Type 0
FaceIsRight m n rows i = NamesNew (length m.faces) rows i × SameFace m n i (named rows i) (turn rows i)

-- row i of a cloud is right: point i of n is the point of m that it names, its turn is 0, and no earlier row names that point
abbrev pub PointIsRight : CloudParts → CloudParts → Rows → ℕ → Type 0
PointIsRight m n rows i = NamesNew (length m.points) rows i × SameCloudPoint m n i (named rows i) (turn rows i)

-- the same as tests
unfoldable pub names_new : ℕ → Rows → ℕ → Bool
names_new count rows i = nat_lt (named rows i) count && not (list_any (λ row. row.0 == named rows i) (take i rows))

-- corner k of face i of n has the integers of corner k + turn of face f of m
abbrev pub same_corner : MeshParts → MeshParts → ℕ → ℕ → ℕ → ℕ → Bool
same_corner m n i f turn k = same_row (corner n i k) (corner m f (k + turn))

unfoldable pub same_face : MeshParts → MeshParts → ℕ → ℕ → ℕ → Bool
same_face m n i f turn = nat_lt turn 3 && same_corner m n i f turn 0 && same_corner m n i f turn 1 && same_corner m n i f turn 2

unfoldable pub same_point : CloudParts → CloudParts → ℕ → ℕ → ℕ → Bool
same_point m n i p turn = turn == 0 && same_row (slice_index_or n.points i []) (slice_index_or m.points p [])

abbrev pub face_is_right : MeshParts → MeshParts → Rows → ℕ → Bool
face_is_right m n rows i = names_new (length m.faces) rows i && same_face m n i (named rows i) (turn rows i)

abbrev pub point_is_right : CloudParts → CloudParts → Rows → ℕ → Bool
point_is_right m n rows i = names_new (length m.points) rows i && same_point m n i (named rows i) (turn rows i)

-- a number is marked exactly where one of the first i rows names it. This is the code's own word, for a step of its pass
pub record AreSeen (rows : Rows) (i : ℕ) (seen : List Bool) : Type 0 where
  pub at : (f : ℕ) → f < length seen → slice_index_or seen f false ≡ list_any (λ row. row.0 == f) (take i rows)
