-- Renumberings as lists: the plain one, one after another, and back (this project's choice).
use Rattle.std.specs.Prelude.{ℕ, ◌≡◌, ◌<◌, ◌+◌, ◌-◌, ◌%◌, ◌==◌, List, [], ◌∷◌, map, length, slice_index, slice_index_or}
use Rattle.std.specs.List.{range_with_len, position_or_len}
use Rattle.mesh_model.specs.Parts.{MeshParts}
use Rattle.mesh_model.specs.Same.{Rows, named, turn}

-- row i names i, with no turn
abbrev pub plain : ℕ → Rows
plain count = map (λ i. (i, 0)) (range_with_len 0 count)

-- first a, then b: what row i of b names is named again by a, and the turns add
abbrev pub composed : Rows → Rows → Rows
composed a b = map (λ row. (named a row.0, (turn a row.0 + row.1) % 3)) b

-- the way back: number f is named by the row of c that names f, and is turned back
abbrev pub inverted : Rows → Rows
inverted c =
    map (λ f. let i = position_or_len (λ row. row.0 == f) c in (i, (3 - turn c i) % 3)) (range_with_len 0 (length c))

-- as many rows as there are numbers, which name numbers below `count`, no two the same, with turns below 3
pub record NamesApart (count : ℕ) (rows : Rows) : Type 0 where
  pub one_each : length rows ≡ count
  pub within : (i : ℕ) → i < count → named rows i < count
  pub turns : (i : ℕ) → i < count → turn rows i < 3
  pub apart : (i j : ℕ) → i < count → j < count → named rows i ≡ named rows j → i ≡ j

-- a face that is turned: its corner k is corner k + turn of the face
abbrev pub turned_face : List ℕ → ℕ → List ℕ
turned_face face turn = slice_index face (turn % 3) ∷ slice_index face ((1 + turn) % 3) ∷ slice_index face ((2 + turn) % 3) ∷ []

-- the mesh with its faces in the order of the rows, each turned as its row says
abbrev pub renumbered : MeshParts → Rows → MeshParts
renumbered m rows = record m { faces = map (λ row. turned_face (slice_index_or m.faces row.0 []) row.1) rows }
