-- Meshes from a number (this project's choice). n is their size. A cell (i, j) of a lattice has the corners a = (i, j),
-- b = (i + 1, j), c = (i, j + 1) and d = (i + 1, j + 1), and the faces a b d and a d c.
use Rattle.std.specs.Prelude.{ℕ, ◌+◌, ◌*◌, ◌-◌, ◌%◌, ◌==◌, ◌&&◌, Bool, ℤ, pos, nat_lt, List, [], ◌∷◌, map, None, if◌then◌else◌}
use Rattle.std.specs.List.{flat_map, range_with_len}
use Rattle.attr_heads.specs.declared.heads.Head.{Head}
use Rattle.mesh_model.specs.Parts.{MeshParts}
use Rattle.drc_gen.specs.declared.kinds.GenKind.{GenKind}
use Rattle.drc_gen.specs.declared.kinds.GenKind.TheVariants.{Grid, Torus, Holes, Fans, Seams}
use Rattle.drc_gen.specs.Draws.{draw}
use Rattle.drc_gen.specs.Lattice.{pairs, pair_number, closed_number_of}

-- the head of positions: three int32
abbrev pub position_head : Head
position_head = record { usage = 0; dtype = 5; comps = 3; normalized = 0; id = 0; quant = None; octa = None }

-- the head of labels: one uint8 of generic use
abbrev pub label_head : Head
label_head = record { usage = 4; dtype = 2; comps = 1; normalized = 0; id = 1; quant = None; octa = None }

-- the heads of each kind
abbrev pub generated_heads : GenKind → List Head
generated_heads Seams = position_head ∷ label_head ∷ []
generated_heads _ = position_head ∷ []

-- a point of a lattice at a height
abbrev pub lattice_point : ℕ → ℕ × ℕ → List ℤ
lattice_point height (i, j) = pos i ∷ pos j ∷ pos height ∷ []

-- the points of a lattice of `side` points each way: the height of each is the draw of its number
abbrev pub lattice_points : ℕ → ℕ → List (List ℤ)
lattice_points seed side = map (λ c. lattice_point (draw seed (pair_number side c)) c) (pairs side)

-- point m of a fan at a height
abbrev pub fan_point : ℕ → ℕ → List ℤ
fan_point height m = pos m ∷ pos (if m == 0 then 0 else 1) ∷ pos height ∷ []

-- a corner of a cell that has its points for itself
abbrev pub patch_point : ℕ → ℕ × ℕ → List ℤ
patch_point label (i, j) = pos i ∷ pos j ∷ pos 0 ∷ pos label ∷ []

-- the four points a, b, c and d of such a cell: all have the label that one draw gives
abbrev pub patch : ℕ → ℕ × ℕ → List (List ℤ)
patch drawn (i, j) =
    let label = drawn % 256 in
    patch_point label (i, j) ∷ patch_point label (i + 1, j) ∷ patch_point label (i, j + 1) ∷ patch_point label (i + 1, j + 1) ∷ []

-- the points of each kind
unfoldable pub generated_points : GenKind → ℕ → ℕ → List (List ℤ)
generated_points Grid n seed = lattice_points seed (n + 1)
generated_points Torus n seed = lattice_points seed n
generated_points Holes n seed = lattice_points seed (n + 1)
generated_points Fans n seed = map (λ m. fan_point (draw seed m) m) (range_with_len 0 (2 * (n * n) + 1))
generated_points Seams n seed = flat_map (λ c. patch (draw seed (pair_number n c)) c) (pairs n)

-- the faces of a cell with these corners
abbrev pub triangles : ℕ → ℕ → ℕ → ℕ → List (List ℕ)
triangles a b c d = (a ∷ b ∷ d ∷ []) ∷ (a ∷ d ∷ c ∷ []) ∷ []

-- the faces of cell (i, j) where the points of a lattice are numbered so
abbrev pub cell_faces : (ℕ × ℕ → ℕ) → ℕ × ℕ → List (List ℕ)
cell_faces number (i, j) = triangles (number (i, j)) (number (i + 1, j)) (number (i, j + 1)) (number (i + 1, j + 1))

-- the cells without faces among n each way: both numbers are odd and below n - 1
abbrev pub is_hole : ℕ → ℕ × ℕ → Bool
is_hole n (i, j) = (i % 2 == 1) && (j % 2 == 1) && nat_lt i (n - 1) && nat_lt j (n - 1)

-- the faces of a cell, or none
abbrev pub faces_but_holes : ℕ → ℕ × ℕ → List (List ℕ)
faces_but_holes n c = if is_hole n c then [] else cell_faces (pair_number (n + 1)) c

-- face k of a fan round point 0
abbrev pub fan_face : ℕ → List ℕ
fan_face k = 0 ∷ (2 * k + 1) ∷ (2 * k + 2) ∷ []

-- the faces of the cell of number k where each has four points for itself
abbrev pub patch_faces : ℕ → List (List ℕ)
patch_faces k = triangles (4 * k) (4 * k + 1) (4 * k + 2) (4 * k + 3)

-- the faces of each kind
unfoldable pub generated_faces : GenKind → ℕ → List (List ℕ)
generated_faces Grid n = flat_map (cell_faces (pair_number (n + 1))) (pairs n)
generated_faces Torus n = flat_map (cell_faces (closed_number_of n)) (pairs n)
generated_faces Holes n = flat_map (faces_but_holes n) (pairs n)
generated_faces Fans n = map fan_face (range_with_len 0 (n * n))
generated_faces Seams n = flat_map (λ c. patch_faces (pair_number n c)) (pairs n)

-- the mesh of a kind, a size and a seed
abbrev pub generated : GenKind → ℕ → ℕ → MeshParts
generated kind n seed = record { heads = generated_heads kind; points = generated_points kind n seed; faces = generated_faces kind n }
