-- What each turn of a walk over draws or cells makes.
use Rattle.std.specs.Prelude.{ℕ, ◌+◌, ◌*◌, ℤ, List, [], ◌∷◌}
use Rattle.drc_gen.specs.declared.kinds.GenKind.{GenKind}
use Rattle.drc_gen.specs.declared.kinds.GenKind.TheVariants.{Grid, Torus, Holes, Fans, Seams}
use Rattle.drc_gen.specs.Lattice.{pair_at, pair_number, closed_number_of}
use Rattle.drc_gen.specs.Generated.{lattice_point, fan_point, patch, cell_faces, faces_but_holes, fan_face, patch_faces}

-- how many draws the points of each kind take
abbrev pub draw_count : GenKind → ℕ → ℕ
draw_count Grid n = (n + 1) * (n + 1)
draw_count Torus n = n * n
draw_count Holes n = (n + 1) * (n + 1)
draw_count Fans n = 2 * (n * n) + 1
draw_count Seams n = n * n

-- the points that draw k makes
abbrev pub points_at : GenKind → ℕ → ℕ → ℕ → List (List ℤ)
points_at Grid n k drawn = lattice_point drawn (pair_at (n + 1) k) ∷ []
points_at Torus n k drawn = lattice_point drawn (pair_at n k) ∷ []
points_at Holes n k drawn = lattice_point drawn (pair_at (n + 1) k) ∷ []
points_at Fans n k drawn = fan_point drawn k ∷ []
points_at Seams n k drawn = patch drawn (pair_at n k)

-- the faces of cell k of n * n
abbrev pub lattice_faces : GenKind → ℕ → ℕ → List (List ℕ)
lattice_faces Grid n k = cell_faces (pair_number (n + 1)) (pair_at n k)
lattice_faces Torus n k = cell_faces (closed_number_of n) (pair_at n k)
lattice_faces Holes n k = faces_but_holes n (pair_at n k)
lattice_faces Fans n k = fan_face k ∷ []
lattice_faces Seams n k = patch_faces k
