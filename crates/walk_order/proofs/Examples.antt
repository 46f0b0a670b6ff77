-- Worked surfaces, computed: the orders of their classes.
use Rattle.std.proofs.Common.{◌≡◌, ℕ, true, false, Bool, List, [], ◌∷◌, refl}
use Rattle.corner_table.specs.Sides.{first, second, third, side, Gluing}
use Rattle.corner_table.specs.Table.{glued_in, free_entry}
use Rattle.walk_order.specs.Visits.{lacks}
use Rattle.walk_order.specs.DepthFirst.{walk, depth_walked, depth_first_order}
use Rattle.walk_order.specs.PredictionDegree.{take_unvisited, visits, ranked, prediction_degree_order}

-- five faces, of which the two that the first leads to differ in the two orders
five : Gluing
five = glued_in (free_entry ∷ 6 ∷ 3 ∷ 2 ∷ 11 ∷ free_entry ∷ 1 ∷ 12 ∷ 9 ∷ 8 ∷ free_entry ∷ 4 ∷ 7 ∷ free_entry ∷ free_entry ∷ [])

five_labels : List ℕ
five_labels = 0 ∷ 1 ∷ 2 ∷ 3 ∷ 1 ∷ 0 ∷ 4 ∷ 0 ∷ 2 ∷ 3 ∷ 0 ∷ 4 ∷ 5 ∷ 4 ∷ 2 ∷ []

five_ends : List Bool
five_ends = false ∷ true ∷ true ∷ true ∷ true ∷ true ∷ []

five_depth_first : depth_first_order 5 five five_labels five_ends ≡ side 0 second ∷ side 0 third ∷ side 0 first ∷ side 2 first ∷ side 4 first ∷ side 3 first ∷ []
unfolding five five_labels five_ends lacks walk depth_walked
five_depth_first = refl

five_prediction_degree : prediction_degree_order 5 five five_labels 6 ≡ side 0 second ∷ side 0 third ∷ side 0 first ∷ side 2 first ∷ side 3 first ∷ side 4 first ∷ []
unfolding five five_labels lacks take_unvisited visits ranked
five_prediction_degree = refl

-- a tetrahedron
tetrahedron : Gluing
tetrahedron = glued_in (8 ∷ 5 ∷ 10 ∷ 7 ∷ 11 ∷ 1 ∷ 9 ∷ 3 ∷ 0 ∷ 6 ∷ 2 ∷ 4 ∷ [])

tetrahedron_labels : List ℕ
tetrahedron_labels = 0 ∷ 1 ∷ 2 ∷ 0 ∷ 2 ∷ 3 ∷ 2 ∷ 1 ∷ 3 ∷ 0 ∷ 3 ∷ 1 ∷ []

tetrahedron_ends : List Bool
tetrahedron_ends = false ∷ false ∷ false ∷ false ∷ []

tetrahedron_depth_first : depth_first_order 4 tetrahedron tetrahedron_labels tetrahedron_ends ≡ side 0 second ∷ side 0 third ∷ side 0 first ∷ side 1 third ∷ []
unfolding tetrahedron tetrahedron_labels tetrahedron_ends lacks walk depth_walked
tetrahedron_depth_first = refl

tetrahedron_prediction_degree : prediction_degree_order 4 tetrahedron tetrahedron_labels 4 ≡ side 0 second ∷ side 0 third ∷ side 0 first ∷ side 1 third ∷ []
unfolding tetrahedron tetrahedron_labels lacks take_unvisited visits ranked
tetrahedron_prediction_degree = refl

-- a grid of three by three cells
grid : Gluing
grid = glued_in (10 ∷ 5 ∷ free_entry ∷ 20 ∷ free_entry ∷ 1 ∷ 16 ∷ 11 ∷ free_entry ∷ 26 ∷ 0 ∷ 7 ∷ free_entry ∷ 17 ∷ free_entry ∷ 32 ∷ 6 ∷ 13 ∷ 28 ∷ 23 ∷ 3 ∷ 38 ∷ free_entry ∷ 19 ∷ 34 ∷ 29 ∷ 9 ∷ 44 ∷ 18 ∷ 25 ∷ free_entry ∷ 35 ∷ 15 ∷ 50 ∷ 24 ∷ 31 ∷ 46 ∷ 41 ∷ 21 ∷ free_entry ∷ free_entry ∷ 37 ∷ 52 ∷ 47 ∷ 27 ∷ free_entry ∷ 36 ∷ 43 ∷ free_entry ∷ 53 ∷ 33 ∷ free_entry ∷ 42 ∷ 49 ∷ [])

grid_labels : List ℕ
grid_labels = 0 ∷ 1 ∷ 2 ∷ 0 ∷ 2 ∷ 3 ∷ 1 ∷ 4 ∷ 5 ∷ 1 ∷ 5 ∷ 2 ∷ 4 ∷ 6 ∷ 7 ∷ 4 ∷ 7 ∷ 5 ∷ 3 ∷ 2 ∷ 8 ∷ 3 ∷ 8 ∷ 9 ∷ 2 ∷ 5 ∷ 10 ∷ 2 ∷ 10 ∷ 8 ∷ 5 ∷ 7 ∷ 11 ∷ 5 ∷ 11 ∷ 10 ∷ 9 ∷ 8 ∷ 12 ∷ 9 ∷ 12 ∷ 13 ∷ 8 ∷ 10 ∷ 14 ∷ 8 ∷ 14 ∷ 12 ∷ 10 ∷ 11 ∷ 15 ∷ 10 ∷ 15 ∷ 14 ∷ []

grid_ends : List Bool
grid_ends = true ∷ true ∷ false ∷ true ∷ true ∷ false ∷ true ∷ true ∷ false ∷ true ∷ false ∷ true ∷ true ∷ true ∷ true ∷ true ∷ []

grid_depth_first : depth_first_order 18 grid grid_labels grid_ends ≡ side 0 second ∷ side 0 third ∷ side 0 first ∷ side 1 third ∷ side 6 third ∷ side 9 second ∷ side 8 second ∷ side 2 second ∷ side 5 second ∷ side 4 second ∷ side 10 third ∷ side 16 third ∷ side 17 third ∷ side 15 third ∷ side 12 first ∷ side 13 third ∷ []
unfolding grid grid_labels grid_ends lacks walk depth_walked
grid_depth_first = refl

grid_prediction_degree : prediction_degree_order 18 grid grid_labels 16 ≡ side 0 second ∷ side 0 third ∷ side 0 first ∷ side 1 third ∷ side 6 third ∷ side 9 second ∷ side 8 second ∷ side 2 second ∷ side 5 second ∷ side 10 third ∷ side 16 third ∷ side 17 third ∷ side 15 third ∷ side 12 first ∷ side 13 third ∷ side 4 second ∷ []
unfolding grid grid_labels lacks take_unvisited visits ranked
grid_prediction_degree = refl

-- a torus of seven points
torus : Gluing
torus = glued_in (25 ∷ 23 ∷ 36 ∷ 28 ∷ 26 ∷ 39 ∷ 31 ∷ 29 ∷ 21 ∷ 34 ∷ 32 ∷ 24 ∷ 37 ∷ 35 ∷ 27 ∷ 40 ∷ 38 ∷ 30 ∷ 22 ∷ 41 ∷ 33 ∷ 8 ∷ 18 ∷ 1 ∷ 11 ∷ 0 ∷ 4 ∷ 14 ∷ 3 ∷ 7 ∷ 17 ∷ 6 ∷ 10 ∷ 20 ∷ 9 ∷ 13 ∷ 2 ∷ 12 ∷ 16 ∷ 5 ∷ 15 ∷ 19 ∷ [])

torus_labels : List ℕ
torus_labels = 0 ∷ 1 ∷ 2 ∷ 1 ∷ 3 ∷ 4 ∷ 3 ∷ 2 ∷ 5 ∷ 2 ∷ 4 ∷ 6 ∷ 4 ∷ 5 ∷ 0 ∷ 5 ∷ 6 ∷ 1 ∷ 6 ∷ 0 ∷ 3 ∷ 0 ∷ 2 ∷ 3 ∷ 1 ∷ 4 ∷ 2 ∷ 3 ∷ 5 ∷ 4 ∷ 2 ∷ 6 ∷ 5 ∷ 4 ∷ 0 ∷ 6 ∷ 5 ∷ 1 ∷ 0 ∷ 6 ∷ 3 ∷ 1 ∷ []

torus_ends : List Bool
torus_ends = false ∷ false ∷ false ∷ false ∷ false ∷ false ∷ false ∷ []

torus_depth_first : depth_first_order 14 torus torus_labels torus_ends ≡ side 0 second ∷ side 0 third ∷ side 0 first ∷ side 7 third ∷ side 2 third ∷ side 10 second ∷ side 3 second ∷ []
unfolding torus torus_labels torus_ends lacks walk depth_walked
torus_depth_first = refl

torus_prediction_degree : prediction_degree_order 14 torus torus_labels 7 ≡ side 0 second ∷ side 0 third ∷ side 0 first ∷ side 7 third ∷ side 2 third ∷ side 10 second ∷ side 4 first ∷ []
unfolding torus torus_labels lacks take_unvisited visits ranked
torus_prediction_degree = refl

-- no face
nothing : Gluing
nothing = glued_in ([])

nothing_labels : List ℕ
nothing_labels = []

nothing_ends : List Bool
nothing_ends = []

nothing_depth_first : depth_first_order 0 nothing nothing_labels nothing_ends ≡ []
unfolding nothing nothing_labels nothing_ends lacks walk depth_walked
nothing_depth_first = refl

nothing_prediction_degree : prediction_degree_order 0 nothing nothing_labels 0 ≡ []
unfolding nothing nothing_labels lacks take_unvisited visits ranked
nothing_prediction_degree = refl
