-- The walks over numbers make the lists over cells.
use Rattle.std.proofs.Common.{◌≡◌, ℕ, zero, suc, ◌+◌, ◌*◌, ◌/◌, ◌%◌, ◌^◌, ◌<◌, List, ◌++◌, length, get_or, take, sym, ap, ◌∙◌, add-one, zero-add, arith}
use Rattle.std.specs.Prelude.{map, ℤ}
use Rattle.std.specs.List.{All, flat_map, range_with_len}
use Rattle.std.proofs.lemmas.List.{length-take}
use Rattle.std.proofs.lemmas.List.Concat.{get_or-flat_map, flat_map_single}
use Rattle.std.proofs.lemmas.List.Folds.{flat_map-map}
use Rattle.std.proofs.lemmas.List.FromFn.{fill_by_all, length-range_with_len, get_or-range_with_len, length-map-range_with_len, get_or-map-range_with_len}
use Rattle.std.proofs.lemmas.List.Elements.{All-weaker, All-map, All-same}
use Rattle.std.proofs.lemmas.Nat.{div-add-mod', mod_below, div_below}
use Rattle.mesh_model.specs.Parts.{cells_of}
use Rattle.drc_gen.specs.declared.kinds.GenKind.{GenKind}
use Rattle.drc_gen.specs.declared.kinds.GenKind.TheVariants.{Grid, Torus, Holes, Fans, Seams}
use Rattle.drc_gen.specs.Draws.{draw, state_after, state_behind}
use Rattle.drc_gen.specs.Lattice.{pairs, pair_at, pair_number, closed_number_of}
use Rattle.drc_gen.specs.Generated.{lattice_point, lattice_points, fan_point, patch, generated_points, cell_faces, faces_but_holes, fan_face, patch_faces, generated_faces}
use Rattle.drc_gen.specs.Turns.{draw_count, points_at, lattice_faces}
use Rattle.drc_gen.proofs.Lists.{flat_map-more, cells_of-flat_map, length-pieces, All-range}

-- row j of the pairs
abbrev row : ℕ → ℕ → List (ℕ × ℕ)
row n j = map (λ i. (i, j)) (range_with_len 0 n)

length-row : (n j : ℕ) → length (row n j) ≡ n
length-row n j = length-map-range_with_len (λ (i : ℕ). (i, j)) 0 n

pub length-pairs : (n : ℕ) → length (pairs n) ≡ n * n
unfolding pairs
length-pairs n = length-pieces (row n) n (length-row n) (range_with_len 0 n) ∙ ap (λ m. m * n) (length-range_with_len 0 n)

-- a number below a square is that of a pair
wide-of : (n k : ℕ) → k < n * n → 0 < n
wide-of zero k below = absurd (omega arith)
wide-of (suc n) k below = omega arith

pub pair_at-below : (n k : ℕ) → k < n * n → (k % n < n) × (k / n < n)
pair_at-below n k below = (mod_below k n (wide-of n k below), div_below k n n (wide-of n k below) below)

pub get_or-pairs : (n k : ℕ) → k < n * n → get_or (pairs n) k (0, 0) ≡ pair_at n k
unfolding pairs
get_or-pairs n k below =
    let inside = pair_at-below n k below in
    let rows = range_with_len 0 n in
    let front : length (flat_map (row n) (take (k / n) rows)) ≡ k / n * n =
    length-pieces (row n) n (length-row n) (take (k / n) rows) ∙ ap (λ m. m * n) (omega (arith, inside.1, length-take (k / n) rows, length-range_with_len 0 n)) in
    let place : length (flat_map (row n) (take (k / n) rows)) + k % n ≡ k = omega (arith, front, div-add-mod' k n) in
    let at : get_or rows (k / n) 0 ≡ k / n = get_or-range_with_len 0 n (k / n) 0 inside.1 ∙ zero-add (k / n) in
    ap (λ p. get_or (flat_map (row n) rows) p (0, 0)) (sym place)
    ∙ get_or-flat_map (row n) rows (k / n) (k % n) 0 (0, 0) (omega (arith, inside.1, length-range_with_len 0 n)) (omega (arith, inside.0, length-row n (get_or rows (k / n) 0)))
    ∙ ap (λ j. get_or (row n j) (k % n) (0, 0)) at
    ∙ get_or-map-range_with_len (λ (i : ℕ). (i, k / n)) 0 n (k % n) (k % n) (0, 0) inside.0 (zero-add (k % n))

-- the pairs are those of the numbers below the square
pub pairs-walk : (n : ℕ) → pairs n ≡ map (pair_at n) (range_with_len 0 (n * n))
pairs-walk n = fill_by_all (pair_at n) (pairs n) (n * n) (0, 0) (length-pairs n) (get_or-pairs n)

pub pairs-below : (n : ℕ) → All (λ c. (c.0 < n) × (c.1 < n)) (pairs n)
pairs-below n =
    All-same (λ c. (c.0 < n) × (c.1 < n)) (pairs n) (map (pair_at n) (range_with_len 0 (n * n))) (pairs-walk n)
    (All-map (λ c. (c.0 < n) × (c.1 < n)) (pair_at n) (range_with_len 0 (n * n))
    (All-weaker (λ k. k < n * n) (λ k. (k % n < n) × (k / n < n)) (λ k below. pair_at-below n k below) (range_with_len 0 (n * n)) (All-range (n * n))))

-- pieces over pairs are pieces over numbers
pieces-walk : {A : Type 0} (f : ℕ × ℕ → List A) → (n : ℕ) → flat_map f (pairs n) ≡ flat_map (λ k. f (pair_at n k)) (range_with_len 0 (n * n))
pieces-walk f n = ap (flat_map f) (pairs-walk n) ∙ flat_map-map f (pair_at n) (range_with_len 0 (n * n))

lattice-walk : (seed side : ℕ) → cells_of (lattice_points seed side) ≡ flat_map (λ k. lattice_point (draw seed k) (pair_at side k)) (range_with_len 0 (side * side))
lattice-walk seed side =
    let point : ℕ × ℕ → List ℤ = λ c. lattice_point (draw seed (pair_number side c)) c in
    flat_map-map (λ row. row) point (pairs side) ∙ pieces-walk point side ∙ simp div-add-mod'

patches-walk : (seed n : ℕ) → cells_of (flat_map (λ c. patch (draw seed (pair_number n c)) c) (pairs n)) ≡ flat_map (λ k. cells_of (patch (draw seed k) (pair_at n k))) (range_with_len 0 (n * n))
patches-walk seed n =
    let points : ℕ × ℕ → List (List ℤ) = λ c. patch (draw seed (pair_number n c)) c in
    cells_of-flat_map points (pairs n) ∙ pieces-walk (λ c. cells_of (points c)) n ∙ simp div-add-mod'

-- the points of each kind, turn after turn
pub points-walk : (kind : GenKind) (n seed : ℕ) → cells_of (generated_points kind n seed) ≡ flat_map (λ k. cells_of (points_at kind n k (draw seed k))) (range_with_len 0 (draw_count kind n))
unfolding generated_points
points-walk Grid n seed = lattice-walk seed (n + 1)
points-walk Torus n seed = lattice-walk seed n
points-walk Holes n seed = lattice-walk seed (n + 1)
points-walk Fans n seed = flat_map-map (λ row. row) (λ m. fan_point (draw seed m) m) (range_with_len 0 (2 * (n * n) + 1))
points-walk Seams n seed = patches-walk seed n

-- the faces of each kind, turn after turn
pub faces-walk : (kind : GenKind) (n : ℕ) → generated_faces kind n ≡ flat_map (lattice_faces kind n) (range_with_len 0 (n * n))
unfolding generated_faces
faces-walk Grid n = pieces-walk (cell_faces (pair_number (n + 1))) n
faces-walk Torus n = pieces-walk (cell_faces (closed_number_of n)) n
faces-walk Holes n = pieces-walk (faces_but_holes n) n
faces-walk Fans n = sym (flat_map_single fan_face (range_with_len 0 (n * n)))
faces-walk Seams n = pieces-walk (λ c. patch_faces (pair_number n c)) n ∙ simp div-add-mod'

-- one more draw
pub state-more : (seed k before after : ℕ) → before ≡ state_after seed k → after ≡ state_behind before → after ≡ state_after seed (k + 1)
unfolding state_after
state-more seed k before after is next = rw add-one (next ∙ ap state_behind is)

pub drawn-is : (seed k before after drawn : ℕ) → before ≡ state_after seed k → after ≡ state_behind before → drawn ≡ after / 2 ^ 54 → drawn ≡ draw seed k
unfolding draw
drawn-is seed k before after drawn is next value = value ∙ ap (λ s. s / 2 ^ 54) (state-more seed k before after is next)

pub draw-small : (seed k : ℕ) → draw seed k < 1024
unfolding draw state_after
draw-small seed k = rw add-one (omega arith)

-- the points of the turns so far, and those of one more
pub cells-more : (kind : GenKind) (n seed k before after drawn : ℕ) (old new : List ℤ) → new ≡ old ++ cells_of (points_at kind n k drawn) → old ≡ flat_map (λ k. cells_of (points_at kind n k (draw seed k))) (range_with_len 0 k) → before ≡ state_after seed k → after ≡ state_behind before → drawn ≡ after / 2 ^ 54 → new ≡ flat_map (λ k. cells_of (points_at kind n k (draw seed k))) (range_with_len 0 (k + 1))
cells-more kind n seed k before after drawn old new pushed made is next value =
    let turn : ℕ → List ℤ = λ k. cells_of (points_at kind n k (draw seed k)) in
    pushed
    ∙ ap (λ d. old ++ cells_of (points_at kind n k d)) (drawn-is seed k before after drawn is next value)
    ∙ ap (λ xs. xs ++ turn k) made
    ∙ sym (flat_map-more turn k)

-- all points
pub cells-all : (kind : GenKind) (n seed k turns : ℕ) (cells : List ℤ) → cells ≡ flat_map (λ k. cells_of (points_at kind n k (draw seed k))) (range_with_len 0 k) → k ≡ turns → turns ≡ draw_count kind n → cells ≡ cells_of (generated_points kind n seed)
cells-all kind n seed k turns cells made at count =
    made
    ∙ ap (λ m. flat_map (λ k. cells_of (points_at kind n k (draw seed k))) (range_with_len 0 m)) (at ∙ count)
    ∙ sym (points-walk kind n seed)

-- the faces of the cells so far, and those of one more
pub faces-more : (kind : GenKind) (n k : ℕ) (old new : List (List ℕ)) → new ≡ old ++ lattice_faces kind n k → old ≡ flat_map (lattice_faces kind n) (range_with_len 0 k) → new ≡ flat_map (lattice_faces kind n) (range_with_len 0 (k + 1))
faces-more kind n k old new pushed made = pushed ∙ ap (λ xs. xs ++ lattice_faces kind n k) made ∙ sym (flat_map-more (lattice_faces kind n) k)

-- all faces
pub faces-all : (kind : GenKind) (n k : ℕ) (faces : List (List ℕ)) → faces ≡ flat_map (lattice_faces kind n) (range_with_len 0 k) → k ≡ n * n → faces ≡ generated_faces kind n
faces-all kind n k faces made at = made ∙ ap (λ m. flat_map (lattice_faces kind n) (range_with_len 0 m)) at ∙ sym (faces-walk kind n)
