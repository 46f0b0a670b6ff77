-- Generated meshes are meshes.
use Rattle.std.proofs.Common.{◌≡◌, ℕ, zero, suc, ◌+◌, ◌*◌, ◌%◌, ◌^◌, ◌<◌, ◌≤◌, Bool, true, false, cond, eqb, leb, List, [], ◌∷◌, length, get_or, Option, None, Some, Ok, ℤ, pos, refl, sym, ap, ◌∙◌, subst, ◌&&◌, arith}
use Rattle.std.specs.List.{All, range_with_len}
use Rattle.std.proofs.lemmas.Bool.{le-leb}
use Rattle.std.proofs.lemmas.List.{length-map}
use Rattle.std.proofs.lemmas.List.FromFn.{length-range_with_len}
use Rattle.std.proofs.lemmas.List.Elements.{All-nil, All-cons, All-map, All-weaker}
use Rattle.std.proofs.lemmas.Nat.{mul-le, mul-add-lt, mod_below}
use Rattle.drc_base.specs.declared.faults.Fault.{Fault}
use Rattle.attr_heads.specs.declared.heads.Head.{Head}
use Rattle.attr_heads.specs.FirstFault.{value_unless}
use Rattle.attr_heads.specs.Bounds.{in_bounds, no_bounds, type_bounds}
use Rattle.attr_heads.specs.Head.{heads_fault, row_bounds, width_of}
use Rattle.mesh_model.specs.Parts.{MeshParts, RowFits, IsFaceOf, IsMesh, AreRows, cells_of, mesh_fault, range_fault, rows_of}
use Rattle.mesh_model.proofs.Made.{mesh_of-IsMesh, AreRows-cells_of, range_fault-cells_of}
use Rattle.drc_gen.specs.declared.kinds.GenKind.{GenKind}
use Rattle.drc_gen.specs.declared.kinds.GenKind.TheVariants.{Grid, Torus, Holes, Fans, Seams}
use Rattle.drc_gen.specs.Draws.{draw}
use Rattle.drc_gen.specs.Lattice.{pairs, pair_number, closed_number_of}
use Rattle.drc_gen.specs.Generated.{position_head, label_head, generated_heads, lattice_point, lattice_points, fan_point, patch_point, patch, generated_points, triangles, cell_faces, is_hole, faces_but_holes, fan_face, patch_faces, generated_faces, generated}
use Rattle.drc_gen.specs.GeneratedLaws.{IsSize, GeneratedIsMesh, generated_point_count, PointsAreCounted, FacesAreCounted}
use Rattle.drc_gen.proofs.Lists.{length-pieces, All-flat_map, All-range}
use Rattle.drc_gen.proofs.Holes.{length-holes}
use Rattle.drc_gen.proofs.Walks.{length-pairs, pairs-below, draw-small}

-- how many points there are
pub length-points : PointsAreCounted
unfolding generated_points
length-points Grid n seed = length-map (pairs (n + 1)) (λ c. lattice_point (draw seed (pair_number (n + 1) c)) c) ∙ length-pairs (n + 1)
length-points Torus n seed = length-map (pairs n) (λ c. lattice_point (draw seed (pair_number n c)) c) ∙ length-pairs n
length-points Holes n seed = length-map (pairs (n + 1)) (λ c. lattice_point (draw seed (pair_number (n + 1) c)) c) ∙ length-pairs (n + 1)
length-points Fans n seed =
    length-map (range_with_len 0 (2 * (n * n) + 1)) (λ m. fan_point (draw seed m) m) ∙ length-range_with_len 0 (2 * (n * n) + 1)
length-points Seams n seed =
    length-pieces (λ c. patch (draw seed (pair_number n c)) c) 4 (λ c. refl) (pairs n) ∙ omega (arith, length-pairs n)

-- how many faces there are
pub length-faces : (kind : GenKind) (n : ℕ) → FacesAreCounted kind n
unfolding generated_faces
length-faces Grid n = length-pieces (cell_faces (pair_number (n + 1))) 2 (λ c. refl) (pairs n) ∙ omega (arith, length-pairs n)
length-faces Torus n = length-pieces (cell_faces (closed_number_of n)) 2 (λ c. refl) (pairs n) ∙ omega (arith, length-pairs n)
length-faces Holes n = length-holes n
length-faces Fans n = length-map (range_with_len 0 (n * n)) fan_face ∙ length-range_with_len 0 (n * n)
length-faces Seams n = length-pieces (λ c. patch_faces (pair_number n c)) 2 (λ c. refl) (pairs n) ∙ omega (arith, length-pairs n)

-- the square of a size
square : (n : ℕ) → n ≤ 512 → n * n ≤ 262144
square n most = omega (arith, mul-le n n 512 512 most most)

square-more : (n : ℕ) → n ≤ 512 → (n + 1) * (n + 1) ≤ 263169
square-more n most = omega (arith, mul-le (n + 1) (n + 1) 513 513 (omega arith) (omega arith))

few-points : (kind : GenKind) (n : ℕ) → n ≤ 512 → generated_point_count kind n ≤ 1048576
few-points Grid n most = omega (arith, square-more n most)
few-points Torus n most = omega (arith, square n most)
few-points Holes n most = omega (arith, square-more n most)
few-points Fans n most = omega (arith, square n most)
few-points Seams n most = omega (arith, square n most)

pub few-faces : (kind : GenKind) (n : ℕ) → n ≤ 512 → length (generated_faces kind n) ≤ 524288
few-faces Grid n most = omega (arith, square n most, length-faces Grid n)
few-faces Torus n most = omega (arith, square n most, length-faces Torus n)
few-faces Holes n most = omega (arith, square n most, length-faces Holes n)
few-faces Fans n most = omega (arith, square n most, length-faces Fans n)
few-faces Seams n most = omega (arith, square n most, length-faces Seams n)

-- the heads pass
heads-pass : (kind : GenKind) → heads_fault (generated_heads kind) ≡ None
unfolding heads_fault
heads-pass Grid = refl
heads-pass Torus = refl
heads-pass Holes = refl
heads-pass Fans = refl
heads-pass Seams = refl

pub narrow : (kind : GenKind) → width_of (generated_heads kind) ≤ 4
narrow Grid = omega arith
narrow Torus = omega arith
narrow Holes = omega arith
narrow Fans = omega arith
narrow Seams = omega arith

-- a natural number is an int32, and a label an uint8
int32-fits : (x : ℕ) → x < 2 ^ 31 → in_bounds (type_bounds 5) (pos x) ≡ true
unfolding in_bounds
int32-fits x small = le-leb x 2147483647 (omega arith)

uint8-fits : (x : ℕ) → x < 256 → in_bounds (type_bounds 2) (pos x) ≡ true
unfolding in_bounds
uint8-fits x small = ap (λ b. b && leb x 255) (le-leb 0 x (omega arith)) ∙ le-leb x 255 (omega arith)

position-at : (x y z : ℕ) → x < 2 ^ 31 → y < 2 ^ 31 → z < 2 ^ 31 → (j : ℕ) → j < 3 → in_bounds (get_or (row_bounds (position_head ∷ [])) j no_bounds) (get_or (pos x ∷ pos y ∷ pos z ∷ []) j (pos 0)) ≡ true
position-at x y z hx hy hz zero below = int32-fits x hx
position-at x y z hx hy hz (suc zero) below = int32-fits y hy
position-at x y z hx hy hz (suc (suc zero)) below = int32-fits z hz
position-at x y z hx hy hz (suc (suc (suc j))) below = absurd (omega arith)

position-fits : (x y z : ℕ) → x < 2 ^ 31 → y < 2 ^ 31 → z < 2 ^ 31 → RowFits (position_head ∷ []) (pos x ∷ pos y ∷ pos z ∷ [])
position-fits x y z hx hy hz = (refl, position-at x y z hx hy hz)

patch-at : (x y z : ℕ) → x < 2 ^ 31 → y < 2 ^ 31 → z < 256 → (j : ℕ) → j < 4 → in_bounds (get_or (row_bounds (position_head ∷ label_head ∷ [])) j no_bounds) (get_or (pos x ∷ pos y ∷ pos 0 ∷ pos z ∷ []) j (pos 0)) ≡ true
patch-at x y z hx hy hz zero below = int32-fits x hx
patch-at x y z hx hy hz (suc zero) below = int32-fits y hy
patch-at x y z hx hy hz (suc (suc zero)) below = int32-fits 0 (omega arith)
patch-at x y z hx hy hz (suc (suc (suc zero))) below = uint8-fits z hz
patch-at x y z hx hy hz (suc (suc (suc (suc j)))) below = absurd (omega arith)

patch-fits : (x y z : ℕ) → x < 2 ^ 31 → y < 2 ^ 31 → z < 256 → RowFits (position_head ∷ label_head ∷ []) (patch_point z (x, y))
patch-fits x y z hx hy hz = (refl, patch-at x y z hx hy hz)

-- each point fits the heads
lattice-fits : (seed side : ℕ) → side ≤ 513 → All (RowFits (position_head ∷ [])) (lattice_points seed side)
lattice-fits seed side most =
    let point : ℕ × ℕ → List ℤ = λ c. lattice_point (draw seed (pair_number side c)) c in
    All-map (RowFits (position_head ∷ [])) point (pairs side)
    (All-weaker (λ c. (c.0 < side) × (c.1 < side)) (λ c. RowFits (position_head ∷ []) (point c))
    (λ c b. position-fits c.0 c.1 (draw seed (pair_number side c)) (omega (arith, b.0)) (omega (arith, b.1)) (omega (arith, draw-small seed (pair_number side c))))
    (pairs side) (pairs-below side))

away-small : (b : Bool) → cond b 0 1 < 2 ^ 31
away-small true = omega arith
away-small false = omega arith

patches-fit : (drawn : ℕ) (c : ℕ × ℕ) → c.0 < 512 → c.1 < 512 → All (RowFits (position_head ∷ label_head ∷ [])) (patch drawn c)
patches-fit drawn (i, j) hi hj =
    let z = drawn % 256 in
    let small : z < 256 = mod_below drawn 256 (omega arith) in
    let Fits : List ℤ → Type 0 = RowFits (position_head ∷ label_head ∷ []) in
    let p = patch_point z (i, j) in
    let q = patch_point z (i + 1, j) in
    let r = patch_point z (i, j + 1) in
    let s = patch_point z (i + 1, j + 1) in
    All-cons Fits p (q ∷ r ∷ s ∷ []) (patch-fits i j z (omega arith) (omega arith) small)
    (All-cons Fits q (r ∷ s ∷ []) (patch-fits (i + 1) j z (omega arith) (omega arith) small)
    (All-cons Fits r (s ∷ []) (patch-fits i (j + 1) z (omega arith) (omega arith) small)
    (All-cons Fits s [] (patch-fits (i + 1) (j + 1) z (omega arith) (omega arith) small) (All-nil Fits))))

points-fit : (kind : GenKind) (n seed : ℕ) → n ≤ 512 → All (RowFits (generated_heads kind)) (generated_points kind n seed)
unfolding generated_points
points-fit Grid n seed most = lattice-fits seed (n + 1) (omega arith)
points-fit Torus n seed most = lattice-fits seed n (omega arith)
points-fit Holes n seed most = lattice-fits seed (n + 1) (omega arith)
points-fit Fans n seed most =
    let many = 2 * (n * n) + 1 in
    let point : ℕ → List ℤ = λ m. fan_point (draw seed m) m in
    All-map (RowFits (position_head ∷ [])) point (range_with_len 0 many)
    (All-weaker (λ m. m < many) (λ m. RowFits (position_head ∷ []) (point m))
    (λ m b. position-fits m (cond (eqb m 0) 0 1) (draw seed m) (omega (arith, b, square n most)) (away-small (eqb m 0)) (omega (arith, draw-small seed m)))
    (range_with_len 0 many) (All-range many))
points-fit Seams n seed most =
    All-flat_map (λ c. (c.0 < n) × (c.1 < n)) (RowFits (position_head ∷ label_head ∷ [])) (λ c. patch (draw seed (pair_number n c)) c)
    (λ c b. patches-fit (draw seed (pair_number n c)) c (omega (arith, b.0)) (omega (arith, b.1)))
    (pairs n) (pairs-below n)

-- faces of points
face-of : (many a b c : ℕ) → a < many → b < many → c < many → IsFaceOf many (a ∷ b ∷ c ∷ [])
face-of many a b c ha hb hc =
    let Below : ℕ → Type 0 = λ p. p < many in
    (refl, All-cons Below a (b ∷ c ∷ []) ha (All-cons Below b (c ∷ []) hb (All-cons Below c [] hc (All-nil Below))))

triangles-of : (many a b c d : ℕ) → a < many → b < many → c < many → d < many → All (IsFaceOf many) (triangles a b c d)
triangles-of many a b c d ha hb hc hd =
    let Face : List ℕ → Type 0 = IsFaceOf many in
    All-cons Face (a ∷ b ∷ d ∷ []) ((a ∷ d ∷ c ∷ []) ∷ []) (face-of many a b d ha hb hd)
    (All-cons Face (a ∷ d ∷ c ∷ []) [] (face-of many a d c ha hd hc) (All-nil Face))

-- numbers of points
number-below : (side i j : ℕ) → i < side → j < side → pair_number side (i, j) < side * side
number-below side i j hi hj = omega (arith, mul-add-lt j side i side hj hi)

cell-of : (n : ℕ) (c : ℕ × ℕ) → c.0 < n → c.1 < n → All (IsFaceOf ((n + 1) * (n + 1))) (cell_faces (pair_number (n + 1)) c)
cell-of n (i, j) hi hj =
    triangles-of ((n + 1) * (n + 1)) _ _ _ _
    (number-below (n + 1) i j (omega arith) (omega arith))
    (number-below (n + 1) (i + 1) j (omega arith) (omega arith))
    (number-below (n + 1) i (j + 1) (omega arith) (omega arith))
    (number-below (n + 1) (i + 1) (j + 1) (omega arith) (omega arith))

closed-below : (n i j : ℕ) → 0 < n → closed_number_of n (i, j) < n * n
closed-below n i j some = number-below n (i % n) (j % n) (mod_below i n some) (mod_below j n some)

closed-cell-of : (n : ℕ) (c : ℕ × ℕ) → 0 < n → All (IsFaceOf (n * n)) (cell_faces (closed_number_of n) c)
closed-cell-of n (i, j) some =
    triangles-of (n * n) _ _ _ _
    (closed-below n i j some) (closed-below n (i + 1) j some) (closed-below n i (j + 1) some) (closed-below n (i + 1) (j + 1) some)

All-unless : (Q : List ℕ → Type 0) (b : Bool) (xs : List (List ℕ)) → All Q xs → All Q (cond b [] xs)
All-unless Q true xs all = All-nil Q
All-unless Q false xs all = all

faces-fit : (kind : GenKind) (n : ℕ) → 3 ≤ n → All (IsFaceOf (generated_point_count kind n)) (generated_faces kind n)
unfolding generated_faces
faces-fit Grid n least =
    All-flat_map (λ c. (c.0 < n) × (c.1 < n)) (IsFaceOf ((n + 1) * (n + 1))) (cell_faces (pair_number (n + 1)))
    (λ c b. cell-of n c b.0 b.1) (pairs n) (pairs-below n)
faces-fit Torus n least =
    All-flat_map (λ c. (c.0 < n) × (c.1 < n)) (IsFaceOf (n * n)) (cell_faces (closed_number_of n))
    (λ c b. closed-cell-of n c (omega arith)) (pairs n) (pairs-below n)
faces-fit Holes n least =
    All-flat_map (λ c. (c.0 < n) × (c.1 < n)) (IsFaceOf ((n + 1) * (n + 1))) (faces_but_holes n)
    (λ c b. All-unless (IsFaceOf ((n + 1) * (n + 1))) (is_hole n c) (cell_faces (pair_number (n + 1)) c) (cell-of n c b.0 b.1))
    (pairs n) (pairs-below n)
faces-fit Fans n least =
    let many = 2 * (n * n) + 1 in
    All-map (IsFaceOf many) fan_face (range_with_len 0 (n * n))
    (All-weaker (λ k. k < n * n) (λ k. IsFaceOf many (fan_face k))
    (λ k b. face-of many 0 (2 * k + 1) (2 * k + 2) (omega arith) (omega (arith, b)) (omega (arith, b)))
    (range_with_len 0 (n * n)) (All-range (n * n)))
faces-fit Seams n least =
    All-flat_map (λ c. (c.0 < n) × (c.1 < n)) (IsFaceOf (4 * (n * n))) (λ c. patch_faces (pair_number n c))
    (λ c b.
    let k = pair_number n c in
    let inside : k < n * n = number-below n c.0 c.1 b.0 b.1 in
    triangles-of (4 * (n * n)) (4 * k) (4 * k + 1) (4 * k + 2) (4 * k + 3) (omega (arith, inside)) (omega (arith, inside)) (omega (arith, inside)) (omega (arith, inside)))
    (pairs n) (pairs-below n)

few-values : (many width : ℕ) → many ≤ 1048576 → width ≤ 4 → many * width ≤ 4194304
few-values many width few thin = omega (arith, mul-le many width 1048576 4 few thin)

-- each kind at each size is a mesh
pub generated-mesh : GeneratedIsMesh
generated-mesh kind n seed size =
    let many : length (generated_points kind n seed) ≡ generated_point_count kind n = length-points kind n seed in
    let few : length (generated_points kind n seed) ≤ 1048576 = omega (arith, many, few-points kind n size.1) in
    record {
      points = record {
        heads_pass = heads-pass kind;
        few_points = omega (arith, few);
        few_values = omega (arith, few-values (length (generated_points kind n seed)) (width_of (generated_heads kind)) few (narrow kind));
        rows_fit = points-fit kind n seed size.1;
      };
      few_faces = omega (arith, few-faces kind n size.1);
      faces = subst (λ m. All (IsFaceOf m) (generated_faces kind n)) (sym many) (faces-fit kind n size.0);
    }

-- a value without a fault
value-is : {A : Type 0} (fault : Option Fault) (x y : A) → value_unless fault x ≡ Ok y → (fault ≡ None) × (x ≡ y)
value-is None x y e = (refl, cc)
value-is (Some f) x y e = cc

-- the mesh of heads, cells and faces
abbrev pub mesh_from : List Head → List ℤ → List (List ℕ) → MeshParts
mesh_from heads cells faces = record { heads = heads; points = rows_of (width_of heads) cells; faces = faces }

-- what is made passes each test of a mesh, and is this one
pub record IsMade (heads : List Head) (cells : List ℤ) (faces : List (List ℕ)) (m : MeshParts) : Type 0 where
  pub rows : AreRows heads cells
  pub typed : range_fault heads cells ≡ None
  pub sound : mesh_fault heads cells faces ≡ None
  pub mesh : mesh_from heads cells faces ≡ m

made : (m : MeshParts) → IsMesh m → IsMade m.heads (cells_of m.points) m.faces m
made m is =
    let v = value-is (mesh_fault m.heads (cells_of m.points) m.faces) (mesh_from m.heads (cells_of m.points) m.faces) m (mesh_of-IsMesh m is) in
    record {
      rows = AreRows-cells_of m.heads m.points is.points;
      typed = range_fault-cells_of m.heads m.points is.points.heads_pass is.points.rows_fit;
      sound = v.0;
      mesh = v.1;
    }

pub generated-made : (kind : GenKind) (n seed : ℕ) (heads : List Head) (cells : List ℤ) (faces : List (List ℕ)) → IsSize n → heads ≡ generated_heads kind → cells ≡ cells_of (generated_points kind n seed) → faces ≡ generated_faces kind n → IsMade heads cells faces (generated kind n seed)
generated-made kind n seed heads cells faces size hs ps fs =
    let m = generated kind n seed in
    subst (λ h. IsMade h cells faces m) (sym hs)
    (subst (λ p. IsMade (generated_heads kind) p faces m) (sym ps)
    (subst (λ f. IsMade (generated_heads kind) (cells_of (generated_points kind n seed)) f m) (sym fs) (made m (generated-mesh kind n seed size))))
