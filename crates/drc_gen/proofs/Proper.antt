-- Generated meshes have faces, whose corners have different positions, and small integers.
use Rattle.std.proofs.Common.{◌≡◌, ◌≢◌, ℕ, ◌+◌, ◌*◌, ◌%◌, ◌/◌, ◌^◌, ◌<◌, ◌≤◌, Bool, true, false, cond, eqb, List, [], ◌∷◌, length, get_or, take, ℤ, pos, nat_abs, refl, sym, ap, ◌∙◌, subst, arith, inl, inr, ⊎_elim, mod-eq_of_lt, eq-or-lt_of_le}
use Rattle.std.specs.Prelude.{map, ◌⊎◌}
use Rattle.std.specs.List.{All, flat_map, range_with_len}
use Rattle.std.proofs.lemmas.List.{get_or-map, length-append, length-take}
use Rattle.std.proofs.lemmas.List.Concat.{get_or-flat_map}
use Rattle.std.proofs.lemmas.List.FromFn.{get_or-map-range_with_len}
use Rattle.std.proofs.lemmas.List.Elements.{All-nil, All-cons, All-map, All-weaker, All-get_or}
use Rattle.std.proofs.lemmas.Int.{ints}
use Rattle.std.proofs.lemmas.Nat.{mul-le, mul-add-lt, mod_below, div-mul-add, mod-mul-add}
use Rattle.drc_gen.specs.declared.kinds.GenKind.{GenKind}
use Rattle.drc_gen.specs.declared.kinds.GenKind.TheVariants.{Grid, Torus, Holes, Fans, Seams}
use Rattle.drc_gen.specs.Draws.{draw}
use Rattle.drc_gen.specs.Lattice.{pairs, pair_number, closed_number_of}
use Rattle.drc_gen.specs.Generated.{lattice_point, lattice_points, fan_point, patch_point, patch, generated_points, triangles, cell_faces, is_hole, faces_but_holes, fan_face, patch_faces, generated_faces}
use Rattle.drc_gen.specs.GeneratedLaws.{FacesAreSome, FacesAreProper, IsSmall, ValuesAreSmall}
use Rattle.drc_gen.proofs.Lists.{length-pieces, All-flat_map, All-range}
use Rattle.drc_gen.proofs.Walks.{length-pairs, get_or-pairs, pairs-below, draw-small}
use Rattle.drc_gen.proofs.Meshes.{length-faces}

-- the pair of a number
pair-of : (n i j : ℕ) → i < n → j < n → get_or (pairs n) (pair_number n (i, j)) (0, 0) ≡ (i, j)
pair-of n i j hi hj =
    get_or-pairs n (j * n + i) (omega (arith, mul-add-lt j n i n hj hi))
    ∙ ap (λ a. (a, (j * n + i) / n)) (mod-mul-add j n i hi)
    ∙ ap (λ b. (i, b)) (div-mul-add j n i hi)

-- there is a face
square-some : (n : ℕ) → 3 ≤ n → 0 < n * n
square-some n least = omega (arith, mul-le 1 1 n n (omega arith) (omega arith))

some-piece : {A B : Type 0} (f : A → List B) → (x : A) (xs : List A) → 0 < length (f x) → 0 < length (flat_map f (x ∷ xs))
some-piece f x xs some = omega (arith, some, length-append (f x) (flat_map f xs))

some-pieces : {A B : Type 0} (f : A → List B) → (d x : A) (xs : List A) → 0 < length xs → get_or xs 0 d ≡ x → 0 < length (f x) → 0 < length (flat_map f xs)
some-pieces f d x [] long first some = absurd (omega arith)
some-pieces f d x (y ∷ xs) long first some = some-piece f y xs (subst (λ z. 0 < length (f z)) (sym first) some)

holes-some : (n : ℕ) → 0 < length (faces_but_holes n (0, 0))
holes-some n = omega arith

pub some-faces : FacesAreSome
unfolding generated_faces
some-faces Grid n size = omega (arith, square-some n size.0, length-faces Grid n)
some-faces Torus n size = omega (arith, square-some n size.0, length-faces Torus n)
some-faces Holes n size =
    some-pieces (faces_but_holes n) (0, 0) (0, 0) (pairs n) (omega (arith, square-some n size.0, length-pairs n))
    (ap (λ k. get_or (pairs n) k (0, 0)) (let zero-is : 0 ≡ 0 * n + 0 = omega arith in zero-is) ∙ pair-of n 0 0 (let least = size.0 in omega arith) (let least = size.0 in omega arith))
    (holes-some n)
some-faces Fans n size = omega (arith, square-some n size.0, length-faces Fans n)
some-faces Seams n size = omega (arith, square-some n size.0, length-faces Seams n)

-- the point of number p has position (x, y) at some height
abbrev StandsAt : List (List ℤ) → ℕ → ℕ → ℕ → Type 0
StandsAt points p x y = (z : ℤ) × (take 3 (get_or points p []) ≡ pos x ∷ pos y ∷ z ∷ [])

-- points that differ in one of the two numbers stand apart
abbrev Apart : List (List ℤ) → ℕ → ℕ → Type 0
Apart points p q = take 3 (get_or points p []) ≢ take 3 (get_or points q [])

apart : (points : List (List ℤ)) (p q x y u v : ℕ) → StandsAt points p x y → StandsAt points q u v → (x ≢ u) ⊎ (y ≢ v) → Apart points p q
apart points p q x y u v P Q (inl d) = λ e. d (ap (λ xs. nat_abs (get_or xs 0 (pos 0))) (sym P.1 ∙ e ∙ Q.1))
apart points p q x y u v P Q (inr d) = λ e. d (ap (λ xs. nat_abs (get_or xs 1 (pos 0))) (sym P.1 ∙ e ∙ Q.1))

-- the three corners of a face stand apart
abbrev StandApart : List (List ℤ) → List ℕ → Type 0
StandApart points face =
    Apart points (get_or face 0 0) (get_or face 1 0)
    × Apart points (get_or face 1 0) (get_or face 2 0)
    × Apart points (get_or face 2 0) (get_or face 0 0)

-- the faces of a cell whose corners are (x, y), (u, y), (x, v) and (u, v)
triangles-apart : (points : List (List ℤ)) (a b c d x y u v : ℕ) → StandsAt points a x y → StandsAt points b u y → StandsAt points c x v → StandsAt points d u v → x ≢ u → y ≢ v → All (StandApart points) (triangles a b c d)
triangles-apart points a b c d x y u v A B C D dx dy =
    let ux : u ≢ x = λ e. dx (sym e) in
    let vy : v ≢ y = λ e. dy (sym e) in
    All-cons (StandApart points) (a ∷ b ∷ d ∷ []) ((a ∷ d ∷ c ∷ []) ∷ [])
    (apart points a b x y u y A B (inl dx), apart points b d u y u v B D (inr dy), apart points d a u v x y D A (inl ux))
    (All-cons (StandApart points) (a ∷ d ∷ c ∷ []) []
    (apart points a d x y u v A D (inl dx), apart points d c u v x v D C (inl ux), apart points c a x v x y C A (inr vy))
    (All-nil (StandApart points)))

-- the points of a lattice
lattice-stands : (seed side i j : ℕ) → i < side → j < side → StandsAt (lattice_points seed side) (pair_number side (i, j)) i j
lattice-stands seed side i j hi hj =
    let point : ℕ × ℕ → List ℤ = λ c. lattice_point (draw seed (pair_number side c)) c in
    let k = pair_number side (i, j) in
    let inside : k < length (pairs side) = omega (arith, length-pairs side, mul-add-lt j side i side hj hi) in
    (pos (draw seed (pair_number side (i, j))), ap (take 3) (get_or-map point (pairs side) k (0, 0) [] inside ∙ ap point (pair-of side i j hi hj)))

more : (i : ℕ) → i ≢ i + 1
more i = λ e. omega arith

cell-apart : (seed n : ℕ) (c : ℕ × ℕ) → c.0 < n → c.1 < n → All (StandApart (lattice_points seed (n + 1))) (cell_faces (pair_number (n + 1)) c)
cell-apart seed n (i, j) hi hj =
    triangles-apart (lattice_points seed (n + 1)) _ _ _ _ i j (i + 1) (j + 1)
    (lattice-stands seed (n + 1) i j (omega arith) (omega arith))
    (lattice-stands seed (n + 1) (i + 1) j (omega arith) (omega arith))
    (lattice-stands seed (n + 1) i (j + 1) (omega arith) (omega arith))
    (lattice-stands seed (n + 1) (i + 1) (j + 1) (omega arith) (omega arith))
    (more i) (more j)

-- neighbours in a ring of at least two
ring-apart : (n i : ℕ) → 2 ≤ n → i < n → i % n ≢ (i + 1) % n
ring-apart n i two hi e =
    let here : i % n ≡ i = mod-eq_of_lt hi in
    let around : i + 1 ≡ n → (i + 1) % n ≡ 0 = λ last. ap (λ k. k % n) (let whole : i + 1 ≡ 1 * n + 0 = omega arith in whole) ∙ mod-mul-add 1 n 0 (omega arith) in
    let on : i + 1 < n → (i + 1) % n ≡ i + 1 = λ inside. mod-eq_of_lt inside in
    let next : i + 1 ≤ n = omega arith in
    ⊎_elim (λ last. omega (arith, here, e, around last)) (λ inside. omega (arith, here, e, on inside)) (eq-or-lt_of_le next)

closed-cell-apart : (seed n : ℕ) (c : ℕ × ℕ) → 3 ≤ n → c.0 < n → c.1 < n → All (StandApart (lattice_points seed n)) (cell_faces (closed_number_of n) c)
closed-cell-apart seed n (i, j) least hi hj =
    let some : 0 < n = omega arith in
    triangles-apart (lattice_points seed n) _ _ _ _ (i % n) (j % n) ((i + 1) % n) ((j + 1) % n)
    (lattice-stands seed n (i % n) (j % n) (mod_below i n some) (mod_below j n some))
    (lattice-stands seed n ((i + 1) % n) (j % n) (mod_below (i + 1) n some) (mod_below j n some))
    (lattice-stands seed n (i % n) ((j + 1) % n) (mod_below i n some) (mod_below (j + 1) n some))
    (lattice-stands seed n ((i + 1) % n) ((j + 1) % n) (mod_below (i + 1) n some) (mod_below (j + 1) n some))
    (ring-apart n i (omega arith) hi) (ring-apart n j (omega arith) hj)

apart-unless : (points : List (List ℤ)) (b : Bool) (faces : List (List ℕ)) → All (StandApart points) faces → All (StandApart points) (cond b [] faces)
apart-unless points true faces all = All-nil (StandApart points)
apart-unless points false faces all = all

-- the points of a fan
fan-stands : (seed many m : ℕ) → m < many → StandsAt (map (λ m. fan_point (draw seed m) m) (range_with_len 0 many)) m m (cond (eqb m 0) 0 1)
fan-stands seed many m below =
    (pos (draw seed m), ap (take 3) (get_or-map-range_with_len (λ m. fan_point (draw seed m) m) 0 many m m [] below (omega arith)))

fan-face-apart : (seed many k : ℕ) → 2 * k + 2 < many → StandApart (map (λ m. fan_point (draw seed m) m) (range_with_len 0 many)) (fan_face k)
fan-face-apart seed many k below =
    let points = map (λ m. fan_point (draw seed m) m) (range_with_len 0 many) in
    let one = 2 * k + 1 in
    let two = 2 * k + 2 in
    let P = fan-stands seed many 0 (omega arith) in
    let Q = fan-stands seed many one (omega arith) in
    let R = fan-stands seed many two (omega arith) in (
      apart points 0 one 0 _ one _ P Q (inl (λ e. omega arith)),
      apart points one two one _ two _ Q R (inl (λ e. omega arith)),
      apart points two 0 two _ 0 _ R P (inl (λ e. omega arith)),
    )

-- the points of patches: point t of the patch of cell c
patch-point-at : (seed n i j t : ℕ) → i < n → j < n → t < 4 →
    get_or (flat_map (λ c. patch (draw seed (pair_number n c)) c) (pairs n)) (4 * pair_number n (i, j) + t) [] ≡ get_or (patch (draw seed (pair_number n (i, j))) (i, j)) t []
patch-point-at seed n i j t hi hj ht =
    let points : ℕ × ℕ → List (List ℤ) = λ c. patch (draw seed (pair_number n c)) c in
    let k = pair_number n (i, j) in
    let inside : k < length (pairs n) = omega (arith, length-pairs n, mul-add-lt j n i n hj hi) in
    let front : length (flat_map points (take k (pairs n))) ≡ k * 4 =
    length-pieces points 4 (λ c. refl) (take k (pairs n)) ∙ ap (λ m. m * 4) (omega (arith, inside, length-take k (pairs n))) in
    let place : 4 * k + t ≡ length (flat_map points (take k (pairs n))) + t = omega (arith, front) in
    ap (λ p. get_or (flat_map points (pairs n)) p []) place
    ∙ get_or-flat_map points (pairs n) k t (0, 0) [] inside ht
    ∙ ap (λ c. get_or (points c) t []) (pair-of n i j hi hj)

patch-apart : (seed n : ℕ) (c : ℕ × ℕ) → c.0 < n → c.1 < n → All (StandApart (flat_map (λ c. patch (draw seed (pair_number n c)) c) (pairs n))) (patch_faces (pair_number n c))
patch-apart seed n (i, j) hi hj =
    let points = flat_map (λ c. patch (draw seed (pair_number n c)) c) (pairs n) in
    let k = pair_number n (i, j) in
    let at : 4 * k ≡ 4 * k + 0 = omega arith in
    triangles-apart points (4 * k) (4 * k + 1) (4 * k + 2) (4 * k + 3) i j (i + 1) (j + 1)
    (pos 0, ap (take 3) (ap (λ p. get_or points p []) at ∙ patch-point-at seed n i j 0 hi hj (omega arith)))
    (pos 0, ap (take 3) (patch-point-at seed n i j 1 hi hj (omega arith)))
    (pos 0, ap (take 3) (patch-point-at seed n i j 2 hi hj (omega arith)))
    (pos 0, ap (take 3) (patch-point-at seed n i j 3 hi hj (omega arith)))
    (more i) (more j)

-- the corners of each face stand apart
faces-apart : (kind : GenKind) (n seed : ℕ) → 3 ≤ n → All (StandApart (generated_points kind n seed)) (generated_faces kind n)
unfolding generated_points generated_faces
faces-apart Grid n seed least =
    All-flat_map (λ c. (c.0 < n) × (c.1 < n)) (StandApart (lattice_points seed (n + 1))) (cell_faces (pair_number (n + 1)))
    (λ c b. cell-apart seed n c b.0 b.1) (pairs n) (pairs-below n)
faces-apart Torus n seed least =
    All-flat_map (λ c. (c.0 < n) × (c.1 < n)) (StandApart (lattice_points seed n)) (cell_faces (closed_number_of n))
    (λ c b. closed-cell-apart seed n c least b.0 b.1) (pairs n) (pairs-below n)
faces-apart Holes n seed least =
    All-flat_map (λ c. (c.0 < n) × (c.1 < n)) (StandApart (lattice_points seed (n + 1))) (faces_but_holes n)
    (λ c b. apart-unless (lattice_points seed (n + 1)) (is_hole n c) (cell_faces (pair_number (n + 1)) c) (cell-apart seed n c b.0 b.1))
    (pairs n) (pairs-below n)
faces-apart Fans n seed least =
    let many = 2 * (n * n) + 1 in
    let points = map (λ m. fan_point (draw seed m) m) (range_with_len 0 many) in
    All-map (StandApart points) fan_face (range_with_len 0 (n * n))
    (All-weaker (λ k. k < n * n) (λ k. StandApart points (fan_face k)) (λ k b. fan-face-apart seed many k (omega (arith, b)))
    (range_with_len 0 (n * n)) (All-range (n * n)))
faces-apart Seams n seed least =
    All-flat_map (λ c. (c.0 < n) × (c.1 < n)) (StandApart (flat_map (λ c. patch (draw seed (pair_number n c)) c) (pairs n)))
    (λ c. patch_faces (pair_number n c)) (λ c b. patch-apart seed n c b.0 b.1) (pairs n) (pairs-below n)

pub proper-faces : FacesAreProper
proper-faces kind n seed f size below =
    All-get_or (StandApart (generated_points kind n seed)) (generated_faces kind n) f [] below (faces-apart kind n seed size.0)

-- small integers
small : (x : ℕ) → x < 2 ^ 20 → IsSmall (pos x)
small x below = (omega (arith, ints), omega (arith, ints))

row-small : (x y z : ℕ) → x < 2 ^ 20 → y < 2 ^ 20 → z < 2 ^ 20 → All IsSmall (pos x ∷ pos y ∷ pos z ∷ [])
row-small x y z hx hy hz =
    All-cons IsSmall (pos x) (pos y ∷ pos z ∷ []) (small x hx)
    (All-cons IsSmall (pos y) (pos z ∷ []) (small y hy) (All-cons IsSmall (pos z) [] (small z hz) (All-nil IsSmall)))

patch-row-small : (label i j : ℕ) → i < 2 ^ 20 → j < 2 ^ 20 → label < 256 → All IsSmall (patch_point label (i, j))
patch-row-small label i j hi hj hl =
    All-cons IsSmall (pos i) (pos j ∷ pos 0 ∷ pos label ∷ []) (small i hi) (row-small j 0 label hj (omega arith) (omega arith))

patch-small : (drawn : ℕ) (c : ℕ × ℕ) → c.0 < 512 → c.1 < 512 → All (λ row. All IsSmall row) (patch drawn c)
patch-small drawn (i, j) hi hj =
    let z = drawn % 256 in
    let below : z < 256 = mod_below drawn 256 (omega arith) in
    let Row : List ℤ → Type 0 = λ row. All IsSmall row in
    let p = patch_point z (i, j) in
    let q = patch_point z (i + 1, j) in
    let r = patch_point z (i, j + 1) in
    let s = patch_point z (i + 1, j + 1) in
    All-cons Row p (q ∷ r ∷ s ∷ []) (patch-row-small z i j (omega arith) (omega arith) below)
    (All-cons Row q (r ∷ s ∷ []) (patch-row-small z (i + 1) j (omega arith) (omega arith) below)
    (All-cons Row r (s ∷ []) (patch-row-small z i (j + 1) (omega arith) (omega arith) below)
    (All-cons Row s [] (patch-row-small z (i + 1) (j + 1) (omega arith) (omega arith) below) (All-nil Row))))

lattice-small : (seed side : ℕ) → side ≤ 513 → All (λ row. All IsSmall row) (lattice_points seed side)
lattice-small seed side most =
    let point : ℕ × ℕ → List ℤ = λ c. lattice_point (draw seed (pair_number side c)) c in
    All-map (λ row. All IsSmall row) point (pairs side)
    (All-weaker (λ c. (c.0 < side) × (c.1 < side)) (λ c. All IsSmall (point c))
    (λ c b. row-small c.0 c.1 (draw seed (pair_number side c)) (omega (arith, b.0)) (omega (arith, b.1)) (omega (arith, draw-small seed (pair_number side c))))
    (pairs side) (pairs-below side))

away-low : (b : Bool) → cond b 0 1 < 2 ^ 20
away-low true = omega arith
away-low false = omega arith

pub small-values : ValuesAreSmall
unfolding generated_points
small-values Grid n seed size = lattice-small seed (n + 1) (let most = size.1 in omega arith)
small-values Torus n seed size = lattice-small seed n (let most = size.1 in omega arith)
small-values Holes n seed size = lattice-small seed (n + 1) (let most = size.1 in omega arith)
small-values Fans n seed size =
    let many = 2 * (n * n) + 1 in
    let point : ℕ → List ℤ = λ m. fan_point (draw seed m) m in
    All-map (λ row. All IsSmall row) point (range_with_len 0 many)
    (All-weaker (λ m. m < many) (λ m. All IsSmall (point m))
    (λ m b. row-small m (cond (eqb m 0) 0 1) (draw seed m) (omega (arith, b, mul-le n n 512 512 size.1 size.1)) (away-low (eqb m 0)) (omega (arith, draw-small seed m)))
    (range_with_len 0 many) (All-range many))
small-values Seams n seed size =
    All-flat_map (λ c. (c.0 < n) × (c.1 < n)) (λ row. All IsSmall row) (λ c. patch (draw seed (pair_number n c)) c)
    (λ c b. patch-small (draw seed (pair_number n c)) c (omega (arith, b.0, size.1)) (omega (arith, b.1, size.1)))
    (pairs n) (pairs-below n)
