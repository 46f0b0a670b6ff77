-- The mesh that is assembled of what is written by Edgebreaker: the row of each corner is the corner's row in the mesh as it is decoded.
use Rattle.std.proofs.Common.{◌≡◌, ℕ, zero, suc, ◌+◌, ◌*◌, ◌<◌, ◌≤◌, ℤ, List, [], ◌∷◌, ◌++◌, length, map, take, drop, get_or, None, Ok, refl, sym, ap, ◌∙◌, subst, arith}
use Rattle.std.specs.List.{enumerate_from, zip}
use Rattle.std.proofs.lemmas.List.{length-drop, drop-drop, drop_more, drop_all, take_all, take-append-drop}
use Rattle.std.proofs.lemmas.List.FromFn.{length-map-range_with_len}
use Rattle.std.proofs.Math.Nat.{mul-le-mul_right}
use Rattle.attr_heads.specs.declared.heads.Head.{Head}
use Rattle.mesh_model.specs.Groups.{AttrTable}
use Rattle.attr_heads.specs.Head.{width_of}
use Rattle.attr_heads.specs.FirstFault.{value_unless}
use Rattle.mesh_model.specs.Parts.{MeshParts, corner, IsMesh, count_fault}
use Rattle.mesh_model.specs.Assembled.{corner_row, corner_rows, distinct, triple, row_number, column_entry, assembled}
use Rattle.mesh_model.specs.RowIndex.{IsPointOf}
use Rattle.mesh_model.specs.Same.{SameMesh}
use Rattle.mesh_model.proofs.AssembledLaws.{corner-assembled}
use Rattle.mesh_model.proofs.Made.{count_fault-none}
use Rattle.mesh_model.proofs.Pigeonholes.{few-distinct}
use Rattle.corner_table.specs.Sides.{Side, side, side_at, number, place_of, place_number}
use Rattle.corner_table.proofs.Numbers.{number-side_at, face-lt}
use Rattle.drc_container.specs.declared.choice.codings.Coding.{Coding}
use Rattle.drc_container.specs.writing.WrittenOnSurface.{traced, GluedMesh, decoded, table_by}
use Rattle.drc_container.specs.writing.Encoded.{CanCodeSurface}
use Rattle.drc_container.proofs.lemmas.writing.SurfaceWritten.{tables_written, mesh_written}
use Rattle.drc_container.proofs.lemmas.surface.Decoded.{point_of, row_of, point-within, decoded-keeps}
use Rattle.drc_container.proofs.lemmas.surface.Pieces.{part, width-more, row-fits}
use Rattle.drc_container.proofs.lemmas.surface.Classes.{corner-entry}

-- ---- the row of a corner

-- the tables of attributes from number i on
abbrev tables_from : Coding → GluedMesh → ℕ → List Head → List AttrTable
tables_from coding d i heads = map (λ (k, _). table_by coding d k) (enumerate_from i heads)

-- a part of a row and what is behind it
part-rest : (all : List Head) (i : ℕ) (h : Head) (row : List ℤ) → i < length all
    → part all i row ++ drop (width_of (take (i + 1) all)) row ≡ drop (width_of (take i all)) row
part-rest all i h row has =
    let one : i + 1 ≡ suc i = omega arith in
    let start = width_of (take i all) in
    let wide = width_of (take 1 (drop i all)) in
    ap (λ (n : ℕ). part all i row ++ drop n row) (ap (λ (j : ℕ). width_of (take j all)) one ∙ width-more all i h has)
    ∙ ap (λ (rest : List ℤ). take wide (drop start row) ++ rest) (sym (drop-drop wide start row))
    ∙ take-append-drop wide (drop start row)

-- each corner's entry is the part of a row
abbrev HasParts : Coding → GluedMesh → List Head → ℕ → List ℤ → Type 0
HasParts coding d all n row =
    (k : ℕ) (h : Head) → k < length all → h ≡ get_or all k h → column_entry n (h, table_by coding d k) ≡ part all k row

-- the entries of the attributes from number i on are the row from there on
row-from : (coding : Coding) (d : GluedMesh) (all : List Head) (n : ℕ) (row : List ℤ) → length row ≡ width_of all → HasParts coding d all n row
    → (heads : List Head) (i : ℕ) → drop i all ≡ heads → corner_row (zip heads (tables_from coding d i heads)) n ≡ drop (width_of (take i all)) row
row-from coding d all n row long parts [] i is =
    let none = ap (λ (xs : List Head). length xs) is in
    let few : length all ≤ i = omega (arith, none, length-drop i all) in
    sym (ap (λ (heads : List Head). drop (width_of heads) row) (take_all i all few) ∙ drop_all (width_of all) row (omega (arith, long)))
row-from coding d all n row long parts (h ∷ heads) i is =
    let some = ap (λ (xs : List Head). length xs) is in
    let has : i < length all = omega (arith, some, length-drop i all) in
    let same : h ∷ heads ≡ get_or all i h ∷ drop (i + 1) all = sym is ∙ drop_more all i h has in
    let first : h ≡ get_or all i h = ap (λ (xs : List Head). get_or xs 0 h) same in
    let rest : drop (i + 1) all ≡ heads = sym (ap (drop 1) same) in
    ap (λ (piece : List ℤ). piece ++ corner_row (zip heads (tables_from coding d (i + 1) heads)) n) (parts i h has first)
    ∙ ap (λ (behind : List ℤ). part all i row ++ behind) (row-from coding d all n row long parts heads (i + 1) rest)
    ∙ part-rest all i h row has

-- the row of a corner is its row in the mesh as it is decoded
pub corner-row : (coding : Coding) (m : MeshParts) → IsMesh m → CanCodeSurface coding m → (c : Side) → c.face < length m.faces
    → corner_row (zip m.heads (tables_written coding m)) (number c) ≡ row_of (decoded m).mesh c
corner-row coding m is can c within =
    let d = decoded m in
    let D = decoded-keeps m is can.proper in
    let inside : c.face < length d.mesh.faces = omega (arith, D.faces) in
    let row = row_of d.mesh c in
    let parts : HasParts coding d d.mesh.heads (number c) row = λ k h has same.
    ap (λ (x : Head). column_entry (number c) (x, table_by coding d k)) same ∙ corner-entry coding d k h has D.mesh D.gluing D.fits c inside in
    subst (λ (heads : List Head). corner_row (zip heads (tables_from coding d 0 heads)) (number c) ≡ row) D.heads
    (row-from coding d d.mesh.heads (number c) row (row-fits d.mesh D.mesh c inside).0 parts d.mesh.heads 0 refl)

-- ---- the mesh

-- each row of a corner is that of a point
corner-point : (coding : Coding) (m : MeshParts) → IsMesh m → CanCodeSurface coding m → (n : ℕ) → n < 3 * length m.faces
    → (p : ℕ) × IsPointOf m.points (corner_row (zip m.heads (tables_written coding m)) n) p
corner-point coding m is can n few =
    let d = decoded m in
    let D = decoded-keeps m is can.proper in
    let c = side_at n in
    let within : c.face < length m.faces = face-lt n (length m.faces) few in
    let row : corner_row (zip m.heads (tables_written coding m)) n ≡ row_of d.mesh c =
    ap (corner_row (zip m.heads (tables_written coding m))) (sym (number-side_at n)) ∙ corner-row coding m is can c within in
    let low = point-within d.mesh D.mesh c (omega (arith, within, D.faces)) in (
      point_of d.mesh c,
      (
        subst (λ (points : List (List ℤ)). point_of d.mesh c < length points) D.points low,
        ap (λ (points : List (List ℤ)). get_or points (point_of d.mesh c) []) (sym D.points) ∙ sym row,
      ),
    )

-- what is assembled is a mesh, since it has no more points than the one that was encoded
pub mesh-assembled : (coding : Coding) (m : MeshParts) → IsMesh m → CanCodeSurface coding m
    → assembled m.heads (tables_written coding m) (length m.faces) ≡ Ok (mesh_written coding m)
unfolding assembled
mesh-assembled coding m is can =
    let columns = zip m.heads (tables_written coding m) in
    let points = length (distinct (corner_rows columns (3 * length m.faces))) in
    let fewer : points ≤ length m.points = few-distinct columns (3 * length m.faces) m.points (corner-point coding m is can) in
    let cells = mul-le-mul_right (width_of m.heads) fewer in
    let none : count_fault points (width_of m.heads) ≡ None =
    count_fault-none points (width_of m.heads) (omega (arith, is.points.few_points)) (omega (arith, is.points.few_values)) in
    ap (λ fault. value_unless fault (mesh_written coding m)) none

-- ---- the same mesh

number-place : (k : ℕ) → k < 3 → place_number (place_of k) ≡ k
number-place zero small = refl
number-place (suc zero) small = refl
number-place (suc (suc zero)) small = refl
number-place (suc (suc (suc k))) small = absurd (omega arith)

-- corner k of face f is that of the mesh as it is decoded
corner-written : (coding : Coding) (m : MeshParts) → IsMesh m → CanCodeSurface coding m → (f k : ℕ) → f < length m.faces → k < 3
    → corner (mesh_written coding m) f k ≡ corner (decoded m).mesh f k
corner-written coding m is can f k within small =
    let c = side f (place_of k) in
    let place = number-place k small in
    let same : 3 * f + k ≡ number c = omega (arith, place) in
    corner-assembled m.heads (tables_written coding m) (length m.faces) f k within small
    ∙ ap (corner_row (zip m.heads (tables_written coding m))) same
    ∙ corner-row coding m is can c within
    ∙ ap (corner (decoded m).mesh f) place

-- it has as many faces
faces-written : (coding : Coding) (m : MeshParts) → length (mesh_written coding m).faces ≡ length m.faces
faces-written coding m =
    let rows = corner_rows (zip m.heads (tables_written coding m)) (3 * length m.faces) in
    length-map-range_with_len (triple (map (row_number (distinct rows)) rows)) 0 (length m.faces)

-- and is the mesh that was encoded, by the order of decoding
pub mesh-same : (coding : Coding) (m : MeshParts) → IsMesh m → CanCodeSurface coding m → SameMesh m (mesh_written coding m) (traced m).order
mesh-same coding m is can =
    let D = decoded-keeps m is can.proper in
    let many = faces-written coding m in
    record {
      heads = refl;
      each_row = D.same.each_row ∙ D.faces ∙ sym many;
      each_face = D.same.each_face;
      faces = λ i below.
          let within : i < length m.faces = omega (arith, many, below) in
          let F = D.same.faces i (omega (arith, within, D.faces)) in
          (F.0, λ k small. corner-written coding m is can i k within small ∙ F.1 k small);
    }
