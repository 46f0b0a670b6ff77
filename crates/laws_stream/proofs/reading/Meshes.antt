-- What was assembled, or made of cells that passed the tests, is a mesh or a cloud.
use Rattle.std.proofs.Common.{◌≡◌, ℕ, ◌+◌, ◌*◌, ◌/◌, ◌%◌, ◌<◌, List, [], ◌∷◌, length, get_or, map, Option, None, Some, Ok, ℤ, inl, inr, refl, sym, ◌∙◌, ap, subst, arith}
use Rattle.std.specs.List.{All, zip}
use Rattle.std.proofs.lemmas.Bool.{cases_lt}
use Rattle.std.proofs.lemmas.List.{get_or_past}
use Rattle.std.proofs.lemmas.List.Elements.{All-from_get_or, All-nil, All-cons}
use Rattle.std.proofs.lemmas.List.FromFn.{length-map-range_with_len, get_or-map-range_with_len}
use Rattle.drc_base.specs.declared.faults.Fault.{Fault}
use Rattle.attr_heads.specs.declared.heads.Head.{Head}
use Rattle.mesh_model.specs.Groups.{AttrTable}
use Rattle.attr_heads.specs.FirstFault.{value_unless}
use Rattle.attr_heads.specs.Head.{width_of, heads_fault}
use Rattle.mesh_model.specs.Parts.{MeshParts, CloudParts, rows_of, count_fault, faces_fault, index_fault, range_fault, mesh_fault, cloud_fault, mesh_of, cloud_of, AreRows, RowFits, IsFaceOf, IsMesh, IsCloud}
use Rattle.mesh_model.specs.Stored.{AreStored}
use Rattle.mesh_model.specs.Assembled.{corner_row, corner_rows, row_number, triple, assembled_parts, assembled, AreTables}
use Rattle.attr_heads.proofs.Widths.{width_of-bounds}
use Rattle.mesh_model.proofs.CornerRows.{RowFits-corner_row}
use Rattle.attr_heads.proofs.FirstFaults.{first_fault-none}
use Rattle.mesh_model.proofs.Made.{count_fault-points, count_fault-values, ArePoints-made, IsMesh-made, whole-rows}
use Rattle.mesh_model.proofs.AssembledParts.{All-distinct}
use Rattle.mesh_model.proofs.AssembledLaws.{corner-assembled}
use Rattle.drc_container.proofs.lemmas.choice.FirstRefusals.{value-given}

-- a value that no fault came before
pub value-is : {A : Type 0} (r : Option Fault) (a x : A) → value_unless r a ≡ Ok x → a ≡ x
value-is None a x is = cc
value-is (Some f) a x is = cc

-- a point whose row isn't empty is one of the points
point-within : (points : List (List ℤ)) (p width : ℕ) → 0 < width → length (get_or points p []) ≡ width → p < length points
point-within points p width wide long = elim (cases_lt p (length points)) [
  | inl inside ↦ inside
  | inr past ↦ (let none : length (get_or points p []) ≡ 0 = ap length (get_or_past points p [] past) in absurd (omega (arith, none, long)))
]

-- the parts that tables are assembled to are a mesh, where they aren't too many
parts-mesh : (heads : List Head) (tables : List AttrTable) (faces : ℕ) → AreTables heads tables faces
    → count_fault (length (assembled_parts heads tables faces).points) (width_of heads) ≡ None → IsMesh (assembled_parts heads tables faces)
parts-mesh heads tables faces are counts =
    let m = assembled_parts heads tables faces in
    let columns = zip heads tables in
    let rows = corner_rows columns (3 * faces) in
    let numbers = map (row_number m.points) rows in
    let n = length m.points in
    let many : length rows ≡ 3 * faces = length-map-range_with_len (corner_row columns) 0 (3 * faces) in
    let fits : (c : ℕ) → c < 3 * faces → RowFits heads (corner_row columns c) =
    λ c inside. RowFits-corner_row (3 * faces) c heads tables are.columns.each_head are.columns.each_column inside in
    let wide = (width_of-bounds heads are.heads_pass).0 in
    let face_is : (f : ℕ) → f < faces → get_or m.faces f [] ≡ triple numbers f =
    λ f inside. get_or-map-range_with_len (triple numbers) 0 faces f f [] inside (omega arith) in
    let long : (f k : ℕ) (small : k < 3) (inside : f < faces) (p : ℕ) → get_or (triple numbers f) (k % 3) 0 ≡ p → length (get_or m.points p []) ≡ width_of heads =
    λ f k small inside p is.
    ap length (ap (λ (i : ℕ). get_or m.points i []) (sym is ∙ ap (λ (face : List ℕ). get_or face (k % 3) 0) (sym (face_is f inside)))
    ∙ corner-assembled heads tables faces f k inside small)
    ∙ (fits (3 * f + k) (omega (arith, small, inside))).0 in
    record {
      points = record {
        heads_pass = are.heads_pass;
        few_points = count_fault-points n (width_of heads) counts;
        few_values = count_fault-values n (width_of heads) counts;
        rows_fit = All-distinct (RowFits heads) rows (All-from_get_or (RowFits heads) rows [] (λ c below.
            let inside : c < 3 * faces = omega (arith, below, many) in
            subst (RowFits heads) (sym (get_or-map-range_with_len (corner_row columns) 0 (3 * faces) c c [] inside (omega arith))) (fits c inside)));
      };
      few_faces = omega (arith, length-map-range_with_len (triple numbers) 0 faces, are.few_faces);
      faces = All-from_get_or (IsFaceOf n) m.faces [] (λ f below.
          let inside : f < faces = omega (arith, below, length-map-range_with_len (triple numbers) 0 faces) in
          let a = get_or numbers (3 * f) 0 in
          let b = get_or numbers (3 * f + 1) 0 in
          let d = get_or numbers (3 * f + 2) 0 in
          let one = point-within m.points a (width_of heads) wide (long f 0 (omega arith) inside a refl) in
          let two = point-within m.points b (width_of heads) wide (long f 1 (omega arith) inside b refl) in
          let three = point-within m.points d (width_of heads) wide (long f 2 (omega arith) inside d refl) in
          let inner : IsFaceOf n (triple numbers f) =
          (refl, All-cons (λ p. p < n) a (b ∷ d ∷ []) one (All-cons (λ p. p < n) b (d ∷ []) two (All-cons (λ p. p < n) d [] three (All-nil (λ p. p < n))))) in
          subst (IsFaceOf n) (sym (face_is f inside)) inner);
    }

pub assembled-mesh : (heads : List Head) (tables : List AttrTable) (faces : ℕ) (m : MeshParts) → AreTables heads tables faces
    → assembled heads tables faces ≡ Ok m → IsMesh m
unfolding assembled
assembled-mesh heads tables faces m are is =
    let made = assembled_parts heads tables faces in
    let counts = count_fault (length made.points) (width_of heads) in
    subst IsMesh (value-is counts made m is) (parts-mesh heads tables faces are (value-given counts made m is))

-- cells that are whole rows are stored
stored : (heads : List Head) (cells : List ℤ) → AreRows heads cells → heads_fault heads ≡ None → AreStored heads cells (width_of heads) (length cells / width_of heads)
stored heads cells rows pass =
    let bounds = width_of-bounds heads pass in
    record { width_is = refl; wide = bounds.0; narrow = bounds.1; whole = whole-rows heads cells (width_of heads) rows pass refl }

-- whole rows and triples that passed the tests of a mesh
pub made-mesh : (heads : List Head) (cells : List ℤ) (faces : List (List ℕ)) (m : MeshParts) → AreRows heads cells → All (λ face. length face ≡ 3) faces
    → mesh_of heads cells faces ≡ Ok m → IsMesh m
made-mesh heads cells faces m rows triples is =
    let w = width_of heads in
    let count = length cells / w in
    let made : MeshParts = record { heads = heads; points = rows_of w cells; faces = faces } in
    let none = value-given (mesh_fault heads cells faces) made m is in
    let a = first_fault-none (heads_fault heads) _ none in
    let b = first_fault-none (count_fault count w) _ a.1 in
    let d = first_fault-none (faces_fault faces) _ b.1 in
    let e = first_fault-none (index_fault count faces) _ d.1 in
    let f = first_fault-none (range_fault heads cells) _ e.1 in
    subst IsMesh (value-is (mesh_fault heads cells faces) made m is)
    (IsMesh-made heads cells w count faces (stored heads cells rows a.0) a.0 b.0 d.0 e.0 f.0 triples)

-- whole rows that passed the tests of a cloud
pub made-cloud : (heads : List Head) (cells : List ℤ) (m : CloudParts) → AreRows heads cells → cloud_of heads cells ≡ Ok m → IsCloud m
made-cloud heads cells m rows is =
    let w = width_of heads in
    let count = length cells / w in
    let made : CloudParts = record { heads = heads; points = rows_of w cells } in
    let none = value-given (cloud_fault heads cells) made m is in
    let a = first_fault-none (heads_fault heads) _ none in
    let b = first_fault-none (count_fault count w) _ a.1 in
    let f = first_fault-none (range_fault heads cells) _ b.1 in
    subst IsCloud (value-is (cloud_fault heads cells) made m is) (ArePoints-made heads cells w count (stored heads cells rows a.0) a.0 b.0 f.0)
