-- The numbering of corners gives the assembled mesh.
use Rattle.std.proofs.Common.{◌≡◌, ◌≢◌, ℕ, zero, suc, ◌+◌, ◌*◌, ◌<◌, ◌≤◌, cond, List, [], ◌∷◌, ◌++◌, length, get_or, map, None, Some, Result, Ok, Err, ℤ, refl, sym, ap, ◌∙◌, subst, inl, inr, add-one, arith}
use Rattle.std.specs.List.{All, AllPairs, list_any, range_with_len, zip}
use Rattle.std.proofs.lemmas.Bool.{cases_Bool, false≢true}
use Rattle.std.proofs.lemmas.List.{length-map, get_or-map, same_lists, get_or_default}
use Rattle.std.proofs.lemmas.List.Elements.{All-from_get_or, All-nil, All-cons, All-head, All-tail, All-filter}
use Rattle.std.proofs.lemmas.List.Folds.{list_any_at}
use Rattle.std.proofs.lemmas.List.FromFn.{map-range_with_len_more, length-map-range_with_len, get_or-map-range_with_len}
use Rattle.std.proofs.lemmas.List.Quantifiers.{all_pairs_push}
use Rattle.std.proofs.lemmas.List.Sums.{position_or_len_is}
use Rattle.drc_base.specs.declared.faults.Fault.{Fault}
use Rattle.attr_heads.specs.declared.heads.Head.{Head}
use Rattle.mesh_model.specs.Groups.{AttrTable}
use Rattle.attr_heads.specs.FirstFault.{value_unless}
use Rattle.attr_heads.specs.Head.{width_of}
use Rattle.mesh_model.specs.Parts.{MeshParts, count_fault, rows_of, RowFits, IsFaceOf, IsMesh}
use Rattle.mesh_model.specs.Stored.{AreStored}
use Rattle.mesh_model.specs.Assembled.{Columns, corner_row, corner_rows, same_row, distinct, row_number, triple, assembled, AreTables, AreAttrTables}
use Rattle.mesh_model.specs.RowIndex.{IsPointOf, IsNumbering}
use Rattle.attr_heads.proofs.Widths.{width_of-bounds}
use Rattle.mesh_model.proofs.CornerRows.{RowFits-corner_row}
use Rattle.mesh_model.proofs.DistinctRows.{other_than, same_row-refl, same_row-apart, distinct-push, with_row}
use Rattle.mesh_model.proofs.Made.{count_fault-points, count_fault-values}
use Rattle.mesh_model.proofs.Rows.{length-rows}

-- rows are pairwise different
abbrev pub AreApart : List (List ℤ) → Type 0
AreApart rows = AllPairs (λ (a : List ℤ) (b : List ℤ). a ≢ b) rows

apart-with_row : (rows : List (List ℤ)) (row : List ℤ) → AreApart rows → AreApart (with_row rows row)
apart-with_row rows row apart = elim (cases_Bool (list_any (same_row row) rows)) [
  | inl found ↦ subst (λ b. AreApart (cond b rows (rows ++ row ∷ []))) (sym found) apart
  | inr missing ↦ subst (λ b. AreApart (cond b rows (rows ++ row ∷ []))) (sym missing)
      (all_pairs_push (λ (a : List ℤ) (b : List ℤ). a ≢ b) rows row apart (λ k d below same.
      false≢true (sym missing ∙ list_any_at (same_row row) rows k d below (same_row-refl row (get_or rows k d) (sym same)))))
]

-- the distinct rows of corners are pairwise different
pub apart-distinct : (columns : Columns) (count : ℕ) → AreApart (distinct (corner_rows columns count))
apart-distinct columns zero = λ i j d before below. absurd (omega arith)
apart-distinct columns (suc n) =
    subst AreApart
    (sym (ap (λ m. distinct (corner_rows columns m)) (sym (add-one n))
    ∙ ap distinct (map-range_with_len_more (corner_row columns) 0 n n (omega arith))
    ∙ distinct-push (corner_rows columns n) (corner_row columns n)))
    (apart-with_row (distinct (corner_rows columns n)) (corner_row columns n) (apart-distinct columns n))

-- where point p has a row, and points are pairwise different, p is the row's number
pub number_of-at : (points : List (List ℤ)) (row : List ℤ) (p : ℕ) → AreApart points → p < length points → get_or points p [] ≡ row → row_number points row ≡ p
number_of-at points row p apart below at =
    position_or_len_is (same_row row) points p [] (omega arith)
    (λ k before. same_row-apart row (get_or points k []) (λ e. apart k p [] before below (sym e ∙ sym at)))
    (λ _. same_row-refl row (get_or points p []) (sym at))

-- the numbers of corners are those of their rows
pub numbers-are : (columns : Columns) (corners : ℕ) (numbers : List ℕ) (points : List (List ℤ)) → IsNumbering columns corners numbers points → numbers ≡ map (row_number points) (corner_rows columns corners)
numbers-are columns corners numbers points is =
    let rows = corner_rows columns corners in
    let many : length rows ≡ corners = length-map-range_with_len (corner_row columns) 0 corners in
    let each : length numbers ≡ length (map (row_number points) rows) = is.each ∙ sym (length-map rows (row_number points) ∙ many) in
    same_lists numbers (map (row_number points) rows) each (λ c d below.
    let inside : c < corners = omega (arith, is.each) in
    let at : IsPointOf points (corner_row columns c) (get_or numbers c 0) = is.numbered c inside in
    let here : get_or rows c [] ≡ corner_row columns c = get_or-map-range_with_len (corner_row columns) 0 corners c c [] inside (omega arith) in
    get_or_default numbers c d 0 below
    ∙ sym (get_or-map (row_number points) rows c [] d (omega (arith, many))
    ∙ ap (row_number points) here
    ∙ number_of-at points (corner_row columns c) (get_or numbers c 0) (subst AreApart (sym is.distinct_rows) (apart-distinct columns corners)) at.0 at.1))

-- what holds of each row holds of the distinct ones
pub All-distinct : (P : List ℤ → Type 0) (rows : List (List ℤ)) → All P rows → All P (distinct rows)
All-distinct P [] each = All-nil P
All-distinct P (row ∷ rows) each =
    All-cons P row _ (All-head P row rows each) (All-filter (other_than row) P (distinct rows) (All-distinct P rows (All-tail P row rows each)))

-- the points fit the heads
pub points-fit : (heads : List Head) (tables : List AttrTable) (corners : ℕ) (numbers : List ℕ) (points : List (List ℤ)) → AreAttrTables corners heads tables → IsNumbering (zip heads tables) corners numbers points → All (RowFits heads) points
points-fit heads tables corners numbers points are is =
    let columns = zip heads tables in
    let many = length-map-range_with_len (corner_row columns) 0 corners in
    subst (All (RowFits heads)) (sym is.distinct_rows)
    (All-distinct (RowFits heads) (corner_rows columns corners) (All-from_get_or (RowFits heads) (corner_rows columns corners) [] (λ c below.
    let inside : c < corners = omega (arith, below, many) in
    subst (RowFits heads) (sym (get_or-map-range_with_len (corner_row columns) 0 corners c c [] inside (omega arith)))
    (RowFits-corner_row corners c heads tables are.each_head are.each_column inside))))

-- each face has three numbers of points
pub triples-fit : (columns : Columns) (faces : ℕ) (numbers : List ℕ) (points : List (List ℤ)) → IsNumbering columns (3 * faces) numbers points → All (IsFaceOf (length points)) (map (triple numbers) (range_with_len 0 faces))
triples-fit columns faces numbers points is =
    let n = length points in
    All-from_get_or (IsFaceOf n) (map (triple numbers) (range_with_len 0 faces)) [] (λ f below.
    let inside : f < faces = omega (arith, length-map-range_with_len (triple numbers) 0 faces) in
    let a = get_or numbers (3 * f) 0 in
    let b = get_or numbers (3 * f + 1) 0 in
    let c = get_or numbers (3 * f + 2) 0 in
    let first = (is.numbered (3 * f) (omega arith)).0 in
    let second = (is.numbered (3 * f + 1) (omega arith)).0 in
    let third = (is.numbered (3 * f + 2) (omega arith)).0 in
    let inner : IsFaceOf n (triple numbers f) =
    (refl, All-cons (λ p. p < n) a (b ∷ c ∷ []) first (All-cons (λ p. p < n) b (c ∷ []) second (All-cons (λ p. p < n) c [] third (All-nil (λ p. p < n))))) in
    subst (IsFaceOf n) (sym (get_or-map-range_with_len (triple numbers) 0 faces f f [] inside (omega arith))) inner)

-- heads, points and faces of a numbering within the limits are a mesh
pub IsMesh-numbered : (heads : List Head) (tables : List AttrTable) (faces : ℕ) (numbers : List ℕ) (points : List (List ℤ)) → AreTables heads tables faces → IsNumbering (zip heads tables) (3 * faces) numbers points → count_fault (length points) (width_of heads) ≡ None → IsMesh (record { heads = heads; points = points; faces = map (triple numbers) (range_with_len 0 faces) })
IsMesh-numbered heads tables faces numbers points are is counts = record {
  points = record {
    heads_pass = are.heads_pass;
    few_points = count_fault-points (length points) (width_of heads) counts;
    few_values = count_fault-values (length points) (width_of heads) counts;
    rows_fit = points-fit heads tables (3 * faces) numbers points are.columns is;
  };
  few_faces = omega (arith, length-map-range_with_len (triple numbers) 0 faces, are.few_faces);
  faces = triples-fit (zip heads tables) faces numbers points is;
}

-- that mesh is the assembled one
pub assembled-numbered : (heads : List Head) (tables : List AttrTable) (faces : ℕ) (numbers : List ℕ) (points : List (List ℤ)) → IsNumbering (zip heads tables) (3 * faces) numbers points → assembled heads tables faces ≡ value_unless (count_fault (length points) (width_of heads)) (record { heads = heads; points = points; faces = map (triple numbers) (range_with_len 0 faces) })
unfolding assembled
assembled-numbered heads tables faces numbers points is =
    let rows = corner_rows (zip heads tables) (3 * faces) in
    let answer : List ℕ → List (List ℤ) → Result MeshParts Fault = λ ns ps.
    value_unless (count_fault (length ps) (width_of heads)) (record { heads = heads; points = ps; faces = map (triple ns) (range_with_len 0 faces) }) in
    ap (λ ps. answer (map (row_number ps) rows) ps) (sym is.distinct_rows)
    ∙ ap (λ ns. answer ns points) (sym (numbers-are (zip heads tables) (3 * faces) numbers points is))

-- what was stored of a numbering: rows, faces, and that they are a mesh
pub stored-numbered : (heads : List Head) (tables : List AttrTable) (faces : ℕ) (numbers : List ℕ) (cells : List ℤ) (width count : ℕ) → AreTables heads tables faces → IsNumbering (zip heads tables) (3 * faces) numbers (rows_of width cells) → length cells ≡ count * width → count_fault count width ≡ None → width ≡ width_of heads → AreStored heads cells width count × IsMesh (record { heads = heads; points = rows_of width cells; faces = map (triple numbers) (range_with_len 0 faces) }) × (assembled heads tables faces ≡ Ok (record { heads = heads; points = rows_of width cells; faces = map (triple numbers) (range_with_len 0 faces) }))
stored-numbered heads tables faces numbers cells width count are is whole counts width_is =
    let points = rows_of width cells in
    let bounds = width_of-bounds heads are.heads_pass in
    let wide : 0 < width = subst (λ w. 0 < w) (sym width_is) bounds.0 in
    let many : length points ≡ count = length-rows width count cells wide whole in
    let none : count_fault (length points) (width_of heads) ≡ None =
    subst (λ w. count_fault (length points) w ≡ None) width_is (subst (λ n. count_fault n width ≡ None) (sym many) counts) in
    let made : MeshParts = record { heads = heads; points = points; faces = map (triple numbers) (range_with_len 0 faces) } in (
      record { width_is = width_is; wide = wide; narrow = subst (λ w. w ≤ 128) (sym width_is) bounds.1; whole = whole },
      IsMesh-numbered heads tables faces numbers points are is none,
      assembled-numbered heads tables faces numbers points is ∙ ap (λ fault. value_unless fault made) none,
    )

-- the fault of too many points or values
pub assembled-fault : (heads : List Head) (tables : List AttrTable) (faces : ℕ) (numbers : List ℕ) (cells : List ℤ) (width count : ℕ) (fault : Fault) → IsNumbering (zip heads tables) (3 * faces) numbers (rows_of width cells) → 0 < width → length cells ≡ count * width → width ≡ width_of heads → count_fault count width ≡ Some fault → assembled heads tables faces ≡ Err fault
assembled-fault heads tables faces numbers cells width count fault is wide whole width_is at =
    let points = rows_of width cells in
    let made : MeshParts = record { heads = heads; points = points; faces = map (triple numbers) (range_with_len 0 faces) } in
    let many : length points ≡ count = length-rows width count cells wide whole in
    assembled-numbered heads tables faces numbers points is
    ∙ ap (λ w. value_unless (count_fault (length points) w) made) (sym width_is)
    ∙ ap (λ n. value_unless (count_fault n width) made) many ∙ ap (λ f. value_unless f made) at
