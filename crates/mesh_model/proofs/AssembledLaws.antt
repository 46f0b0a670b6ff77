-- What the assembled mesh is, in other words: its points are pairwise different, and each corner has
-- its row.
use Rattle.std.proofs.Common.{◌≡◌, ℕ, zero, suc, ◌+◌, ◌*◌, ◌%◌, ◌<◌, true, false, cond, List, [], ◌∷◌, ◌++◌, length, get_or, map, Option, None, Some, Ok, ℤ, refl, sym, ap, ◌∙◌, subst, inl, inr, add-one, arith}
use Rattle.std.specs.List.{list_any, zip}
use Rattle.std.proofs.lemmas.Bool.{cases_Bool, cases_lt, false≢true, or_left, or_right}
use Rattle.std.proofs.lemmas.List.{get_or-map}
use Rattle.std.proofs.lemmas.List.Elements.{All-from_get_or}
use Rattle.std.proofs.lemmas.List.Folds.{list_any-append, list_any_none}
use Rattle.std.proofs.lemmas.List.FromFn.{map-range_with_len_more, length-map-range_with_len, get_or-map-range_with_len}
use Rattle.std.proofs.lemmas.List.Sums.{fails_before_first, passes_at_first}
use Rattle.drc_base.specs.declared.faults.Fault.{Fault}
use Rattle.attr_heads.specs.declared.heads.Head.{Head}
use Rattle.mesh_model.specs.Groups.{AttrTable}
use Rattle.attr_heads.specs.FirstFault.{value_unless}
use Rattle.attr_heads.specs.Head.{width_of}
use Rattle.mesh_model.specs.Parts.{MeshParts, corner, count_fault}
use Rattle.mesh_model.specs.Assembled.{Columns, corner_row, corner_rows, same_row, distinct, row_number, triple, assembled_parts, assembled}
use Rattle.mesh_model.proofs.DistinctRows.{same_row-decides, same_row-refl, distinct-push, with_row}
use Rattle.mesh_model.proofs.AssembledParts.{AreApart, apart-distinct}

-- a row that is among rows is among rows with one more, and the one more is too
kept-with_row : (rows : List (List ℤ)) (row other : List ℤ) → list_any (same_row other) rows ≡ true → list_any (same_row other) (with_row rows row) ≡ true
kept-with_row rows row other there = elim (cases_Bool (list_any (same_row row) rows)) [
  | inl found ↦ ap (λ b. list_any (same_row other) (cond b rows (rows ++ row ∷ []))) found ∙ there
  | inr missing ↦ ap (λ b. list_any (same_row other) (cond b rows (rows ++ row ∷ []))) missing ∙ list_any-append (same_row other) rows (row ∷ []) ∙ or_left _ _ there
]

new-with_row : (rows : List (List ℤ)) (row : List ℤ) → list_any (same_row row) (with_row rows row) ≡ true
new-with_row rows row = elim (cases_Bool (list_any (same_row row) rows)) [
  | inl found ↦ ap (λ b. list_any (same_row row) (cond b rows (rows ++ row ∷ []))) found ∙ found
  | inr missing ↦ ap (λ b. list_any (same_row row) (cond b rows (rows ++ row ∷ []))) missing ∙ list_any-append (same_row row) rows (row ∷ [])
      ∙ or_right _ _ (or_left _ _ (same_row-refl row row refl))
]

-- the row of each corner is among the distinct rows
has_row : (columns : Columns) (count c : ℕ) → c < count → list_any (same_row (corner_row columns c)) (distinct (corner_rows columns count)) ≡ true
has_row columns zero c below = absurd (omega arith)
has_row columns (suc n) c below =
    ap (λ m. list_any (same_row (corner_row columns c)) (distinct (corner_rows columns m))) (sym (add-one n))
    ∙ ap (list_any (same_row (corner_row columns c)))
    (ap distinct (map-range_with_len_more (corner_row columns) 0 n n (omega arith)) ∙ distinct-push (corner_rows columns n) (corner_row columns n))
    ∙ elim (cases_lt c n) [
      | inl before ↦ kept-with_row (distinct (corner_rows columns n)) (corner_row columns n) (corner_row columns c) (has_row columns n c before)
      | inr last ↦
          let same : n ≡ c = omega arith in
          subst (λ k. list_any (same_row (corner_row columns k)) (with_row (distinct (corner_rows columns n)) (corner_row columns n)) ≡ true) same
          (new-with_row (distinct (corner_rows columns n)) (corner_row columns n))
    ]

-- a row that is among rows stands at its number
get_or-number_of : (rows : List (List ℤ)) (row : List ℤ) → list_any (same_row row) rows ≡ true → get_or rows (row_number rows row) [] ≡ row
get_or-number_of rows row there = elim (cases_lt (row_number rows row) (length rows)) [
  | inl inside ↦ sym ((same_row-decides row _).0 (passes_at_first (same_row row) rows [] inside))
  | inr past ↦
      let none = list_any_none (same_row row) rows
      (All-from_get_or (λ r. same_row row r ≡ false) rows [] (λ k below. fails_before_first (same_row row) rows k [] (omega arith))) in
      absurd (false≢true (sym none ∙ there))
]

-- the numbers of a triple
triple-at : (numbers : List ℕ) (f k : ℕ) → k < 3 → get_or (triple numbers f) (k % 3) 0 ≡ get_or numbers (3 * f + k) 0
triple-at numbers f zero small = let same : 3 * f ≡ 3 * f + 0 = omega arith in ap (λ n. get_or numbers n 0) same
triple-at numbers f (suc zero) small = refl
triple-at numbers f (suc (suc zero)) small = refl
triple-at numbers f (suc (suc (suc k))) small = absurd (omega arith)

-- corner k of face f of the assembled mesh has the row of corner 3 * f + k
pub corner-assembled : (heads : List Head) (tables : List AttrTable) (faces f k : ℕ) → f < faces → k < 3 → corner (assembled_parts heads tables faces) f k ≡ corner_row (zip heads tables) (3 * f + k)
corner-assembled heads tables faces f k below small =
    let columns = zip heads tables in
    let rows = corner_rows columns (3 * faces) in
    let points = distinct rows in
    let numbers = map (row_number points) rows in
    let c = 3 * f + k in
    let inside : c < 3 * faces = omega arith in
    let many : length rows ≡ 3 * faces = length-map-range_with_len (corner_row columns) 0 (3 * faces) in
    let row : get_or rows c [] ≡ corner_row columns c = get_or-map-range_with_len (corner_row columns) 0 (3 * faces) c c [] inside (omega arith) in
    ap (λ (face : List ℕ). get_or points (get_or face (k % 3) 0) []) (get_or-map-range_with_len (triple numbers) 0 faces f f [] below (omega arith))
    ∙ ap (λ n. get_or points n []) (triple-at numbers f k small ∙ get_or-map (row_number points) rows c [] 0 (omega (arith, many)) ∙ ap (row_number points) row)
    ∙ get_or-number_of points (corner_row columns c) (has_row columns (3 * faces) c inside)

unwrapped : (fault : Option Fault) (x y : MeshParts) → value_unless fault x ≡ Ok y → x ≡ y
unwrapped None x y e = cc
unwrapped (Some f) x y e = cc

-- what is assembled are the parts
assembled-parts : (heads : List Head) (tables : List AttrTable) (faces : ℕ) (m : MeshParts) → assembled heads tables faces ≡ Ok m → assembled_parts heads tables faces ≡ m
unfolding assembled
assembled-parts heads tables faces m at =
    unwrapped (count_fault (length (distinct (corner_rows (zip heads tables) (3 * faces)))) (width_of heads)) (assembled_parts heads tables faces) m at

pub assembled-corners : (heads : List Head) (tables : List AttrTable) (faces : ℕ) (m : MeshParts) → assembled heads tables faces ≡ Ok m → (f k : ℕ) → f < faces → k < 3 → corner m f k ≡ corner_row (zip heads tables) (3 * f + k)
assembled-corners heads tables faces m at f k below small =
    ap (λ (n : MeshParts). corner n f k) (sym (assembled-parts heads tables faces m at)) ∙ corner-assembled heads tables faces f k below small

pub assembled-apart : (heads : List Head) (tables : List AttrTable) (faces : ℕ) (m : MeshParts) → assembled heads tables faces ≡ Ok m → AreApart m.points
assembled-apart heads tables faces m at =
    subst (λ (n : MeshParts). AreApart n.points) (assembled-parts heads tables faces m at) (apart-distinct (zip heads tables) (3 * faces))
