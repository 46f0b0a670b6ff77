-- The rows of columns are the rows that the columns were taken from.
use Rattle.std.proofs.Common.{◌≡◌, ℕ, zero, suc, ◌+◌, ◌*◌, ◌<◌, ◌≤◌, ℤ, List, [], ◌∷◌, map, length, take, drop, get_or, refl, sym, ◌∙◌, arith, add-one, drop-cons, drop-drop, append-nil}
use Rattle.std.specs.List.{flat_map, range_with_len}
use Rattle.std.proofs.lemmas.List.{take_at, take-append-drop, length-take-le, length-drop, length-map, get_or-map, drop_all}
use Rattle.std.proofs.Math.Seq.{drop-append-add}
use Rattle.std.proofs.lemmas.List.Sums.{sum_by-cons}
use Rattle.attr_heads.specs.declared.heads.Head.{Head}
use Rattle.attr_heads.specs.Head.{width_of}
use Rattle.drc_container.specs.Columns.{columns_of, column_row, cells_at}

-- each row has so many integers
abbrev pub AreWide : ℕ → List (List ℤ) → Type 0
AreWide n rows = (j : ℕ) → j < length rows → length (get_or rows j []) ≡ n

AreWide-tail : (n : ℕ) (row : List ℤ) (rows : List (List ℤ)) → AreWide n (row ∷ rows) → AreWide n rows
AreWide-tail n row rows wide j h = wide (suc j) (omega (arith, h))

-- piece i of pieces of one length
piece : (f : List ℤ → List ℤ) (n : ℕ) (rows : List (List ℤ)) (i : ℕ) → i < length rows
    → ((j : ℕ) → j < length rows → length (f (get_or rows j [])) ≡ n)
    → take n (drop (i * n) (flat_map f rows)) ≡ f (get_or rows i [])
piece f n [] i h long = absurd (omega arith)
piece f n (row ∷ rows) zero h long =
    let none : 0 * n ≡ 0 = omega arith in
    rw none (take_at (f row) (flat_map f rows) n (long 0 (omega arith)))
piece f n (row ∷ rows) (suc i) h long =
    let first : suc i * n ≡ length (f row) + i * n = omega (arith, long 0 (omega arith)) in
    rw (first, drop-append-add (f row) (flat_map f rows) (i * n)) (piece f n rows i (omega (arith, h)) (λ j k. long (suc j) (omega (arith, k))))

AreWide-drop : (n k : ℕ) (rows : List (List ℤ)) → AreWide (n + k) rows → AreWide k (map (λ row. drop n row) rows)
AreWide-drop n k rows wide j h =
    let few : j < length rows = rw (length-map rows (λ row. drop n row)) at h in
    rw (get_or-map (λ row. drop n row) rows j [] [] few, length-drop n (get_or rows j []), wide j few) (omega arith)

none_of : (xs : List ℤ) → length xs ≡ 0 → [] ≡ xs
none_of [] e = refl
none_of (x ∷ xs) e = absurd (omega (arith, e))

-- a row is regained from the columns
pub row_at-columns_of : (heads : List Head) (rows : List (List ℤ)) (i : ℕ) → i < length rows → AreWide (width_of heads) rows
    → column_row heads (columns_of heads rows) i ≡ get_or rows i []
row_at-columns_of [] rows i h wide = none_of (get_or rows i []) (wide i h)
row_at-columns_of (head ∷ heads) rows i h wide =
    let whole : width_of (head ∷ heads) ≡ head.comps + width_of heads = sum_by-cons (λ x. x.comps) head heads in
    let few : (j : ℕ) → j < length rows → length (take head.comps (get_or rows j [])) ≡ head.comps =
    λ j k. length-take-le head.comps (get_or rows j []) (omega (arith, whole, wide j k)) in
    let others : i < length (map (λ row. drop head.comps row) rows) = rw (length-map rows (λ row. drop head.comps row)) h in
    rw (
      piece (λ row. take head.comps row) head.comps rows i h few,
      row_at-columns_of heads (map (λ row. drop head.comps row) rows) i others (AreWide-drop head.comps (width_of heads) rows (λ j k. wide j k ∙ whole)),
      get_or-map (λ row. drop head.comps row) rows i [] [] h,
    )
    (take-append-drop head.comps (get_or rows i []))

-- the rows from row a on, one after another, are the rows that the columns were taken from
rows_from : (heads : List Head) (rows : List (List ℤ)) (a n : ℕ) → a + n ≡ length rows → AreWide (width_of heads) rows
    → flat_map (column_row heads (columns_of heads rows)) (range_with_len a n) ≡ flat_map (λ row. row) (drop a rows)
rows_from heads rows a zero whole wide = rw (drop_all a rows (omega (arith, whole))) refl
rows_from heads rows a (suc n) whole wide =
    let has : a < length rows = omega (arith, whole) in
    rw (row_at-columns_of heads rows a has wide, rows_from heads rows (a + 1) n (omega (arith, whole)) wide, drop-cons rows a [] has, add-one a) refl

-- all cells are regained from the columns
pub cells_at-columns_of : (heads : List Head) (rows : List (List ℤ)) → AreWide (width_of heads) rows
    → cells_at heads (columns_of heads rows) (length rows) ≡ flat_map (λ row. row) rows
cells_at-columns_of heads rows wide = rows_from heads rows 0 (length rows) (omega arith) wide

-- the cells of an only column, from row a on, are those of the column
only_from : (h : Head) (column : List ℤ) (a n : ℕ) → length column ≡ (a + n) * h.comps
    → flat_map (column_row (h ∷ []) (column ∷ [])) (range_with_len a n) ≡ drop (a * h.comps) column
only_from h column a zero long = let all : length column ≤ a * h.comps = omega (arith, long) in sym (drop_all (a * h.comps) column all)
only_from h column a (suc n) long =
    let more : length column ≡ (a + 1 + n) * h.comps = omega (arith, long) in
    let next : (a + 1) * h.comps ≡ a * h.comps + h.comps = omega arith in
    rw (append-nil (take h.comps (drop (a * h.comps) column)), only_from h column (a + 1) n more, next, ← drop-drop h.comps (a * h.comps) column)
    (take-append-drop h.comps (drop (a * h.comps) column))

-- the cells of an only column are the column
pub cells_at-only : (h : Head) (column : List ℤ) (n : ℕ) → length column ≡ n * h.comps → cells_at (h ∷ []) (column ∷ []) n ≡ column
cells_at-only h column n long =
    let none : 0 * h.comps ≡ 0 = omega arith in
    rw (only_from h column 0 n (omega (arith, long)), none) refl
