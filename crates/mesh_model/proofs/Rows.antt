-- Rows and the flat list that stores them.
use Rattle.std.proofs.Common.{◌≡◌, ℕ, zero, suc, ◌+◌, ◌-◌, ◌*◌, ◌/◌, ◌%◌, ◌<◌, ◌≤◌, List, [], ◌∷◌, ◌++◌, length, get_or, map, take, drop, ℤ, refl, sym, ap, ◌∙◌, inl, inr, arith}
use Rattle.std.specs.List.{All}
use Rattle.std.proofs.lemmas.Bool.{cases_lt}
use Rattle.std.proofs.lemmas.List.Concat.{flat_map-append}
use Rattle.std.proofs.lemmas.List.{append-nil, length-append, length_push, length-take, length-drop, take_at, take_all, take-append-le, drop_at, drop-append-le, drop-drop, get_or-take, get_or-drop, get_or_append_left, get_or_push, map_push, same_lists, take_more, drop_more}
use Rattle.std.proofs.lemmas.List.FromFn.{length-map-range_with_len, get_or-map-range_with_len}
use Rattle.std.proofs.lemmas.List.Elements.{All-head, All-tail}
use Rattle.std.proofs.lemmas.Nat.{mul-le, div-add-mod', mod_below, div_below}
use Rattle.std.proofs.Math.Nat.{mul-div_cancel}
use Rattle.mesh_model.specs.Parts.{rows_of, cells_of}

-- how many rows there are
pub length-rows_of : (width : ℕ) (cells : List ℤ) → length (rows_of width cells) ≡ length cells / width
length-rows_of width cells = length-map-range_with_len (λ (i : ℕ). take width (drop (i * width) cells)) 0 (length cells / width)

-- as many whole rows as there are
pub length-rows : (width count : ℕ) (cells : List ℤ) → 0 < width → length cells ≡ count * width → length (rows_of width cells) ≡ count
length-rows width count cells wide whole = length-rows_of width cells ∙ ap (λ n. n / width) whole ∙ mul-div_cancel count wide

-- row i
pub get_or-rows_of : (width : ℕ) (cells : List ℤ) (i : ℕ) (d : List ℤ) → i < length cells / width → get_or (rows_of width cells) i d ≡ take width (drop (i * width) cells)
get_or-rows_of width cells i d below = get_or-map-range_with_len (λ (i : ℕ). take width (drop (i * width) cells)) 0 (length cells / width) i i d below (omega arith)

-- a stored row has `width` cells
pub length-stored_row : (width count : ℕ) (cells : List ℤ) (i : ℕ) → length cells ≡ count * width → i < count → length (take width (drop (i * width) cells)) ≡ width
length-stored_row width count cells i whole below =
    let fits : (i + 1) * width ≤ count * width = mul-le (i + 1) width count width (omega arith) (omega arith) in
    simp (length-take, length-drop) (omega arith)

-- so it has as one of the rows
pub row_long : (width count : ℕ) (cells : List ℤ) (i : ℕ) → 0 < width → length cells ≡ count * width → i < count → length (get_or (rows_of width cells) i []) ≡ width
row_long width count cells i wide whole below =
    ap length (get_or-rows_of width cells i [] (omega (arith, below, length-rows_of width cells, length-rows width count cells wide whole)))
    ∙ length-stored_row width count cells i whole below

-- cell j of row i
pub get_or-stored_row : (width : ℕ) (cells : List ℤ) (i j : ℕ) (d : ℤ) → j < width → get_or (take width (drop (i * width) cells)) j d ≡ get_or cells (i * width + j) d
get_or-stored_row width cells i j d below = get_or-take width (drop (i * width) cells) j d below ∙ get_or-drop (i * width) cells j d

-- as many cells as rows times their width
pub length-cells_of : (width : ℕ) (points : List (List ℤ)) → All (λ row. length row ≡ width) points → length (cells_of points) ≡ length points * width
length-cells_of width [] long = omega arith
length-cells_of width (row ∷ points) long =
    let here : length row ≡ width = All-head (λ (r : List ℤ). length r ≡ width) row points long in
    let more = length-cells_of width points (All-tail (λ (r : List ℤ). length r ≡ width) row points long) in
    length-append row (cells_of points) ∙ omega (arith, here, more)

-- one more row
pub cells_of-push : (points : List (List ℤ)) (row : List ℤ) → cells_of (points ++ row ∷ []) ≡ cells_of points ++ row
cells_of-push points row =
    flat_map-append (λ (r : List ℤ). r) points (row ∷ []) ∙ ap (λ xs. cells_of points ++ xs) (append-nil row)

-- the row of one number more
pub cells_of-map_more : (row : ℕ → List ℤ) (numbers : List ℕ) (i : ℕ) → i < length numbers → cells_of (map row (take (i + 1) numbers)) ≡ cells_of (map row (take i numbers)) ++ row (get_or numbers i 0)
cells_of-map_more row numbers i inside =
    ap (λ ns. cells_of (map row ns)) (take_more numbers i 0 inside)
    ∙ ap cells_of (map_push row (take i numbers) (get_or numbers i 0))
    ∙ cells_of-push (map row (take i numbers)) (row (get_or numbers i 0))

drop_nil : (n : ℕ) → drop {A = ℤ} n [] ≡ []
drop_nil zero = refl
drop_nil (suc n) = refl

-- what is left of the cells after i rows
pub drop-cells_of : (width : ℕ) (points : List (List ℤ)) (i : ℕ) → All (λ row. length row ≡ width) points → drop (i * width) (cells_of points) ≡ cells_of (drop i points)
drop-cells_of width points zero long = let none : 0 * width ≡ 0 = omega arith in ap (λ n. drop n (cells_of points)) none
drop-cells_of width [] (suc i) long = drop_nil (suc i * width)
drop-cells_of width (row ∷ points) (suc i) long =
    let here : length row ≡ width = All-head (λ (r : List ℤ). length r ≡ width) row points long in
    let more : suc i * width ≡ length row + i * width = omega arith in
    ap (λ n. drop n (row ++ cells_of points)) more
    ∙ sym (drop-drop (i * width) (length row) (row ++ cells_of points))
    ∙ ap (drop (i * width)) (drop_at row (cells_of points) (length row) refl)
    ∙ drop-cells_of width points i (All-tail (λ (r : List ℤ). length r ≡ width) row points long)

-- as many whole rows as there were
pub length-cells_of-div : (width : ℕ) (points : List (List ℤ)) → 0 < width → All (λ row. length row ≡ width) points → length (cells_of points) / width ≡ length points
length-cells_of-div width points wide long =
    ap (λ n. n / width) (length-cells_of width points long) ∙ mul-div_cancel (length points) wide

-- cell j of row i stands in the flat list at i * width + j
pub get_or-cells_of : (width : ℕ) (points : List (List ℤ)) (i j : ℕ) (d : ℤ) → All (λ row. length row ≡ width) points → i < length points → j < width → get_or (cells_of points) (i * width + j) d ≡ get_or (get_or points i []) j d
get_or-cells_of width points i j d long below narrow =
    let here : length (get_or points i []) ≡ width = long i [] below in
    sym (get_or-drop (i * width) (cells_of points) j d)
    ∙ ap (λ xs. get_or xs j d) (drop-cells_of width points i long ∙ ap cells_of (drop_more points i [] below))
    ∙ get_or_append_left (get_or points i []) (cells_of (drop (i + 1) points)) d j (omega arith)

-- the rows of the flat list of rows are the rows
pub rows_of-cells_of : (width : ℕ) (points : List (List ℤ)) → 0 < width → All (λ row. length row ≡ width) points → rows_of width (cells_of points) ≡ points
rows_of-cells_of width points wide long =
    let many = length-cells_of-div width points wide long in
    same_lists (rows_of width (cells_of points)) points (length-rows_of width (cells_of points) ∙ many)
    (λ k d below.
    let fewer : k < length (cells_of points) / width = omega (arith, below, length-rows_of width (cells_of points)) in
    let inside : k < length points = omega (arith, fewer, many) in
    let here : length (get_or points k d) ≡ width = long k d inside in
    get_or-rows_of width (cells_of points) k d fewer
    ∙ ap (take width) (drop-cells_of width points k long ∙ ap cells_of (drop_more points k d inside))
    ∙ take_at (get_or points k d) (cells_of (drop (k + 1) points)) width here)

-- the flat list of the rows of whole rows is that list
pub cells_back : (width count : ℕ) (cells : List ℤ) → 0 < width → length cells ≡ count * width → cells_of (rows_of width cells) ≡ cells
cells_back width count cells wide whole =
    let many : length (rows_of width cells) ≡ count = length-rows width count cells wide whole in
    let long : All (λ row. length row ≡ width) (rows_of width cells) = λ i d b.
    ap length (get_or-rows_of width cells i d (omega (arith, b, length-rows_of width cells)))
    ∙ length-stored_row width count cells i whole (omega (arith, b, many)) in
    let all : length (cells_of (rows_of width cells)) ≡ length cells = length-cells_of width (rows_of width cells) long ∙ ap (λ n. n * width) many ∙ sym whole in
    same_lists (cells_of (rows_of width cells)) cells all
    (λ k d below.
    let i = k / width in
    let j = k % width in
    let narrow : j < width = mod_below k width wide in
    let inside : i < count = div_below k width count wide (omega (arith, below, all, whole)) in
    let place : i * width + j ≡ k = div-add-mod' k width in
    ap (λ n. get_or (cells_of (rows_of width cells)) n d) (sym place)
    ∙ get_or-cells_of width (rows_of width cells) i j d long (omega (arith, inside, many)) narrow
    ∙ ap (λ row. get_or row j d) (get_or-rows_of width cells i [] (omega (arith, inside, many, length-rows_of width cells)))
    ∙ get_or-stored_row width cells i j d narrow
    ∙ ap (λ n. get_or cells n d) place)

-- the rows of whole rows and one more
pub rows_of-push : (width count : ℕ) (cells row : List ℤ) → 0 < width → length cells ≡ count * width → length row ≡ width → rows_of width (cells ++ row) ≡ rows_of width cells ++ row ∷ []
rows_of-push width count cells row wide whole long =
    let more : length (cells ++ row) ≡ (count + 1) * width = length-append cells row ∙ omega (arith, whole, long) in
    let before : length (rows_of width cells) ≡ count = length-rows width count cells wide whole in
    let after : length (rows_of width (cells ++ row)) ≡ count + 1 = length-rows width (count + 1) (cells ++ row) wide more in
    same_lists (rows_of width (cells ++ row)) (rows_of width cells ++ row ∷ []) (after ∙ sym (length_push (rows_of width cells) row ∙ ap (λ n. n + 1) before))
    (λ k d below.
    get_or-rows_of width (cells ++ row) k d (omega (arith, below, length-rows_of width (cells ++ row)))
    ∙ elim (cases_lt k count) [
      | inl early ↦
          let fits : (k + 1) * width ≤ count * width = mul-le (k + 1) width count width (omega arith) (omega arith) in
          let left : length (drop (k * width) cells) ≡ length cells - k * width = length-drop (k * width) cells in
          ap (take width) (drop-append-le (k * width) cells row (omega (arith, fits, whole)))
          ∙ take-append-le width (drop (k * width) cells) row (omega (arith, fits, whole, left))
          ∙ sym (get_or_append_left (rows_of width cells) (row ∷ []) d k (omega (arith, early, before))
          ∙ get_or-rows_of width cells k d (omega (arith, early, before, length-rows_of width cells)))
      | inr past ↦
          let at : count ≡ k = omega (arith, past, below, after) in
          ap (λ n. take width (drop (n * width) (cells ++ row))) (sym at)
          ∙ ap (take width) (drop_at cells row (count * width) whole)
          ∙ take_all width row (omega (arith, long))
          ∙ sym (get_or_push (rows_of width cells) row d k (before ∙ at))
    ])
