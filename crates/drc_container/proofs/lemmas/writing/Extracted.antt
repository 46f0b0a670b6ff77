-- Columns taken from points, a point and an attribute at a time.
use Rattle.std.proofs.Common.{◌≡◌, ℕ, suc, ◌+◌, ◌<◌, ◌≤◌, ℤ, List, [], ◌∷◌, ◌++◌, map, length, take, drop, get_or, refl, sym, ◌∙◌, ap, arith, append_assoc, append-nil, drop-cons, drop-drop, add-one, map-id}
use Rattle.std.specs.List.{flat_map}
use Rattle.std.proofs.lemmas.Grind.{flat_map-append}
use Rattle.std.proofs.lemmas.List.{drop_all, take_more, take_all}
use Rattle.std.proofs.lemmas.List.Folds.{flat_map-map}
use Rattle.std.proofs.lemmas.List.Sums.{sum_by-cons}
use Rattle.std.proofs.lemmas.Simd.{map-map}
use Rattle.attr_heads.specs.declared.heads.Head.{Head}
use Rattle.attr_heads.specs.Head.{width_of}
use Rattle.attr_section.specs.declared.values.Values.{Values}
use Rattle.drc_container.specs.declared.choice.predicts.Predict.{Predict}
use Rattle.drc_container.specs.Columns.{columns_of}
use Rattle.drc_container.specs.choice.Predicts.{asked}
use Rattle.drc_container.specs.writing.Written.{asked_values}

-- one point more of a column
pub column-next : (piece : List ℤ → List ℤ) (points : List (List ℤ)) (i : ℕ) (d : List ℤ) → i < length points
    → flat_map piece (take (i + 1) points) ≡ flat_map piece (take i points) ++ piece (get_or points i d)
column-next piece points i d has =
    ap (flat_map piece) (take_more points i d has)
    ∙ flat_map-append piece (take i points) (get_or points i d ∷ [])
    ∙ ap (λ l. flat_map piece (take i points) ++ l) (append-nil (piece (get_or points i d)))

-- all points
pub column-end : (piece : List ℤ → List ℤ) (points : List (List ℤ)) (i : ℕ) → length points ≤ i → flat_map piece (take i points) ≡ flat_map piece points
column-end piece points i done = ap (flat_map piece) (take_all i points done)

-- the columns from attribute k on, whose integers begin at `start` in each point
abbrev pub columns_from : List Head → List (List ℤ) → ℕ → ℕ → List (List ℤ)
columns_from heads points k start = columns_of (drop k heads) (map (λ row. drop start row) points)

-- their values
abbrev pub values_from : Predict → List Head → List (List ℤ) → ℕ → ℕ → List Values
values_from p heads points k start = asked_values p (drop k heads) (columns_from heads points k start)

-- the first attribute begins with a point
pub values-start : (p : Predict) (heads : List Head) (points : List (List ℤ)) → [] ++ values_from p heads points 0 0 ≡ asked_values p heads (columns_of heads points)
values-start p heads points = ap (λ rows. asked_values p heads (columns_of heads rows)) (map-id points)

-- one attribute more
pub values-next : (p : Predict) (heads : List Head) (points : List (List ℤ)) (k start : ℕ) (h : Head) (column : List ℤ) (front whole : List Values)
    → front ++ values_from p heads points k start ≡ whole → k < length heads → h ≡ get_or heads k h
    → column ≡ flat_map (λ row. take h.comps (drop start row)) points
    → (front ++ record { values = column; predict = asked p h; at = 0 } ∷ []) ++ values_from p heads points (k + 1) (start + h.comps) ≡ whole
values-next p heads points k start h column front whole so has is_h is_column =
    let rows = map (λ (row : List ℤ). drop start row) points in
    let piece : flat_map (λ row. take h.comps row) rows ≡ column = flat_map-map (λ (row : List ℤ). take h.comps row) (λ (row : List ℤ). drop start row) points ∙ sym is_column in
    let rest : map (λ row. drop h.comps row) rows ≡ map (λ row. drop (start + h.comps) row) points =
    map-map (λ (row : List ℤ). drop h.comps row) (λ (row : List ℤ). drop start row) points ∙ ap (λ (f : List ℤ → List ℤ). map f points) (λ i row. drop-drop h.comps start row i) in
    append_assoc front (record { values = column; predict = asked p h; at = 0 } ∷ []) (values_from p heads points (k + 1) (start + h.comps))
    ∙ ap (λ l. front ++ l) (sym (rw (drop-cons heads k h has, ← is_h, piece, rest, add-one k) refl))
    ∙ so

-- no attribute is left
pub values-end : (p : Predict) (heads : List Head) (points : List (List ℤ)) (k start : ℕ) (front whole : List Values)
    → front ++ values_from p heads points k start ≡ whole → length heads ≤ k → front ≡ whole
values-end p heads points k start front whole so done =
    sym (append-nil front) ∙ ap (λ l. front ++ l) (sym (rw (drop_all k heads done) refl)) ∙ so

-- the integers of an attribute lie in a point
pub width-next : (heads : List Head) (k start : ℕ) (h : Head) → start + width_of (drop k heads) ≡ width_of heads → k < length heads → h ≡ get_or heads k h
    → (start + h.comps) + width_of (drop (k + 1) heads) ≡ width_of heads
width-next heads k start h so has is =
    let whole : width_of (drop k heads) ≡ h.comps + width_of (drop (k + 1) heads) =
    rw (drop-cons heads k h has, ← is, add-one k) (sum_by-cons (λ (x : Head). x.comps) h (drop (suc k) heads)) in
    omega (arith, so, whole)
