-- The parts of a row that belong to its attributes: each has the integers that its head says, and all of them are the row.
use Rattle.std.proofs.Common.{◌≡◌, ℕ, zero, suc, ◌+◌, ◌*◌, ◌<◌, true, ℤ, pos, List, [], ◌∷◌, length, take, drop, get_or, replicate, refl, sym, ap, ◌∙◌, subst, arith, length-append, length-take-le}
use Rattle.std.specs.List.{flat_map, list_all}
use Rattle.std.proofs.lemmas.List.{length-drop, length-replicate, get_or_append_left, get_or-append-add, get_or-replicate, get_or-take, get_or-drop, drop-drop}
use Rattle.std.proofs.lemmas.List.Elements.{All-head, All-tail, All-from_get_or}
use Rattle.std.proofs.lemmas.List.Folds.{list_all-append}
use Rattle.std.proofs.lemmas.List.Sums.{sum_by-cons, list_all-from_AllPass}
use Rattle.std.proofs.lemmas.Bool.{and_from}
use Rattle.attr_heads.specs.declared.heads.Head.{Head}
use Rattle.attr_heads.specs.Bounds.{in_bounds, no_bounds, bounds_of}
use Rattle.attr_heads.specs.Head.{width_of, row_bounds}
use Rattle.mesh_model.specs.Parts.{MeshParts, RowFits, IsMesh}
use Rattle.corner_table.specs.Sides.{Side}
use Rattle.seams.specs.Values.{piece}
use Rattle.drc_container.proofs.lemmas.surface.Walks.{AreOf}
use Rattle.drc_container.proofs.lemmas.surface.Decoded.{point_of, row_of, point-within}

width-cons : (h : Head) (heads : List Head) → width_of (h ∷ heads) ≡ h.comps + width_of heads
width-cons h heads = sum_by-cons (λ (x : Head). x.comps) h heads

-- integers as a head says them: as many as it has components, within its bounds
pub record IsPiece (h : Head) (piece : List ℤ) : Type 0 where
  pub long : length piece ≡ h.comps
  pub typed : list_all (in_bounds (bounds_of h)) piece ≡ true

-- the first integers of a row
first-piece : (h : Head) (heads : List Head) (row : List ℤ) → RowFits (h ∷ heads) row → IsPiece h (take h.comps row)
first-piece h heads row fits =
    let whole = width-cons h heads in
    let len : length (take h.comps row) ≡ h.comps = length-take-le h.comps row (omega (arith, whole, fits.0)) in
    record {
      long = len;
      typed = list_all-from_AllPass (in_bounds (bounds_of h)) (take h.comps row) (All-from_get_or (λ x. in_bounds (bounds_of h) x ≡ true) (take h.comps row) (pos 0) (λ j below.
          let short : j < h.comps = omega (arith, below, len) in
          let inside : j < length (replicate h.comps (bounds_of h)) = omega (arith, short, length-replicate h.comps (bounds_of h)) in
          let typed : get_or (row_bounds (h ∷ heads)) j no_bounds ≡ bounds_of h =
          get_or_append_left (replicate h.comps (bounds_of h)) (row_bounds heads) no_bounds j inside ∙ get_or-replicate h.comps j (bounds_of h) no_bounds short in
          ap (in_bounds (bounds_of h)) (get_or-take h.comps row j (pos 0) short)
          ∙ sym (ap (λ b. in_bounds b (get_or row j (pos 0))) typed)
          ∙ fits.1 j (omega (arith, whole, short))));
    }

-- the other integers fit the other heads
rest-fits : (h : Head) (heads : List Head) (row : List ℤ) → RowFits (h ∷ heads) row → RowFits heads (drop h.comps row)
rest-fits h heads row fits =
    let whole = width-cons h heads in (
      length-drop h.comps row ∙ omega (arith, whole, fits.0),
      λ j below.
          let typed : get_or (row_bounds (h ∷ heads)) (h.comps + j) no_bounds ≡ get_or (row_bounds heads) j no_bounds =
          ap (λ n. get_or (row_bounds (h ∷ heads)) (n + j) no_bounds) (sym (length-replicate h.comps (bounds_of h))) ∙ get_or-append-add (replicate h.comps (bounds_of h)) (row_bounds heads) j no_bounds in
          ap (in_bounds (get_or (row_bounds heads) j no_bounds)) (get_or-drop h.comps row j (pos 0))
          ∙ sym (ap (λ b. in_bounds b (get_or row (h.comps + j) (pos 0))) typed)
          ∙ fits.1 (h.comps + j) (omega (arith, whole, below)),
    )

-- the integers of attribute k
abbrev pub part : List Head → ℕ → List ℤ → List ℤ
part heads k row = take (width_of (take 1 (drop k heads))) (drop (width_of (take k heads)) row)

-- those of the first attribute are the first ones
pub part-first : (h : Head) (heads : List Head) (row : List ℤ) → part (h ∷ heads) 0 row ≡ take h.comps row
part-first h heads row =
    let wide : width_of (h ∷ []) ≡ h.comps = width-cons h [] ∙ omega arith in
    ap (λ n. take n row) wide

-- and those of another one stand behind them
part-next : (h : Head) (heads : List Head) (k : ℕ) (row : List ℤ) → part (h ∷ heads) (suc k) row ≡ part heads k (drop h.comps row)
part-next h heads k row =
    ap (λ n. take (width_of (take 1 (drop k heads))) (drop n row)) (width-cons h (take k heads))
    ∙ ap (take (width_of (take 1 (drop k heads)))) (sym (drop-drop (width_of (take k heads)) h.comps row))

-- a part of a row that fits is a piece
pub part-is : (heads : List Head) (k : ℕ) (d : Head) (row : List ℤ) → RowFits heads row → k < length heads → IsPiece (get_or heads k d) (part heads k row)
part-is [] k d row fits has = absurd (omega arith)
part-is (h ∷ heads) zero d row fits has = subst (IsPiece h) (sym (part-first h heads row)) (first-piece h heads row fits)
part-is (h ∷ heads) (suc k) d row fits has =
    subst (IsPiece (get_or heads k d)) (sym (part-next h heads k row)) (part-is heads k d (drop h.comps row) (rest-fits h heads row fits) (omega arith))

-- the width of the first attributes and of the next one
pub width-more : (heads : List Head) (k : ℕ) (d : Head) → k < length heads → width_of (take (suc k) heads) ≡ width_of (take k heads) + width_of (take 1 (drop k heads))
width-more [] k d has = absurd (omega arith)
width-more (h ∷ heads) zero d has = omega arith
width-more (h ∷ heads) (suc k) d has =
    let more = width-more heads k d (omega arith) in
    let one = width-cons h (take (suc k) heads) in
    let two = width-cons h (take k heads) in
    omega (arith, more, one, two)

-- the row of a corner fits the heads
pub row-fits : (m : MeshParts) → IsMesh m → (c : Side) → c.face < length m.faces → RowFits m.heads (row_of m c)
row-fits m is c within = is.points.rows_fit (point_of m c) [] (point-within m is c within)

-- the value of an attribute at a corner is a piece
pub piece-is : (m : MeshParts) → IsMesh m → (k : ℕ) (d : Head) → k < length m.heads → (c : Side) → c.face < length m.faces → IsPiece (get_or m.heads k d) (piece m k c)
piece-is m is k d has c within = part-is m.heads k d (row_of m c) (row-fits m is c within) has

-- ---- columns of pieces

-- a column of pieces is within the bounds of its head
pub pieces-typed : (m : MeshParts) → IsMesh m → (k : ℕ) (d : Head) → k < length m.heads → (order : List Side) → AreOf (length m.faces) order
    → list_all (in_bounds (bounds_of (get_or m.heads k d))) (flat_map (piece m k) order) ≡ true
pieces-typed m is k d has [] on = refl
pieces-typed m is k d has (c ∷ order) on =
    let P : Side → Type 0 = λ (x : Side). x.face < length m.faces in
    list_all-append (in_bounds (bounds_of (get_or m.heads k d))) (piece m k c) (flat_map (piece m k) order)
    ∙ and_from _ _ (piece-is m is k d has c (All-head P c order on)).typed (pieces-typed m is k d has order (All-tail P c order on))

-- and has a piece for each corner
pub pieces-long : (m : MeshParts) → IsMesh m → (k : ℕ) (d : Head) → k < length m.heads → (order : List Side) → AreOf (length m.faces) order
    → length (flat_map (piece m k) order) ≡ length order * (get_or m.heads k d).comps
pieces-long m is k d has [] on = omega arith
pieces-long m is k d has (c ∷ order) on =
    let P : Side → Type 0 = λ (x : Side). x.face < length m.faces in
    let one = (piece-is m is k d has c (All-head P c order on)).long in
    let more = pieces-long m is k d has order (All-tail P c order on) in
    length-append (piece m k c) (flat_map (piece m k) order) ∙ omega (arith, one, more)
