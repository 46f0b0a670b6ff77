-- The values of a geometry's attributes are values that attributes may have.
use Rattle.std.proofs.Common.{◌≡◌, ℕ, suc, ◌+◌, ◌*◌, ◌<◌, ◌≤◌, true, false, ℤ, pos, List, [], ◌∷◌, map, length, take, drop, get_or, None, refl, sym, ◌∙◌, ap, subst, arith, length-append, length-take-le, replicate}
use Rattle.std.specs.List.{All, flat_map, list_all, zip}
use Rattle.std.proofs.lemmas.List.{length-drop, length-map, length-replicate, get_or_append_left, get_or-append-add, get_or-replicate, get_or-take, get_or-drop}
use Rattle.std.proofs.lemmas.List.Sums.{sum_by-cons, list_all-from_AllPass}
use Rattle.std.proofs.lemmas.List.Folds.{list_all-append}
use Rattle.std.proofs.lemmas.List.Elements.{All-nil, All-cons, All-head, All-tail, All-map, All-weaker, All-from_get_or}
use Rattle.std.proofs.lemmas.Bool.{and_from, false≢true}
use Rattle.std.proofs.Math.Nat.{mul-mod_left, mul-le-mul_left}
use Rattle.drc_base.specs.declared.limits.TheConstants.{MAX_VALUES}
use Rattle.attr_heads.specs.declared.bounds.Bounds.{Bounds}
use Rattle.attr_heads.specs.declared.heads.Head.{Head}
use Rattle.attr_heads.specs.Bounds.{in_bounds, no_bounds, bounds_of}
use Rattle.attr_heads.specs.Head.{width_of, row_bounds}
use Rattle.mesh_model.specs.Parts.{RowFits}
use Rattle.attr_heads.proofs.Passing.{HeadSays}
use Rattle.predict.specs.Wrap.{CanWrap}
use Rattle.predict.specs.Schemes.{facts}
use Rattle.attr_section.specs.declared.values.Values.{Values}
use Rattle.attr_section.specs.Attributes.{values_in}
use Rattle.attr_section.specs.WrittenParts.{range_of}
use Rattle.attr_section.specs.Written.{ValuesPass, HaveEntries}
use Rattle.drc_container.specs.declared.choice.predicts.Predict.{Predict}
use Rattle.drc_container.specs.choice.Predicts.{plain_of, asked}
use Rattle.drc_container.specs.choice.CanCode.{wraps}
use Rattle.drc_container.specs.Columns.{columns_of}
use Rattle.drc_container.specs.writing.Written.{asked_values}
use Rattle.drc_container.proofs.lemmas.writing.Asking.{can-ask}

width-cons : (h : Head) (heads : List Head) → width_of (h ∷ heads) ≡ h.comps + width_of heads
width-cons h heads = sum_by-cons (λ (x : Head). x.comps) h heads

-- the integers of the first attribute are within its bounds
fits-first : (h : Head) (heads : List Head) (row : List ℤ) → RowFits (h ∷ heads) row → list_all (in_bounds (bounds_of h)) (take h.comps row) ≡ true
fits-first h heads row fits =
    let whole = width-cons h heads in
    let len : length (take h.comps row) ≡ h.comps = length-take-le h.comps row (omega (arith, whole, fits.0)) in
    list_all-from_AllPass (in_bounds (bounds_of h)) (take h.comps row) (All-from_get_or (λ x. in_bounds (bounds_of h) x ≡ true) (take h.comps row) (pos 0) (λ j below.
    let short : j < h.comps = omega (arith, below, len) in
    let inside : j < length (replicate h.comps (bounds_of h)) = omega (arith, short, length-replicate h.comps (bounds_of h)) in
    let typed : get_or (row_bounds (h ∷ heads)) j no_bounds ≡ bounds_of h = get_or_append_left (replicate h.comps (bounds_of h)) (row_bounds heads) no_bounds j inside ∙ get_or-replicate h.comps j (bounds_of h) no_bounds short in
    ap (in_bounds (bounds_of h)) (get_or-take h.comps row j (pos 0) short)
    ∙ sym (ap (λ b. in_bounds b (get_or row j (pos 0))) typed)
    ∙ fits.1 j (omega (arith, whole, short))))

-- the other integers fit the other attributes
fits-rest : (h : Head) (heads : List Head) (row : List ℤ) → RowFits (h ∷ heads) row → RowFits heads (drop h.comps row)
fits-rest h heads row fits =
    let whole = width-cons h heads in (
      length-drop h.comps row ∙ omega (arith, whole, fits.0),
      λ j below.
          let typed : get_or (row_bounds (h ∷ heads)) (h.comps + j) no_bounds ≡ get_or (row_bounds heads) j no_bounds =
          ap (λ n. get_or (row_bounds (h ∷ heads)) (n + j) no_bounds) (sym (length-replicate h.comps (bounds_of h))) ∙ get_or-append-add (replicate h.comps (bounds_of h)) (row_bounds heads) j no_bounds in
          ap (in_bounds (get_or (row_bounds heads) j no_bounds)) (get_or-drop h.comps row j (pos 0))
          ∙ sym (ap (λ b. in_bounds b (get_or row (h.comps + j) (pos 0))) typed)
          ∙ fits.1 (h.comps + j) (omega (arith, whole, below)),
    )

-- a column has an integer of each component for each row
column-length : (comps : ℕ) (rows : List (List ℤ)) → All (λ row. comps ≤ length row) rows → length (flat_map (λ row. take comps row) rows) ≡ length rows * comps
column-length comps [] wide = omega arith
column-length comps (row ∷ rows) wide =
    let first : length (take comps row) ≡ comps = length-take-le comps row (All-head (λ (r : List ℤ). comps ≤ length r) row rows wide) in
    let rest = column-length comps rows (All-tail (λ (r : List ℤ). comps ≤ length r) row rows wide) in
    length-append (take comps row) (flat_map (λ row. take comps row) rows) ∙ omega (arith, first, rest)

-- a column is within bounds where each of its pieces is
column-typed : (b : Bounds) (comps : ℕ) (rows : List (List ℤ)) → All (λ row. list_all (in_bounds b) (take comps row) ≡ true) rows → list_all (in_bounds b) (flat_map (λ row. take comps row) rows) ≡ true
column-typed b comps [] typed = refl
column-typed b comps (row ∷ rows) typed =
    list_all-append (in_bounds b) (take comps row) (flat_map (λ row. take comps row) rows)
    ∙ and_from _ _ (All-head (λ (r : List ℤ). list_all (in_bounds b) (take comps r) ≡ true) row rows typed)
    (column-typed b comps rows (All-tail (λ (r : List ℤ). list_all (in_bounds b) (take comps r) ≡ true) row rows typed))

-- columns have as many values as the rows have integers
pub columns-total : (p : Predict) (heads : List Head) (rows : List (List ℤ)) → All (RowFits heads) rows
    → values_in (asked_values p heads (columns_of heads rows)) ≡ length rows * width_of heads
columns-total p [] rows fit = omega arith
columns-total p (h ∷ heads) rows fit =
    let n = length rows in
    let whole = width-cons h heads in
    let column = flat_map (λ (row : List ℤ). take h.comps row) rows in
    let v : Values = record { values = column; predict = asked p h; at = 0 } in
    let others = map (λ (row : List ℤ). drop h.comps row) rows in
    let same : length others ≡ n = length-map rows (λ (row : List ℤ). drop h.comps row) in
    let len : length column ≡ n * h.comps = column-length h.comps rows (All-weaker (RowFits (h ∷ heads)) (λ row. h.comps ≤ length row) (λ row fits. omega (arith, whole, fits.0)) rows fit) in
    let all : n * width_of (h ∷ heads) ≡ n * h.comps + n * width_of heads = ap (λ w. n * w) whole ∙ omega arith in
    let rest : values_in (asked_values p heads (columns_of heads others)) ≡ n * width_of heads =
    columns-total p heads others (All-map (RowFits heads) (λ row. drop h.comps row) rows (All-weaker (RowFits (h ∷ heads)) (λ row. RowFits heads (drop h.comps row)) (λ row fits. fits-rest h heads row fits) rows fit))
    ∙ ap (λ k. k * width_of heads) same in
    sum_by-cons (λ (x : Values). length x.values) v (asked_values p heads (columns_of heads others)) ∙ omega (arith, len, all, rest)

-- the values of attributes may be those of n entries
pub record ColumnsPass (n : ℕ) (heads : List Head) (values : List Values) : Type 0 where
  pub each : All (λ (h, v). ValuesPass None h v) (zip heads values)
  pub entries : HaveEntries n heads values
  pub total : values_in values ≡ n * width_of heads
  pub each_head : length values ≡ length heads

-- attributes with these heads lie near enough, where they wrap
abbrev AreNear : List Head → List Values → Type 0
AreNear heads values = All (λ (h, v). wraps h v ≡ true → CanWrap (range_of v.values)) (zip heads values)

pub columns_pass : (p : Predict) (heads : List Head) (rows : List (List ℤ)) → (facts (plain_of p)).needs_surface ≡ false → All HeadSays heads → All (RowFits heads) rows → 0 < length rows
    → length rows * width_of heads ≤ MAX_VALUES → AreNear heads (asked_values p heads (columns_of heads rows))
    → ColumnsPass (length rows) heads (asked_values p heads (columns_of heads rows))
columns_pass p [] rows alone say fit some few near = record {
  each = All-nil (λ (h, v). ValuesPass None h v);
  entries = All-nil (λ (h, v). length v.values ≡ length rows * h.comps);
  total = omega arith;
  each_head = refl;
}
columns_pass p (h ∷ heads) rows alone say fit some few near =
    let n = length rows in
    let whole = width-cons h heads in
    let says : HeadSays h = All-head HeadSays h heads say in
    let column = flat_map (λ (row : List ℤ). take h.comps row) rows in
    let v : Values = record { values = column; predict = asked p h; at = 0 } in
    let others = map (λ (row : List ℤ). drop h.comps row) rows in
    let values = asked_values p heads (columns_of heads others) in
    let Near : Head × Values → Type 0 = λ (x, y). wraps x y ≡ true → CanWrap (range_of y.values) in
    let same : length others ≡ n = length-map rows (λ (row : List ℤ). drop h.comps row) in
    let len : length column ≡ n * h.comps = column-length h.comps rows (All-weaker (RowFits (h ∷ heads)) (λ row. h.comps ≤ length row) (λ row fits. omega (arith, whole, fits.0)) rows fit) in
    let all : n * width_of (h ∷ heads) ≡ n * h.comps + n * width_of heads = ap (λ w. n * w) whole ∙ omega arith in
    let rest : ColumnsPass (length others) heads values =
    columns_pass p heads others alone (All-tail HeadSays h heads say)
    (All-map (RowFits heads) (λ row. drop h.comps row) rows (All-weaker (RowFits (h ∷ heads)) (λ row. RowFits heads (drop h.comps row)) (λ row fits. fits-rest h heads row fits) rows fit))
    (omega (arith, some, same)) (subst (λ m. m * width_of heads ≤ MAX_VALUES) (sym same) (omega (arith, few, all))) (All-tail Near (h, v) (zip heads values) near) in
    let others_pass : ColumnsPass n heads values = subst (λ m. ColumnsPass m heads values) same rest in
    let there : 1 ≤ n * h.comps = product_some n h.comps some says.some in
    record {
      each = All-cons (λ (h, v). ValuesPass None h v) (h, v) (zip heads values) (record {
        comps = says.some;
        some = omega (arith, len, there);
        few = omega (arith, len, all, few);
        whole = rw len (mul-mod_left n h.comps);
        bounded = column-typed (bounds_of h) h.comps rows (All-weaker (RowFits (h ∷ heads)) (λ row. list_all (in_bounds (bounds_of h)) (take h.comps row) ≡ true) (λ row fits. fits-first h heads row fits) rows fit);
        asked = can-ask p h None v says refl (All-head Near (h, v) (zip heads values) near)
            (record { stand = λ needs. absurd (false≢true (sym alone ∙ needs)) }) (λ two. tt);
      }) others_pass.each;
      entries = All-cons (λ (h, v). length v.values ≡ n * h.comps) (h, v) (zip heads values) len others_pass.entries;
      total = sum_by-cons (λ (x : Values). length x.values) v values ∙ omega (arith, len, all, others_pass.total);
      each_head = ap (λ m. suc m) others_pass.each_head;
    }
  where
    product_some : (a b : ℕ) → 0 < a → 1 ≤ b → 1 ≤ a * b
    product_some a b some one = let more : a * 1 ≤ a * b = mul-le-mul_left a one in omega (arith, more, some)
