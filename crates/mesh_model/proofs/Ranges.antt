-- Where the first value outside the bounds of its column stands.
use Rattle.std.proofs.Common.{◌≡◌, ℕ, ◌+◌, ◌*◌, ◌%◌, ◌<◌, Bool, true, false, not, List, length, get_or, take, Some, None, ℤ, pos, sym, ap, ◌∙◌, zero-add, arith}
use Rattle.std.specs.List.{enumerate_from}
use Rattle.std.proofs.lemmas.List.{get_or-take}
use Rattle.std.proofs.lemmas.List.FromFn.{get_or-enumerate_from, length-enumerate_from}
use Rattle.std.proofs.lemmas.Nat.{mod-mul-add}
use Rattle.drc_base.specs.declared.kinds.Kind.TheVariants.{ValueRange}
use Rattle.attr_heads.specs.declared.heads.Head.{Head}
use Rattle.attr_heads.specs.FirstFault.{at_place}
use Rattle.attr_heads.specs.declared.bounds.Bounds.{Bounds}
use Rattle.attr_heads.specs.Bounds.{in_bounds, no_bounds}
use Rattle.attr_heads.specs.Head.{row_bounds, width_of}
use Rattle.mesh_model.specs.Parts.{range_fault}
use Rattle.mesh_model.proofs.Places.{position-none, position-at, position-none_back}
use Rattle.attr_heads.proofs.FirstFaults.{at_place-none}
use Rattle.std.proofs.lemmas.Bool.{not-false}

-- whether cell k is within its bounds
abbrev pub fits_at : List Head → List ℤ → ℕ → Bool
fits_at heads cells k = in_bounds (get_or (row_bounds heads) (k % width_of heads) no_bounds) (get_or cells k (pos 0))

-- the test of an enumerated cell
abbrev fails_at : List Head → ℕ × ℤ → Bool
fails_at heads (i, value) = not (in_bounds (get_or (row_bounds heads) (i % width_of heads) no_bounds) value)

fails_at-get_or : (heads : List Head) (cells : List ℤ) (k : ℕ) → k < length cells → fails_at heads (get_or (enumerate_from 0 cells) k (0, pos 0)) ≡ not (fits_at heads cells k)
fails_at-get_or heads cells k inside =
    ap (fails_at heads) (get_or-enumerate_from 0 cells k (0, pos 0) inside) ∙ ap (λ i. fails_at heads (i, get_or cells k (pos 0))) (zero-add k)

-- every cell is within its bounds
pub range_fault-none : (heads : List Head) (cells : List ℤ) → ((k : ℕ) → k < length cells → fits_at heads cells k ≡ true) → range_fault heads cells ≡ None
unfolding range_fault
range_fault-none heads cells fit =
    let long : length (enumerate_from 0 cells) ≡ length cells = length-enumerate_from 0 cells in
    ap (at_place ValueRange) (position-none (fails_at heads) (enumerate_from 0 cells) (0, pos 0)
    (λ k below. let inside : k < length cells = omega arith in fails_at-get_or heads cells k inside ∙ ap not (fit k inside)))

-- cell i is the first that is not
pub range_fault-at : (heads : List Head) (cells : List ℤ) (i : ℕ) → i < length cells → ((k : ℕ) → k < i → fits_at heads cells k ≡ true) → fits_at heads cells i ≡ false → range_fault heads cells ≡ Some (record { kind = ValueRange; at = i })
unfolding range_fault
range_fault-at heads cells i inside fit fails =
    let long : length (enumerate_from 0 cells) ≡ length cells = length-enumerate_from 0 cells in
    ap (at_place ValueRange) (position-at (fails_at heads) (enumerate_from 0 cells) i (0, pos 0) (omega arith)
    (λ k below. let inside : k < length cells = omega arith in fails_at-get_or heads cells k inside ∙ ap not (fit k below))
    (fails_at-get_or heads cells i inside ∙ ap not fails))

-- the bounds of a column, read from an array that has those of the row at its front
pub fits_at-column : (heads : List Head) (cells : List ℤ) (bounds : List Bounds) (k r column : ℕ) → take (width_of heads) bounds ≡ row_bounds heads → k ≡ r * width_of heads + column → column < width_of heads → fits_at heads cells k ≡ in_bounds (get_or bounds column no_bounds) (get_or cells k (pos 0))
fits_at-column heads cells bounds k r column front place narrow =
    let at : k % width_of heads ≡ column = ap (λ n. n % width_of heads) place ∙ mod-mul-add r (width_of heads) column narrow in
    let same : get_or (row_bounds heads) (k % width_of heads) no_bounds ≡ get_or bounds column no_bounds =
    ap (λ n. get_or (row_bounds heads) n no_bounds) at ∙ ap (λ xs. get_or xs column no_bounds) (sym front) ∙ get_or-take (width_of heads) bounds column no_bounds narrow in
    ap (λ b. in_bounds b (get_or cells k (pos 0))) same

-- where there is no fault, every cell is within its bounds
pub range_fault-none_back : (heads : List Head) (cells : List ℤ) → range_fault heads cells ≡ None → (k : ℕ) → k < length cells → fits_at heads cells k ≡ true
unfolding range_fault
range_fault-none_back heads cells none k inside =
    let long : length (enumerate_from 0 cells) ≡ length cells = length-enumerate_from 0 cells in
    let fails = position-none_back (fails_at heads) (enumerate_from 0 cells) (at_place-none ValueRange _ none) k (0, pos 0) (omega arith) in
    not-false (fits_at heads cells k) (sym (fails_at-get_or heads cells k inside) ∙ fails)
