-- How many cells the points of columns have.
use Rattle.std.proofs.Common.{◌≡◌, ℕ, zero, suc, ◌+◌, ◌*◌, ◌%◌, ◌<◌, ◌≤◌, List, [], ◌∷◌, length, take, drop, refl, arith, length-append, length-take-le}
use Rattle.std.specs.List.{flat_map, range_with_len}
use Rattle.std.proofs.lemmas.List.{length-drop}
use Rattle.std.proofs.lemmas.List.Sums.{sum_by-cons}
use Rattle.std.proofs.Math.Nat.{mul-mod_left}
use Rattle.attr_heads.specs.declared.heads.Head.{Head}
use Rattle.attr_heads.specs.Head.{width_of}
use Rattle.attr_section.specs.declared.values.Values.{Values}
use Rattle.drc_container.specs.Columns.{column_row, cells_at}
use Rattle.attr_section.specs.Attributes.{AreColumns}
use Rattle.drc_container.proofs.lemmas.reading.Rows.{columns, piece_within}

length-row_at : (n i : ℕ) (heads : List Head) (values : List Values) → AreColumns n heads values → i < n
    → length (column_row heads (columns values) i) ≡ width_of heads
length-row_at n i [] [] are below = refl
length-row_at n i [] (v ∷ values) are below = absurd are
length-row_at n i (h ∷ heads) [] are below = absurd are
length-row_at n i (h ∷ heads) (v ∷ values) are below =
    let whole : width_of (h ∷ heads) ≡ h.comps + width_of heads = sum_by-cons (λ x. x.comps) h heads in
    let piece : length (take h.comps (drop (i * h.comps) v.values)) ≡ h.comps =
    length-take-le h.comps (drop (i * h.comps) v.values) (rw (length-drop (i * h.comps) v.values) (omega (arith, piece_within n i h.comps (length v.values) below are.0))) in
    rw (length-append (take h.comps (drop (i * h.comps) v.values)) (column_row heads (columns values) i), piece, length-row_at n i heads values are.1 below, whole) refl

length-rows : (n : ℕ) (heads : List Head) (values : List Values) (a m : ℕ) → AreColumns n heads values → a + m ≤ n
    → length (flat_map (column_row heads (columns values)) (range_with_len a m)) ≡ m * width_of heads
length-rows n heads values a zero are within = omega arith
length-rows n heads values a (suc m) are within =
    rw (
      length-append (column_row heads (columns values) a) (flat_map (column_row heads (columns values)) (range_with_len (a + 1) m)),
      length-row_at n a heads values are (omega (arith, within)),
      length-rows n heads values (a + 1) m are (omega (arith, within)),
    ) (omega arith)

-- the cells are whole rows
pub cells_at-whole : (n : ℕ) (heads : List Head) (values : List Values) → AreColumns n heads values
    → length (cells_at heads (columns values) n) % width_of heads ≡ 0
cells_at-whole n heads values are = rw (length-rows n heads values 0 n are (omega arith)) (mul-mod_left n (width_of heads))
