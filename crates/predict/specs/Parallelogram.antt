-- Prediction by a parallelogram (Draco Bitstream Specification 2.2, section "Mesh Parallelogram Prediction"; sums are taken to 32 bits in
-- two's complement).
use Rattle.std.specs.Prelude.{ℕ, ◌+◌, ◌*◌, ◌/◌, ◌%◌, ℤ, pos, ◌+ℤ◌, ◌-ℤ◌, List, length, slice_index_or, Option, Some, None}
use Rattle.std.specs.Int.{w32, int_wrap}
use Rattle.corner_table.specs.declared.corner_lists.FaceAcross.{FaceAcross}
use Rattle.predict.specs.Restored.{entry_before}
use Rattle.corner_table.specs.Ordered.{Ordered, corner_at, at_corner}

-- component j of the value of entry k
abbrev pub component : ℕ → List ℤ → ℕ → ℕ → ℤ
component comps values k j = slice_index_or values (k * comps + j) (pos 0)

-- the fourth corner of the parallelogram over a face, opposite to its corner across
unfoldable pub fourth : ℕ → FaceAcross → ℕ → List ℤ → ℤ
fourth comps t j v = int_wrap w32 ((component comps v t.after j +ℤ component comps v t.before j) -ℤ component comps v t.across j)

-- component j from a parallelogram, where there is one, else from the entry before
abbrev pub by_one : ℕ → Option FaceAcross → ℕ → List ℤ → ℤ
by_one comps None j before = entry_before comps before
by_one comps (Some t) j before = fourth comps t j before

-- the prediction by parallelogram, from the values before
unfoldable pub parallelogram : Ordered → ℕ → List ℤ → ℤ
parallelogram w comps before =
    let e = length before / comps in
    by_one comps (at_corner w e (corner_at w e)) (length before % comps) before
