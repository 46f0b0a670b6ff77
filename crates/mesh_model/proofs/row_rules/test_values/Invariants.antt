use Rattle.std.proofs.Common.{◌≡◌, ◌<◌, ◌+◌, ◌*◌, ◌%◌, ℕ, true, get_or, pos}
use Rattle.attr_heads.specs.Bounds.{in_bounds, no_bounds}
use Rattle.attr_heads.specs.Head.{row_bounds, width_of}
use Rattle.mesh_model.proofs.row_rules.test_values.Given as goal

-- the cells so far are within their bounds, and the column is that of the next cell
abbrev pub invariant-loop-i : goal.invariant-loop-i
invariant-loop-i l =
    ((k : ℕ) → k < l.i → in_bounds (get_or (row_bounds l.heads) (k % width_of l.heads) no_bounds) (get_or l.cells k (pos 0)) ≡ true)
    × (l.column < l.width)
    × ((r : ℕ) × (l.i ≡ r * l.width + l.column))
