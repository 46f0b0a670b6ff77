use Rattle.std.proofs.Common.{◌≡◌, ◌≤◌, map}
use Rattle.std.specs.List.{All, range_with_len}
use Rattle.kd_points.specs.Extents.{extent_of, column_of}
use Rattle.kd_points.proofs.extents.extents_of.Given as goal

abbrev pub invariant-loop-component : goal.invariant-loop-component
invariant-loop-component l =
    (l.extents.items ≡ map (λ component. extent_of (column_of component l.cloud.points)) (range_with_len 0 l.component))
    × All (λ e. e.bits ≤ 32) l.extents.items
