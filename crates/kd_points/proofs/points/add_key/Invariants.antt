use Rattle.std.proofs.Common.{◌≡◌, ℕ, ◌+◌, ◌<◌, length, get_or, drop}
use Rattle.kd_tree.specs.Keys.{key_at}
use Rattle.kd_points.specs.Keys.{offset_in}
use Rattle.kd_points.proofs.points.add_key.Given as goal

abbrev pub invariant-loop-d : goal.invariant-loop-d
invariant-loop-d l =
    let key = key_at l.keys.rows l.point in
    ((j : ℕ) → j < length l.offsets → get_or l.offsets j 0 + offset_in (drop l.d l.axes) (drop l.d key) j ≡ offset_in l.axes key j)
    × (length l.offsets ≡ length l.fn.offsets)
