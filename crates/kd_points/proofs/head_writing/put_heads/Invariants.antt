use Rattle.std.proofs.Common.{◌≡◌, ◌++◌, ◌<◌, ℕ, take, flat_map, get_or}
use Rattle.attr_heads.specs.declared.heads.Head.{Head}
use Rattle.kd_points.specs.Laws.{KdHeadFits}
use Rattle.kd_points.specs.Written.{kd_head_bytes}
use Rattle.kd_points.proofs.head_writing.put_heads.Given as goal

abbrev pub invariant-loop-head : goal.invariant-loop-head
invariant-loop-head l = (l.out.items ≡ l.fn.out.items ++ flat_map kd_head_bytes (take l.head-index l.heads)) × ((j : ℕ) (d : Head) → j < l.head-index → KdHeadFits (get_or l.heads j d))
