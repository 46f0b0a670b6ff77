use Rattle.std.proofs.Common.{◌≡◌, take}
use Rattle.attr_heads.specs.Head.{row_bounds, width_of}
use Rattle.mesh_model.proofs.row_rules.column_bounds.Given as goal

-- the bounds of the heads so far stand at the front
abbrev pub invariant-loop-head : goal.invariant-loop-head
invariant-loop-head l =
    (l.at ≡ width_of (take l.head-index l.heads)) × (take l.at l.bounds ≡ row_bounds (take l.head-index l.heads))
