-- The faces so far are walked.
use Rattle.std.proofs.Common.{◌≡◌, vec_len}
use Rattle.walk_order.specs.DepthFirst.{depth_walked}
use Rattle.walk_order.specs.Stored.{gluing_in, marked_walk, IsStored}
use Rattle.walk_order.proofs.depth_walk.walk_all.Given as goal

abbrev pub invariant-loop-face : goal.invariant-loop-face
invariant-loop-face l = record {
  stored : IsStored l.s l.marks;
  empty : vec_len l.stack ≡ 0;
  walk : marked_walk l.marks ≡ depth_walked l.s.faces (gluing_in l.s) l.s.labels.now l.s.ends.now l.face;
}
