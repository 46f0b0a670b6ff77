use Rattle.std.proofs.Common.{◌≡◌, ◌+◌, ◌++◌, drop}
use Rattle.attr_heads.specs.Head.{width_of}
use Rattle.mesh_model.specs.Contents.{heads_in, points_in}
use Rattle.drc_container.specs.writing.Written.{values_of}
use Rattle.drc_container.proofs.lemmas.writing.Extracted.{values_from}
use Rattle.drc_container.proofs.writing.coded_values.values_of.Given as goal

abbrev pub invariant-loop-head : goal.invariant-loop-head
invariant-loop-head l =
    (l.values.items ++ values_from l.predict (heads_in l.g) (points_in l.g) l.head-index l.start ≡ values_of l.g l.predict)
    × (l.start + width_of (drop l.head-index (heads_in l.g)) ≡ width_of (heads_in l.g))
