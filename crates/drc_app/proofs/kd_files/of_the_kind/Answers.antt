-- A cloud of one attribute and no points passes all tests.
use Rattle.std.proofs.Common.{refl}
use Rattle.attr_heads.specs.Head as head
use Rattle.mesh_model.specs.Parts as parts
use Rattle.drc_app.proofs.kd_files.of_the_kind.Goals as goal

pub unwrap-requires : goal.unwrap-requires
unfolding head.heads_fault parts.range_fault
unwrap-requires c = rw (c.new-in-Cloud.ensures, c.in_ok-heads-in-Cloud.ensures.items, c.new.ensures.items) refl
