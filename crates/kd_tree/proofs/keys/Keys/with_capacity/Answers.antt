use Rattle.std.proofs.Common.{refl}
use Rattle.kd_tree.specs.Packing.{keys_in}
use Rattle.kd_tree.proofs.keys.Keys.with_capacity.Goals as goal

pub returns : goal.returns
unfolding keys_in
returns c = refl
