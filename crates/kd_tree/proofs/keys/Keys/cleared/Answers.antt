use Rattle.std.proofs.Common.{[], ap}
use Rattle.kd_tree.specs.Keys.{KeyRows}
use Rattle.kd_tree.specs.Packing.{keys_in}
use Rattle.kd_tree.proofs.keys.Keys.cleared.Goals as goal

-- no keys of as many bits
abbrev none_like : KeyRows → KeyRows
none_like k = record { depth = k.depth; rows = [] }

pub returns : goal.returns
unfolding keys_in
returns c = ap none_like c.self.view_is
