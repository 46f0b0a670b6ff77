use Rattle.kd_tree.proofs.Packed.{count-is, each-is}
use Rattle.kd_tree.proofs.keys.Keys.len.Goals as goal

pub returns-clause-len : goal.returns-clause-len
returns-clause-len c = count-is _ _ _ _ c.self.view_is

pub returns-clause-each : goal.returns-clause-each
returns-clause-each c = each-is _ _ _ _ c.self.view_is
