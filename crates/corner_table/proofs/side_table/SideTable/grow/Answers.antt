-- The sides of the new face are free.
use Rattle.std.proofs.Common.{add-one}
use Rattle.corner_table.proofs.TableSteps.{new_side}
use Rattle.corner_table.proofs.side_table.SideTable.grow.Goals as goal

pub returns-clause-free : goal.returns-clause-free
returns-clause-free c = λ k. rw add-one (new_side c.self.invariant.gluing k)
