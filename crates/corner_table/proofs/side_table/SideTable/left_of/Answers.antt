-- What is found across is a corner of one of the faces.
use Rattle.std.proofs.Common.{ℕ, ap, ◌∙◌, arith, get_or}
use Rattle.corner_table.specs.Sides.{next, side_at}
use Rattle.corner_table.specs.Table.{free_entry}
use Rattle.corner_table.proofs.TableSteps.{entry_within}
use Rattle.corner_table.proofs.side_table.SideTable.left_of.Goals as goal

pub returns-else-side-clause-within : goal.returns-else-side-clause-within
returns-else-side-clause-within c =
    let is = c.at-side.ensures.side ∙ ap (λ (n : ℕ). get_or c.self.inside.across.items n free_entry) c.next_number.ensures.number in
    let w = entry_within c.self.invariant (next (side_at c.args.corner)) c.at-side.result is c.if-side.false in
    let f = c.next_number-else-side.ensures.face in
    rw (← c.self.view_is) (omega arith)
