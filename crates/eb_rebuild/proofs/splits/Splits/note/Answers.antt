-- Where no event is due, the machine notes none.
use Rattle.std.proofs.Common.{arith}
use Rattle.eb_rebuild.proofs.Noting.{left_none, left_later}
use Rattle.eb_rebuild.proofs.splits.Splits.note.Goals as goal

pub returns-then-self-eq0-clause-noted : goal.returns-then-self-eq0-clause-noted
returns-then-self-eq0-clause-noted c = rw (← c.self.view_is) (left_none _ _ _ _ _ c.if-self-eq0.true)

pub returns-then-event_at-due-clause-noted : goal.returns-then-event_at-due-clause-noted
returns-then-event_at-due-clause-noted c =
    rw (← c.self.view_is) (left_later _ _ _ _ _ c.event_at.result c.if-self-eq0.false c.event_at.ensures (let n = c.symbols.ensures in let l = c.if-event_at-due.true in omega arith))
