-- An open fan has a right end, and a closed one no start.
use Rattle.std.proofs.Common.{Some, sym, ap, ◌∙◌}
use Rattle.corner_table.specs.Sides.{Side, prev, side_at}
use Rattle.corner_table.proofs.Numbers.{face-lt}
use Rattle.eb_trace.proofs.Tables.{start_open, start_closed}
use Rattle.eb_trace.proofs.Moments.{true_not_false}
use Rattle.eb_trace.proofs.surface.Surface.start_by.Goals as goal

pub returns-then-is_end-clause-corner : goal.returns-then-is_end-clause-corner
returns-then-is_end-clause-corner c =
    let h = face-lt c.args.corner c.args.self.now.faces c.requires.corner in
    ap {A = Side} Some (c.previous_number.ensures.corner ∙ ap prev c.rightmost.ensures.corner)
    ∙ sym (start_open c.requires.surface.gluing (side_at c.args.corner) (side_at c.in-Some.field-0) h (sym c.in-Some.ensures.other)
    ((c.requires.surface.labelled.boundary (side_at c.args.corner) h).0 (sym c.is_end.ensures ∙ c.if-is_end.true)))

pub returns-else-is_end-clause-corner : goal.returns-else-is_end-clause-corner
returns-else-is_end-clause-corner c =
    let h = face-lt c.args.corner c.args.self.now.faces c.requires.corner in
    sym (start_closed c.args.self.now.faces _ (side_at c.args.corner) (side_at c.in-Some.field-0) (sym c.in-Some.ensures.other)
    (λ b. true_not_false _ (c.is_end.ensures ∙ (c.requires.surface.labelled.boundary (side_at c.args.corner) h).1 b) c.if-is_end.false))
