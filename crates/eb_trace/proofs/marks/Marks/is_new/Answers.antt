-- A vertex is new where its label is neither that of a boundary nor that of a visited face.
use Rattle.std.proofs.Common.{◌∙◌}
use Rattle.corner_table.specs.Sides.{side_at}
use Rattle.corner_table.proofs.Numbers.{face-lt}
use Rattle.eb_trace.proofs.Tables.{new_is}
use Rattle.eb_trace.proofs.marks.Marks.is_new.Goals as goal

pub returns : goal.returns
returns c = λ w M.
    c.is_new_by.ensures
    ∙ new_is c.requires.surface.gluing c.requires.surface.labelled _ _ w M.marked (side_at c.args.corner) (face-lt c.args.corner c.args.s.now.faces c.requires.corner) _ _ c.is_end-end.ensures c.is_met-met.ensures
