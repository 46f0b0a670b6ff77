-- The top side is taken off.
use Rattle.std.proofs.Common.{add-one}
use Rattle.eb_rows.specs.Rowed.{plain_of}
use Rattle.eb_rebuild.proofs.Linking.{close_boundary_does}
use Rattle.eb_rows.proofs.row_rebuild.RowRebuild.close_boundary.Goals as goal

pub returns-in-Some-clause-does : goal.returns-in-Some-clause-does
returns-in-Some-clause-does c =
    rw (← c.self.view_is, add-one) (close_boundary_does (plain_of (record { plan = record { faces = c.self.inside.faces; created = c.self.inside.created; symbols = c.self.inside.symbols }; named = c.self.inside.named; stack = c.self.inside.stack; splits = c.self.inside.splits; closes = c.self.inside.closes })) c.pop.new.self c.in-Some.field-0 c.in-Some.ensures.top)
