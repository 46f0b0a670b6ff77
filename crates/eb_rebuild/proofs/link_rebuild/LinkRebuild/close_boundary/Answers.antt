-- The top side is taken off.
use Rattle.std.proofs.Common.{add-one}
use Rattle.eb_rebuild.proofs.Linking.{close_boundary_does}
use Rattle.eb_rebuild.proofs.link_rebuild.LinkRebuild.close_boundary.Goals as goal

pub returns-in-Some-clause-does : goal.returns-in-Some-clause-does
returns-in-Some-clause-does g c =
    rw (← c.self.view_is, add-one) (close_boundary_does
    (record { plan = record { faces = c.self.inside.faces; created = c.self.inside.created; symbols = c.self.inside.symbols }; table = c.self.inside.table; stack = c.self.inside.stack; splits = c.self.inside.splits; made = c.self.inside.made; closes = c.self.inside.closes; has_degrees = c.self.inside.degrees.kept })
    c.pop.new.self c.in-Some.field-0 c.in-Some.ensures.top)
