-- A kept side that is taken leaves the others.
use Rattle.eb_rows.specs.Rowed.{plain_of}
use Rattle.eb_rebuild.proofs.Linking.{link_kept}
use Rattle.eb_rows.proofs.row_rebuild.RowRebuild.take_second.Goals as goal

pub invariant_of-self : goal.invariant_of-self
invariant_of-self c = link_kept (plain_of (record { plan = record { faces = c.self.inside.faces; created = c.self.inside.created; symbols = c.self.inside.symbols }; named = c.self.inside.named; stack = c.self.inside.stack; splits = c.self.inside.splits; closes = c.self.inside.closes })) c.take.new.self c.self.invariant c.take.ensures.long (c.take.ensures.below _ c.self.invariant.kept)

pub invariant_of-self-in-Some : goal.invariant_of-self-in-Some
invariant_of-self-in-Some c = link_kept (plain_of (record { plan = record { faces = c.self.inside.faces; created = c.self.inside.created; symbols = c.self.inside.symbols }; named = c.self.inside.named; stack = c.self.inside.stack; splits = c.self.inside.splits; closes = c.self.inside.closes })) c.take.new.self c.self.invariant c.take.ensures.long (c.take.ensures.below _ c.self.invariant.kept)
