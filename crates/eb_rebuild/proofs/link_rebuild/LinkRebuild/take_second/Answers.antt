-- A kept side that is taken leaves the others.
use Rattle.eb_rebuild.proofs.Linking.{link_kept}
use Rattle.eb_rebuild.proofs.link_rebuild.LinkRebuild.take_second.Goals as goal

pub invariant_of-self : goal.invariant_of-self
invariant_of-self g c = (
  link_kept
      (record { plan = record { faces = c.self.inside.faces; created = c.self.inside.created; symbols = c.self.inside.symbols }; table = c.self.inside.table; stack = c.self.inside.stack; splits = c.self.inside.splits; made = c.self.inside.made; closes = c.self.inside.closes; has_degrees = c.self.inside.degrees.kept })
      c.take.new.self c.self.invariant.0 c.take.ensures.long (c.take.ensures.below _ c.self.invariant.0.kept),
  c.self.invariant.1,
  c.self.invariant.2,
)

pub invariant_of-self-in-Some : goal.invariant_of-self-in-Some
invariant_of-self-in-Some g c = (
  link_kept
      (record { plan = record { faces = c.self.inside.faces; created = c.self.inside.created; symbols = c.self.inside.symbols }; table = c.self.inside.table; stack = c.self.inside.stack; splits = c.self.inside.splits; made = c.self.inside.made; closes = c.self.inside.closes; has_degrees = c.self.inside.degrees.kept })
      c.take.new.self c.self.invariant.0 c.take.ensures.long (c.take.ensures.below _ c.self.invariant.0.kept),
  c.self.invariant.1,
  c.self.invariant.2,
)
