-- Each test of the code is that of the machine.
use Rattle.std.proofs.Common.{sym, ◌∙◌}
use Rattle.eb_machine.proofs.Ends.{finish_faces, finish_vertices}
use Rattle.eb_rebuild.specs.Linked.{LinkValue, state_of}
use Rattle.eb_rebuild.proofs.link_rebuild.LinkRebuild.counted.Goals as goal

pub returns-then-count-self-clause-err : goal.returns-then-count-self-clause-err
returns-then-count-self-clause-err g c =
    let v : LinkValue = record { plan = record { faces = c.self.inside.faces; created = c.self.inside.created; symbols = c.self.inside.symbols }; table = c.self.inside.table; stack = c.self.inside.stack; splits = c.self.inside.splits; made = c.self.inside.made; closes = c.self.inside.closes; has_degrees = c.self.inside.degrees.kept } in
    rw (← c.self.view_is, c.new.ensures) (finish_faces v.plan (state_of v) _ (λ e. c.if-count-self.true (c.face_count-count.ensures.count ∙ e)) (c.from.ensures ∙ c.face_count-count.ensures.count))

pub returns-then-self-clause-err : goal.returns-then-self-clause-err
returns-then-self-clause-err g c =
    let v : LinkValue = record { plan = record { faces = c.self.inside.faces; created = c.self.inside.created; symbols = c.self.inside.symbols }; table = c.self.inside.table; stack = c.self.inside.stack; splits = c.self.inside.splits; made = c.self.inside.made; closes = c.self.inside.closes; has_degrees = c.self.inside.degrees.kept } in
    rw (← c.self.view_is, c.new-then-self.ensures) (finish_vertices v.plan (state_of v) _ (sym c.face_count-count.ensures.count ∙ c.if-count-self.false) c.if-self.true c.from-then-self.ensures)
