-- Each test of the code is that of the machine.
use Rattle.std.proofs.Common.{sym, ◌∙◌, arith}
use Rattle.eb_machine.proofs.Ends.{finish_faces, finish_vertices, finish_degenerate, finish_done}
use Rattle.eb_rebuild.specs.Linked.{LinkValue, state_of}
use Rattle.eb_rows.specs.Rowed.{plain_of}
use Rattle.eb_rows.proofs.row_rebuild.RowRebuild.tested.Goals as goal

pub returns-then-built-self : goal.returns-then-built-self
returns-then-built-self c =
    let v : LinkValue = plain_of (record { plan = record { faces = c.self.inside.faces; created = c.self.inside.created; symbols = c.self.inside.symbols }; named = c.self.inside.named; stack = c.self.inside.stack; splits = c.self.inside.splits; closes = c.self.inside.closes }) in
    rw (← c.self.view_is, c.new.ensures) (finish_faces v.plan (state_of v) _ (λ e. c.if-built-self.true (c.face_count-built.ensures.count ∙ e)) (c.from.ensures ∙ c.face_count-built.ensures.count))

pub returns-then-self-made : goal.returns-then-self-made
returns-then-self-made c =
    let v : LinkValue = plain_of (record { plan = record { faces = c.self.inside.faces; created = c.self.inside.created; symbols = c.self.inside.symbols }; named = c.self.inside.named; stack = c.self.inside.stack; splits = c.self.inside.splits; closes = c.self.inside.closes }) in
    let made = c.made-made.ensures in
    let more = c.if-self-made.true in
    rw (← c.self.view_is, c.new-then-self-made.ensures) (finish_vertices v.plan (state_of v) _ (sym c.face_count-built.ensures.count ∙ c.if-built-self.false) (omega arith) (c.from-then-self-made.ensures ∙ c.made-made.ensures))

pub returns-in-None : goal.returns-in-None
returns-in-None c =
    let v : LinkValue = plain_of (record { plan = record { faces = c.self.inside.faces; created = c.self.inside.created; symbols = c.self.inside.symbols }; named = c.self.inside.named; stack = c.self.inside.stack; splits = c.self.inside.splits; closes = c.self.inside.closes }) in
    let made = c.made-made.ensures in
    let few = c.if-self-made.false in
    rw (← c.self.view_is) (finish_done v.plan (state_of v) (sym c.face_count-built.ensures.count ∙ c.if-built-self.false) (omega arith) (sym c.in-None.ensures))

pub returns-in-Some : goal.returns-in-Some
returns-in-Some c =
    let v : LinkValue = plain_of (record { plan = record { faces = c.self.inside.faces; created = c.self.inside.created; symbols = c.self.inside.symbols }; named = c.self.inside.named; stack = c.self.inside.stack; splits = c.self.inside.splits; closes = c.self.inside.closes }) in
    let made = c.made-made.ensures in
    let few = c.if-self-made.false in
    rw (← c.self.view_is, c.new-in-Some.ensures) (finish_degenerate v.plan (state_of v) c.in-Some.face _ (sym c.face_count-built.ensures.count ∙ c.if-built-self.false) (omega arith) (sym c.in-Some.ensures) c.from-in-Some.ensures)
