-- The number kept at the top side is its degree.
use Rattle.std.proofs.Common.{ap, sym, subst, ◌∙◌, arith, IsTrue}
use Rattle.eb_machine.specs.Degree.{top_degree}
use Rattle.eb_rebuild.specs.Linked.{LinkValue, state_of, is_live}
use Rattle.eb_rebuild.proofs.TableDegrees.{top_degree_is, top_below}
use Rattle.eb_rebuild.proofs.link_rebuild.LinkRebuildRebuild.degree.Goals as goal

pub at-requires : goal.at-requires
at-requires g c =
    let value : LinkValue = (record { plan = record { faces = c.self.inside.faces; created = c.self.inside.created; symbols = c.self.inside.symbols }; table = c.self.inside.table; stack = c.self.inside.stack; splits = c.self.inside.splits; made = c.self.inside.made; closes = c.self.inside.closes; has_degrees = c.self.inside.degrees.kept }) in
    let below = top_below value c.in-Some.a c.self.invariant.0 c.in-Some.ensures in
    let count = c.face_count-room.ensures.count in
    let fits = c.face_count-room.ensures.room in
    let room = c.self.invariant.0.room in
    let kept = subst (λ (v : LinkValue). IsTrue v.has_degrees) (sym c.self.view_is) c.requires.degrees in
    let long = (c.self.invariant.1 kept (ap (λ (v : LinkValue). v.closes) c.self.view_is ∙ c.requires.unclosed)).long in
    omega arith

pub returns-in-Some : goal.returns-in-Some
returns-in-Some g c =
    let value : LinkValue = (record { plan = record { faces = c.self.inside.faces; created = c.self.inside.created; symbols = c.self.inside.symbols }; table = c.self.inside.table; stack = c.self.inside.stack; splits = c.self.inside.splits; made = c.self.inside.made; closes = c.self.inside.closes; has_degrees = c.self.inside.degrees.kept }) in
    let none = ap (λ (v : LinkValue). v.closes) c.self.view_is ∙ c.requires.unclosed in
    let kept = subst (λ (v : LinkValue). IsTrue v.has_degrees) (sym c.self.view_is) c.requires.degrees in
    c.at.ensures
    ∙ top_degree_is value c.self.inside.degrees.list c.in-Some.a c.self.invariant.0 none (c.self.invariant.1 kept none).keeps (subst (λ (v : LinkValue). IsTrue (is_live v)) (sym c.self.view_is) c.requires.live) c.in-Some.ensures
    ∙ ap (λ (v : LinkValue). top_degree (state_of v)) c.self.view_is
