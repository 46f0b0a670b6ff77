-- The greater of two roots is joined to the lesser one.
use Rattle.std.proofs.Common.{◌≡◌, ℕ, ◌<◌, max, length, set, ap, ◌∙◌, subst, arith}
use Rattle.eb_rebuild.specs.JoinedNames.{JoinedValue, root_in, joined}
use Rattle.eb_rebuild.proofs.Roots.{joined_roots}
use Rattle.eb_rebuild.proofs.joined_names.JoinedNames.join.Goals as goal

pub returns-clause-roots : goal.returns-clause-roots
returns-clause-roots c x =
    let up = c.self.inside.up.items in
    let two = c.find-s.new.up.items in
    let long = c.find-s.new.up.ok.0 in
    let len = c.find-s.ensures.len in
    let lr : c.find-r.result < length two = (let w = c.find-r.ensures.within in let m = c.find-r.ensures.len in omega arith) in
    let ls : c.find-s.result < length two = (let w = c.find-s.ensures.within in omega arith) in
    subst (λ (v : JoinedValue). root_in c.put.new.list.items x ≡ joined (root_in v.up) c.args.a c.args.b x) c.self.view_is
    (joined_roots up two c.put.new.list.items c.self.invariant.0 c.find-s.ensures.falls c.args.a c.args.b c.find-r.result c.find-s.result c.find-r.ensures.root (c.find-s.ensures.root ∙ c.find-r.ensures.roots c.args.b)
    (λ (y : ℕ). c.find-s.ensures.roots y ∙ c.find-r.ensures.roots y) lr ls
    (c.put.ensures.items ∙ ap (λ (m : ℕ). set two m c.min.result) c.max.ensures ∙ ap (set two (max c.find-r.result c.find-s.result)) c.min.ensures) x)
