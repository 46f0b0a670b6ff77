use Rattle.std.proofs.Common.{◌≡◌, sym, ap, ◌∙◌, subst}
use Rattle.std.specs.List.{All}
use Rattle.std.proofs.lemmas.List.{take_all}
use Rattle.std.proofs.lemmas.List.Elements.{All-more}
use Rattle.mesh_model.specs.Groups.{GroupParts}
use Rattle.mesh_model.proofs.vertex_items.have_vertices.Goals as goal

pub loop-group-preserved : goal.loop-group-preserved
loop-group-preserved c =
    let g = c.group-item.result in
    let at : g.of_corner ≡ c.group.inside.of_corner.now = sym (ap (λ (x : GroupParts). x.of_corner) c.group.view_is) in
    let here : g.of_corner ≡ c.args.vertices.now = at ∙ c.are_same.ensures.0 c.if-not-are_same.false in
    All-more (λ (x : GroupParts). x.of_corner ≡ c.args.vertices.now) c.args.groups.now c.loop-group.group-index g c.loop-group-test.true c.loop-group.invariant
    (subst (λ (x : GroupParts). x.of_corner ≡ c.args.vertices.now) c.group-item.is here)

pub returns : goal.returns
returns c = λ _. subst (All (λ (x : GroupParts). x.of_corner ≡ c.args.vertices.now)) (take_all c.loop-group.group-index c.args.groups.now c.loop-group-test.false) c.loop-group.invariant
