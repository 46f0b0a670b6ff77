use Rattle.std.proofs.Common.{◌≡◌, List, ℕ, get_or, refl, ap, subst}
use Rattle.std.proofs.lemmas.List.{take_all}
use Rattle.std.proofs.lemmas.List.Elements.{All-more}
use Rattle.mesh_model.specs.Groups.{GroupParts}
use Rattle.mesh_model.specs.Items.{HaveSameVertices}
use Rattle.mesh_model.proofs.corner_items.have_same_vertices.Goals as goal

pub loop-group-preserved : goal.loop-group-preserved
loop-group-preserved c =
    let g = c.group-item.result in
    let at : c.group.inside.of_corner.now ≡ g.of_corner = ap (λ (x : GroupParts). x.of_corner) c.group.view_is in
    let here : get_or g.of_corner c.args.a 0 ≡ get_or g.of_corner c.args.b 0 =
    subst (λ (xs : List ℕ). get_or xs c.args.a 0 ≡ get_or xs c.args.b 0) at c.if-vertices-a.false in
    All-more (λ (x : GroupParts). get_or x.of_corner c.args.a 0 ≡ get_or x.of_corner c.args.b 0) c.args.groups.now c.loop-group.group-index g
    c.loop-group-test.true c.loop-group.invariant
    (subst (λ (x : GroupParts). get_or x.of_corner c.args.a 0 ≡ get_or x.of_corner c.args.b 0) c.group-item.is here)

pub returns : goal.returns
returns c = (λ _. subst (λ gs. HaveSameVertices gs c.args.a c.args.b) (take_all c.loop-group.group-index c.args.groups.now c.loop-group-test.false) c.loop-group.invariant, λ _. refl)
