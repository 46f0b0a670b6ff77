use Rattle.std.proofs.Common.{◌≡◌, ◌-◌, ◌<◌, List, ℕ, get_or, length, ◌∙◌, subst, arith}
use Rattle.std.proofs.lemmas.List.{get_or_default}
use Rattle.mesh_model.specs.Items.{HaveSameVertices}
use Rattle.mesh_model.proofs.CornerItems.{AreItems-new, AreItems-shared, AreLatest-new, HasItem-more, HasItem-new}
use Rattle.mesh_model.proofs.corner_items.item_of.Goals as goal

pub shared_item-shared-requires-clause-each : goal.shared_item-shared-requires-clause-each
shared_item-shared-requires-clause-each c = λ k d below. (c.requires.groups k d below).each_corner

pub returns-then-shared-ne0-clause-item : goal.returns-then-shared-ne0-clause-item
returns-then-shared-ne0-clause-item c =
    let groups = c.args.groups.now in
    let corner = c.args.corner in
    let firsts = c.args.items.now.firsts.items in
    let shared = c.shared_item-shared.result in
    let found = c.shared_item-shared.ensures (omega arith) in
    let same : HaveSameVertices groups (get_or firsts (shared - 1) 0) corner =
    subst (λ (fs : List ℕ). HaveSameVertices groups (get_or fs (shared - 1) 0) corner) c.as_slice-firsts.ensures.value found.1 in
    let vertex = get_or c.args.vertices.now corner 0 in
    let kept = c.requires.latest vertex in
    let inside : vertex < length c.args.items.now.latest.items = c.requires.vertices corner 0 (omega (arith, c.requires.each, c.requires.corner)) in
    let is : c.index-latest.result.now ≡ get_or c.args.items.now.latest.items vertex 0 =
    c.index-latest.ensures ∙ get_or_default c.args.items.now.latest.items vertex c.index-latest.result.now 0 inside in
    (omega (arith, found.0, is, kept), same)

pub returns-then-shared-ne0-clause-items : goal.returns-then-shared-ne0-clause-items
returns-then-shared-ne0-clause-items c =
    AreItems-shared c.args.groups.now c.args.corners c.args.corner (c.shared_item-shared.result - 1) c.args.items.now.firsts.items c.requires.items c.requires.corner
    (returns-then-shared-ne0-clause-item c)

pub returns-clause-items : goal.returns-clause-items
returns-clause-items c =
    rw c.in_ok-item.ensures.firsts (AreItems-new c.args.groups.now c.args.corners c.args.corner c.args.items.now.firsts.items c.requires.items)

pub returns-clause-latest : goal.returns-clause-latest
returns-clause-latest c =
    let items = c.args.items.now in
    let vertex = get_or c.args.vertices.now c.args.corner 0 in
    let inside : vertex < length items.latest.items = c.requires.vertices c.args.corner 0 (omega (arith, c.requires.each, c.requires.corner)) in
    rw (c.in_ok-item.ensures.latest, c.in_ok-item.ensures.firsts)
    (AreLatest-new items.latest.items items.firsts.items c.args.corner vertex c.requires.latest inside)

pub returns-clause-keeps : goal.returns-clause-keeps
returns-clause-keeps c = λ corner item has.
    rw c.in_ok-item.ensures.firsts (HasItem-more c.args.groups.now c.args.items.now.firsts.items c.args.corner corner item has)

pub returns-clause-item : goal.returns-clause-item
returns-clause-item c =
    rw (c.in_ok-item.ensures.firsts, c.in_ok-item.ensures.item) (HasItem-new c.args.groups.now c.args.items.now.firsts.items c.args.corner)
