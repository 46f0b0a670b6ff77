use Rattle.std.proofs.Common.{◌≡◌, ◌+◌, ◌*◌, ◌++◌, [], ◌∷◌, length, ap, ◌∙◌, subst, arith, rules}
use Rattle.std.proofs.lemmas.List.{length_push}
use Rattle.mesh_model.specs.Items.{AreItems}
use Rattle.mesh_model.proofs.CornerItems.{HaveItems-face, faces-more}
use Rattle.mesh_model.proofs.corner_items.corner_faces.Goals as goal

pub loop-f-preserved : goal.loop-f-preserved
loop-f-preserved c =
    let groups = c.args.groups.now in
    let f = c.loop-f.f in
    let so_far = c.loop-f.invariant in
    let items = so_far.faces.0 in
    let have = so_far.faces.1 in
    let one = c.in_ok-first.ensures in
    let two = c.in_ok-second.ensures in
    let three = c.in_ok-third.ensures in
    let last = c.item_of-in-loop-f-2.new.items in
    let next : 3 * f + 2 + 1 ≡ 3 * (f + 1) = omega arith in
    record {
      items = subst (λ n. AreItems groups (3 * c.args.faces) n last.firsts.items) next three.items;
      latest = three.latest;
      vertices = λ k d below. omega (arith, so_far.vertices k d below, one.vertices, two.vertices, three.vertices);
      faces = (
        ((items ++ c.in_ok-first.first ∷ []) ++ c.in_ok-second.second ∷ []) ++ c.in_ok-third.third ∷ [],
        HaveItems-face groups f c.in_ok-first.first c.in_ok-second.second c.in_ok-third.third items c.loop-f.items.firsts.items c.item_of.new.items.firsts.items c.item_of-in-loop-f.new.items.firsts.items last.firsts.items
            have one.keeps one.item two.keeps two.item three.keeps three.item,
        c.push_reserved.ensures.items ∙ faces-more items c.in_ok-first.first c.in_ok-second.second c.in_ok-third.third f c.loop-f.made.items have.each so_far.faces.2,
      );
      many = ap length c.push_reserved.ensures.items ∙ length_push c.loop-f.made.items _ ∙ ap (λ n. n + 1) so_far.many;
      room = search rules;
    }
