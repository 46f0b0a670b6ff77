use Rattle.std.proofs.Common.{◌≡◌, ◌+◌, ◌*◌, ◌++◌, [], ◌∷◌, List, ℕ, length, map, sym, ap, ◌∙◌, subst, arith, rules}
use Rattle.std.specs.List.{range_with_len}
use Rattle.std.proofs.lemmas.List.{length_push}
use Rattle.std.proofs.lemmas.List.FromFn.{map-range_with_len_more}
use Rattle.mesh_model.specs.Assembled.{triple}
use Rattle.mesh_model.specs.Vertices.{AreInOrder}
use Rattle.mesh_model.proofs.vertex_items.vertex_faces.Goals as goal

pub loop-f-preserved : goal.loop-f-preserved
loop-f-preserved c =
    let vertices = c.args.vertices.now in
    let f = c.loop-f.f in
    let so_far = c.loop-f.invariant in
    let after : 3 * f + 3 ≡ 3 * (f + 1) = omega arith in
    record {
      ordered = subst (λ n. AreInOrder vertices n c.in-Some.next) after c.in-Some.ensures;
      faces =
          c.push_reserved.ensures.items
          ∙ ap (λ (fs : List (List ℕ)). fs ++ triple vertices f ∷ []) so_far.faces
          ∙ sym (map-range_with_len_more (triple vertices) 0 f f (omega arith));
      many = ap length c.push_reserved.ensures.items ∙ length_push c.loop-f.made.items (triple vertices f) ∙ ap (λ n. n + 1) so_far.many;
      room = search rules;
    }

pub returns : goal.returns
returns c =
    let end : c.loop-f.f ≡ c.args.faces = omega arith in (
      subst (λ n. AreInOrder c.args.vertices.now (3 * n) c.loop-f.count) end c.loop-f.invariant.ordered,
      subst (λ n. c.loop-f.made.items ≡ map (triple c.args.vertices.now) (range_with_len 0 n)) end c.loop-f.invariant.faces,
    )
