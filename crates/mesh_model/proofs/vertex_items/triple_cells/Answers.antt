use Rattle.std.proofs.Common.{◌≡◌, ◌++◌, [], ◌∷◌, List, ℕ, ℤ, get_or, pos, length, map, w32, SFits, sym, ap, ◌∙◌, arith, rules}
use Rattle.std.specs.List.{range_with_len}
use Rattle.std.proofs.lemmas.Int.{to_z-of_z}
use Rattle.std.proofs.lemmas.List.{length_push}
use Rattle.std.proofs.lemmas.List.FromFn.{map-range_with_len_more}
use Rattle.mesh_model.specs.Parts.{cells_of}
use Rattle.mesh_model.specs.Vertices.{vertex_entry}
use Rattle.mesh_model.proofs.Rows.{cells_of-push}
use Rattle.mesh_model.proofs.Triples.{triple_is, triple_push}
use Rattle.mesh_model.proofs.vertex_items.triple_cells.Goals as goal

pub loop-vertex-preserved : goal.loop-vertex-preserved
loop-vertex-preserved c =
    let row : ℕ → List ℤ = λ v. vertex_entry v (c.args.head.now, c.args.attribute.now) in
    let v = c.loop-vertex.vertex in
    let old = c.loop-vertex.cells.items in
    let triple = c.triple_at-triple.result in
    let x = get_or triple 0 (pos 0) in
    let y = get_or triple 1 (pos 0) in
    let z = get_or triple 2 (pos 0) in
    let long : length triple ≡ 3 = search rules in
    let first : SFits w32 x = search rules in
    let second : SFits w32 y = search rules in
    let third : SFits w32 z = search rules in
    let one : c.push_reserved.new.self.items ≡ old ++ x ∷ [] = simp to_z-of_z at c.push_reserved.ensures.items in
    let two : c.push_reserved-in-loop-vertex.new.self.items ≡ c.push_reserved.new.self.items ++ y ∷ [] = simp to_z-of_z at c.push_reserved-in-loop-vertex.ensures.items in
    let three : c.push_reserved-in-loop-vertex-2.new.self.items ≡ c.push_reserved-in-loop-vertex.new.self.items ++ z ∷ [] = simp to_z-of_z at c.push_reserved-in-loop-vertex-2.ensures.items in
    let all : c.push_reserved-in-loop-vertex-2.new.self.items ≡ old ++ row v =
    three ∙ ap (λ xs. xs ++ z ∷ []) (two ∙ ap (λ xs. xs ++ y ∷ []) one) ∙ triple_push old x y z ∙ ap (λ xs. old ++ xs) (triple_is triple long ∙ c.triple_at-triple.ensures) in
    record {
      values = all ∙ ap (λ xs. xs ++ row v) c.loop-vertex.invariant.values
          ∙ sym (ap cells_of (map-range_with_len_more row 0 v v (omega arith)) ∙ cells_of-push (map row (range_with_len 0 v)) (row v));
      many = omega (arith, c.loop-vertex.invariant.many, ap length one ∙ length_push old x, ap length two ∙ length_push c.push_reserved.new.self.items y, ap length three ∙ length_push c.push_reserved-in-loop-vertex.new.self.items z);
      room = search rules;
    }
