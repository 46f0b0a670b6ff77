use Rattle.std.proofs.Common.{◌≡◌, ◌*◌, length, map, vec_capacity}
use Rattle.std.specs.List.{range_with_len}
use Rattle.mesh_model.specs.Parts.{cells_of}
use Rattle.mesh_model.specs.Vertices.{vertex_entry}
use Rattle.mesh_model.proofs.vertex_items.triple_cells.Given as goal

-- the values of the vertices so far
abbrev pub invariant-loop-vertex : goal.invariant-loop-vertex
invariant-loop-vertex l = record {
  values : l.cells.items ≡ cells_of (map (λ v. vertex_entry v (l.head, l.attribute)) (range_with_len 0 l.vertex));
  many : length l.cells.items ≡ 3 * l.vertex;
  room : vec_capacity l.cells ≡ 3 * l.count;
}
