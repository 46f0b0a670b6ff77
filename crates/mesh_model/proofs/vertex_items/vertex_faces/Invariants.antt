use Rattle.std.proofs.Common.{◌≡◌, ◌*◌, length, map, vec_capacity}
use Rattle.std.specs.List.{range_with_len}
use Rattle.mesh_model.specs.Assembled.{triple}
use Rattle.mesh_model.specs.Vertices.{AreInOrder}
use Rattle.mesh_model.proofs.vertex_items.vertex_faces.Given as goal

-- the faces so far have their vertices
abbrev pub invariant-loop-f : goal.invariant-loop-f
invariant-loop-f l = record {
  ordered : AreInOrder l.vertices (3 * l.f) l.count;
  faces : l.made.items ≡ map (triple l.vertices) (range_with_len 0 l.f);
  many : length l.made.items ≡ l.f;
  room : vec_capacity l.made ≡ l.faces;
}
