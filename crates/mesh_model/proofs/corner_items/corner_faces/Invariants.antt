use Rattle.std.proofs.Common.{◌≡◌, ◌*◌, ◌<◌, List, ℕ, length, map, vec_capacity}
use Rattle.std.specs.List.{All, range_with_len}
use Rattle.mesh_model.specs.Assembled.{triple}
use Rattle.mesh_model.specs.Items.{AreItems, AreLatest, HaveItems}
use Rattle.mesh_model.proofs.corner_items.corner_faces.Given as goal

-- the corners of the faces so far have their items
abbrev pub invariant-loop-f : goal.invariant-loop-f
invariant-loop-f l = record {
  items : AreItems l.groups (3 * l.faces) (3 * l.f) l.items.firsts.items;
  latest : AreLatest l.items.latest.items l.items.firsts.items;
  vertices : All (λ v. v < length l.items.latest.items) l.vertices;
  faces : (items : List ℕ) × HaveItems l.groups (3 * l.f) items l.items.firsts.items × (l.made.items ≡ map (triple items) (range_with_len 0 l.f));
  many : length l.made.items ≡ l.f;
  room : vec_capacity l.made ≡ l.faces;
}
