-- How a walk by prediction degree lies in the lists of the code.
use Rattle.std.specs.Prelude.{◌≡◌, ℕ, ◌*◌, ◌<◌, List, length, map, reverse, All, vec_len}
use Rattle.corner_table.specs.Sides.{side_at}
use Rattle.walk_order.specs.declared.surface.Surface.{Surface}
use Rattle.walk_order.specs.declared.degree_walk.Ranks.{Ranks}
use Rattle.walk_order.specs.PredictionDegree.{Ranked}
use Rattle.walk_order.specs.Stored.{marked_walk, IsStored}

-- the walk that the ranks stand for: stacks grow at their ends, and the walk has their tops first
abbrev pub ranked_of : Ranks → Ranked
ranked_of r = record {
  walk = marked_walk r.marks;
  rated = r.rated.items;
  stack0 = map side_at (reverse r.stack0.items);
  stack1 = map side_at (reverse r.stack1.items);
  stack2 = map side_at (reverse r.stack2.items);
  best = r.best;
}

-- the corners of a stack are the surface's
abbrev pub AreWithin : ℕ → List ℕ → Type 0
AreWithin faces corners = All (λ (k : ℕ). k < 3 * faces) corners

-- a walk as it is stored
pub record IsRanked (s : Surface) (r : Ranks) : Type 0 where
  pub stored : IsStored s r.marks
  pub sized : vec_len r.rated ≡ length s.ends.now
  pub within0 : AreWithin s.faces r.stack0.items
  pub within1 : AreWithin s.faces r.stack1.items
  pub within2 : AreWithin s.faces r.stack2.items
