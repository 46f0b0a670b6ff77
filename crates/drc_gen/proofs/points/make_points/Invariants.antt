use Rattle.std.proofs.Common.{◌≡◌}
use Rattle.std.specs.List.{flat_map, range_with_len}
use Rattle.mesh_model.specs.Parts.{cells_of}
use Rattle.drc_gen.specs.Draws.{draw, state_after}
use Rattle.drc_gen.specs.Turns.{points_at}
use Rattle.drc_gen.proofs.points.make_points.Given as goal

-- the points of the draws so far
abbrev pub invariant-loop-k : goal.invariant-loop-k
invariant-loop-k l = record {
  made : l.cells.items ≡ flat_map (λ k. cells_of (points_at l.kind l.size k (draw l.seed k))) (range_with_len 0 l.k);
  drawn : l.draws.state ≡ state_after l.seed l.k;
}
