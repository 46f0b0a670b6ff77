-- What is left of the kept corners leads to the same.
use Rattle.std.proofs.Common.{◌≡◌, ℕ, ◌*◌, ◌<◌, map, reverse, All, vec_len}
use Rattle.corner_table.specs.Sides.{side_at}
use Rattle.eb_trace.specs.Trace.{take_kept}
use Rattle.eb_trace.specs.Stored.{noted_walk}
use Rattle.eb_trace.proofs.walk.take_kept.Given as goal

abbrev pub invariant-taking : goal.invariant-taking
invariant-taking l = record {
  rest : l.notes ≡ record l.fn.notes { kept = l.notes.kept };
  within : All (λ (k : ℕ). k < 3 * l.s.faces) l.notes.kept.items;
  same : take_kept (noted_walk l.fn.notes) (map side_at (reverse l.fn.notes.kept.items)) ≡ take_kept (noted_walk l.fn.notes) (map side_at (reverse l.notes.kept.items));
}

abbrev pub decreases-taking : goal.decreases-taking
decreases-taking l = vec_len l.notes.kept
