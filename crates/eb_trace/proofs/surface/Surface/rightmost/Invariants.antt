-- What is left of the walk leads to the same corner.
use Rattle.std.proofs.Common.{◌≡◌, ◌-◌, ◌*◌, ◌<◌}
use Rattle.corner_table.specs.Sides.{side_at}
use Rattle.corner_table.specs.Fans.{rightmost}
use Rattle.eb_trace.specs.Stored.{traced_gluing}
use Rattle.eb_trace.proofs.surface.Surface.rightmost.Given as goal

abbrev pub invariant-loop-turn : goal.invariant-loop-turn
invariant-loop-turn l = record {
  within : l.at < 3 * l.self.faces;
  same : rightmost (traced_gluing l.self) (3 * l.self.faces) (side_at l.corner) ≡ rightmost (traced_gluing l.self) (3 * l.self.faces - l.turn) (side_at l.at);
}
