-- Each face is walked from in its turn.
use Rattle.std.proofs.Common.{sym, ◌∙◌}
use Rattle.eb_trace.specs.Stored.{noted_walk}
use Rattle.eb_trace.proofs.Walked.{walked_none}
use Rattle.eb_trace.proofs.Marking.{stored_nothing}
use Rattle.eb_trace.proofs.Going.{few_from, one_walked}
use Rattle.eb_trace.proofs.tracing.walk_all.Goals as goal

pub loop-face-init : goal.loop-face-init
loop-face-init c = record {
  stored = stored_nothing _ _ _ c.in_ok-marks.ensures.visited c.in_ok-marks.ensures.met c.in_ok-marks.ensures.splits c.in_ok-notes.ensures.walk c.in_ok-notes.ensures.kept;
  walk = c.in_ok-notes.ensures.walk ∙ sym (walked_none _ _);
}

pub walk_from-requires-clause-few : goal.walk_from-requires-clause-few
walk_from-requires-clause-few c = few_from _ _ _ _ c.loop-face.invariant.walk c.loop-face-test.true c.requires.few

pub loop-face-preserved : goal.loop-face-preserved
loop-face-preserved c = record {
  stored = c.in_ok-walk_from.ensures.stored;
  walk = one_walked _ _ _ _ (noted_walk c.loop-face.notes) c.loop-face.invariant.walk c.in_ok-walk_from.ensures.walk;
}
