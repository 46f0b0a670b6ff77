-- The face is marked, and is the last of the interior ones.
use Rattle.std.proofs.Common.{ℕ, List, reverse, refl, ap}
use Rattle.eb_trace.specs.Stored.{noted_walk}
use Rattle.eb_trace.proofs.Marking.{stored_inside}
use Rattle.eb_trace.proofs.Going.{pushed_last}
use Rattle.eb_trace.proofs.walk.begin_inside.Goals as goal

pub run-requires-clause-stored : goal.run-requires-clause-stored
run-requires-clause-stored c =
    stored_inside _ _ c.args.face (reverse c.push.new.self.items) c.requires.surface c.requires.stored c.requires.face c.mark.ensures.visited c.mark.ensures.met c.mark.ensures.splits c.mark.ensures.sized refl
    (ap (λ (l : List ℕ). record (noted_walk c.args.notes.now) { interior = l; bits = reverse c.push.new.self.items }) (pushed_last _ _ _ c.in_ok-push-in-Some-2.ensures.items))
