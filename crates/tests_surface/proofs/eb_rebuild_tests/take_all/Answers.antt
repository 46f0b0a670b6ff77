-- Each symbol builds a face.
use Rattle.std.proofs.Common.{ap, sym, ◌∙◌, add-one, suc}
use Rattle.eb_machine.proofs.Counts.{step_counts}
use Rattle.tests_surface.proofs.eb_rebuild_tests.take_all.Goals as goal

pub loop-symbol-preserved : goal.loop-symbol-preserved
loop-symbol-preserved g c =
    let k = step_counts _ _ (g.R.Rebuild.state c.loop-symbol.machine) (g.R.Rebuild.state c.symbol.new.self) c.in-Ok.ensures.moves.0 in
    (k.0 ∙ ap suc c.loop-symbol.invariant.0 ∙ sym (add-one _), k.1 ∙ c.loop-symbol.invariant.1, c.in-Ok.ensures.plan ∙ c.loop-symbol.invariant.2, c.in-Ok.ensures.moves.1, c.in-Ok.ensures.room ∙ c.loop-symbol.invariant.4, c.in-Ok.ensures.degrees ∙ c.loop-symbol.invariant.5)
