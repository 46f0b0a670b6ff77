use Rattle.std.proofs.Common.{◌∙◌}
use Rattle.eb_standard.proofs.Grouping.{put_last}
use Rattle.eb_standard.proofs.packing.pack.Goals as goal

pub loop-group-preserved : goal.loop-group-preserved
loop-group-preserved c =
    let steps = c.in-Some.ensures.steps in (
      put_last _ _ _ _ _ c.in-Some.group.now c.args.symbols.now c.loop-group.invariant.0 steps.1.0 c.bits_of_group-word.ensures.bits c.in_ok-put.ensures.ok,
      steps.0 ∙ c.loop-group.invariant.1,
    )
