use Rattle.std.proofs.Common.{sym, ◌∙◌}
use Rattle.std.specs.Cmp.{booleans_Decides}
use Rattle.std.specs.Cmp.Lexicographic.{pointwise_decides}
use Rattle.drc_container.proofs.surface.cut_surfaces.take_alike.Goals as goal

pub returns-in-Some-clause-alike : goal.returns-in-Some-clause-alike
returns-in-Some-clause-alike c =
    sym c.as_slice.ensures.value ∙ (pointwise_decides booleans_Decides c.as_slice.result.now c.args.flags.now).0 (sym c.eq.ensures ∙ c.if-eq.true)
