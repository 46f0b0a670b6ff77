use Rattle.std.proofs.Common.{◌∙◌, sym, subst, Result, List, Bool}
use Rattle.texture_prediction.specs.declared.pairs.Pair.{Pair}
use Rattle.texture_prediction.specs.declared.faults.Lacking.{Lacking}
use Rattle.texture_prediction.specs.Projection.{Divides}
use Rattle.texture_prediction.specs.Texture.{Tells, left_of}
use Rattle.texture_prediction.specs.declared.projections.Projected.TheVariants as projected
use Rattle.texture_prediction.proofs.Sides.{over-same, over-by}
use Rattle.texture_prediction.proofs.predictions.over_side.Goals as goal

pub returns-then-same_pair : goal.returns-then-same_pair
returns-then-same_pair c =
    (over-same c.args.tip c.args.n c.args.p c.args.a c.args.b _ (sym c.same_pair.ensures ∙ c.if-same_pair.true), c.requires)

pub by_flag-requires-clause-some : goal.by_flag-requires-clause-some
by_flag-requires-clause-some c none =
    (subst Divides c.in-At.is c.project.ensures.divides).0 none

pub by_flag-requires-clause-more : goal.by_flag-requires-clause-more
by_flag-requires-clause-more c less =
    (subst Divides c.in-At.is c.project.ensures.divides).1 less

pub returns-in-Short : goal.returns-in-Short
returns-in-Short c =
    (over-by c.args.tip c.args.n c.args.p c.args.a c.args.b _ _ (sym c.same_pair.ensures ∙ c.if-same_pair.false) (sym c.project.ensures.projection ∙ c.in-Short.is), c.requires)

pub returns-in-Great : goal.returns-in-Great
returns-in-Great c =
    over-by c.args.tip c.args.n c.args.p c.args.a c.args.b _ _ (sym c.same_pair.ensures ∙ c.if-same_pair.false) (sym c.project.ensures.projection ∙ c.in-Great.is)

pub returns-in-At : goal.returns-in-At
returns-in-At c =
    let is = over-by c.args.tip c.args.n c.args.p c.args.a c.args.b (left_of c.args.flags.now c.args.left) (projected.At c.in-At.c)
    (sym c.same_pair.ensures ∙ c.if-same_pair.false) (sym c.project.ensures.projection ∙ c.in-At.is) in
    subst (λ (due : Result (Pair × List Bool) Lacking). Tells due c.args.flags.now c.by_flag.result) (sym is) c.by_flag.ensures
