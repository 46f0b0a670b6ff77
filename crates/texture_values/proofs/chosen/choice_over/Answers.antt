use Rattle.std.proofs.Common.{◌∙◌, sym, subst}
use Rattle.texture_prediction.specs.Projection.{Divides}
use Rattle.texture_prediction.specs.declared.projections.Projected.TheVariants as projected
use Rattle.texture_values.proofs.Choosing.{choice-same, choice-by}
use Rattle.texture_values.proofs.chosen.choice_over.Goals as goal

pub returns-then-same_pair : goal.returns-then-same_pair
returns-then-same_pair c =
    sym (choice-same c.args.tip c.args.n c.args.p c.args.a c.args.b c.args.x (sym c.same_pair.ensures ∙ c.if-same_pair.true))

pub by_nearer-requires-clause-some : goal.by_nearer-requires-clause-some
by_nearer-requires-clause-some c none =
    (subst Divides c.in-At.is c.project.ensures.divides).0 none

pub by_nearer-requires-clause-more : goal.by_nearer-requires-clause-more
by_nearer-requires-clause-more c less =
    (subst Divides c.in-At.is c.project.ensures.divides).1 less

pub returns-in-Short : goal.returns-in-Short
returns-in-Short c =
    sym (choice-by c.args.tip c.args.n c.args.p c.args.a c.args.b c.args.x projected.Short (sym c.same_pair.ensures ∙ c.if-same_pair.false) (sym c.project.ensures.projection ∙ c.in-Short.is))

pub returns-in-Great : goal.returns-in-Great
returns-in-Great c =
    sym (choice-by c.args.tip c.args.n c.args.p c.args.a c.args.b c.args.x projected.Great (sym c.same_pair.ensures ∙ c.if-same_pair.false) (sym c.project.ensures.projection ∙ c.in-Great.is))

pub returns-in-At : goal.returns-in-At
returns-in-At c =
    let is = choice-by c.args.tip c.args.n c.args.p c.args.a c.args.b c.args.x (projected.At c.in-At.c) (sym c.same_pair.ensures ∙ c.if-same_pair.false) (sym c.project.ensures.projection ∙ c.in-At.is) in
    rw c.by_nearer.ensures (sym is)
