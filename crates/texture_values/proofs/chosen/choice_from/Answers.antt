use Rattle.std.proofs.Common.{◌∙◌, sym, ap, take, Bool, Option, None, Result, Ok}
use Rattle.drc_base.specs.declared.kinds.Kind.{Kind}
use Rattle.texture_prediction.specs.declared.pairs.Pair.{Pair}
use Rattle.texture_values.specs.Pairs.{pair_of, pairs_of}
use Rattle.texture_values.proofs.Choosing.{choice-side, choice-less}
use Rattle.texture_values.proofs.chosen.choice_from.Goals as goal

pub returns-then-are_before : goal.returns-then-are_before
returns-then-are_before c =
    c.choice_between.ensures
    ∙ sym (choice-side c.args.places.now c.args.e c.args.n c.args.p (take c.args.e (pairs_of c.args.values.now)) (pair_of (pairs_of c.args.values.now) c.args.e)
    (sym c.are_before.ensures ∙ c.if-are_before.true))

pub returns-else-are_before : goal.returns-else-are_before
returns-else-are_before c =
    ap alone c.without_side.ensures
    ∙ sym (choice-less c.args.places.now c.args.e c.args.n c.args.p (take c.args.e (pairs_of c.args.values.now)) (pair_of (pairs_of c.args.values.now) c.args.e)
    (sym c.are_before.ensures ∙ c.if-are_before.false))
  where
    alone : Pair → Result (Pair × Option Bool) Kind
    alone x = Ok (x, None)
