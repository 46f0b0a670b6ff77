use Rattle.std.proofs.Common.{◌∙◌, sym, subst, ap, Result, Ok, List, Bool, take}
use Rattle.drc_base.specs.declared.kinds.Kind.{Kind}
use Rattle.texture_prediction.specs.declared.pairs.Pair.{Pair}
use Rattle.texture_prediction.specs.Texture.{left_of}
use Rattle.texture_values.specs.Pairs.{pairs_of}
use Rattle.texture_values.specs.Foretold.{Foretells}
use Rattle.texture_values.proofs.Foretelling.{from-side, from-less}
use Rattle.texture_values.proofs.foretold.from_entries.Goals as goal

pub returns-then-are_before : goal.returns-then-are_before
returns-then-are_before c =
    let is = from-side c.args.places.now c.args.e c.args.n c.args.p (take c.args.e (pairs_of c.args.values.now)) (left_of c.args.orientations.now c.args.left)
    (sym c.are_before.ensures ∙ c.if-are_before.true) in
    subst (λ (due : Result (Pair × List Bool) Kind). Foretells due c.args.orientations.now c.over_entries.result) (sym is) c.over_entries.ensures

pub returns-else-are_before : goal.returns-else-are_before
returns-else-are_before c =
    let is = from-less c.args.places.now c.args.e c.args.n c.args.p (take c.args.e (pairs_of c.args.values.now)) (left_of c.args.orientations.now c.args.left)
    (sym c.are_before.ensures ∙ c.if-are_before.false) in
    (is ∙ ap (λ (x : Pair). answered x (left_of c.args.orientations.now c.args.left)) (sym c.without_side.ensures), c.requires.left)
  where
    answered : Pair → List Bool → Result (Pair × List Bool) Kind
    answered x left = Ok (x, left)
