use Rattle.std.proofs.Common.{◌∙◌, take}
use Rattle.predict.specs.Surfaces.{surface}
use Rattle.texture_values.specs.Pairs.{pair_of, pairs_of}
use Rattle.texture_values.proofs.Foretelling.{length-before}
use Rattle.texture_values.proofs.Choosing.{choice-is}
use Rattle.texture_values.proofs.chosen.choice_at.Goals as goal

pub returns : goal.returns
returns c =
    c.choice_from.ensures
    ∙ choice-is (surface c.args.on.now) c.args.places.now (take c.args.e (pairs_of c.args.values.now)) c.args.e c.entries_round-n.result.0 c.entries_round-n.result.1
    (pair_of (pairs_of c.args.values.now) c.args.e) (length-before c.args.values.now c.args.e c.requires.pair) c.entries_round-n.ensures.after c.entries_round-n.ensures.before
