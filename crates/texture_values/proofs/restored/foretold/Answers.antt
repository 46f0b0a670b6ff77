use Rattle.std.proofs.Common.{subst, Result, List, Bool, take}
use Rattle.drc_base.specs.declared.kinds.Kind.{Kind}
use Rattle.texture_prediction.specs.declared.pairs.Pair.{Pair}
use Rattle.texture_prediction.specs.Texture.{left_of}
use Rattle.predict.specs.Surfaces.{surface}
use Rattle.texture_values.specs.Pairs.{pairs_of}
use Rattle.texture_values.specs.Foretold.{Foretells}
use Rattle.texture_values.proofs.Foretelling.{length-before, step-is}
use Rattle.texture_values.proofs.restored.foretold.Goals as goal

pub returns : goal.returns
returns c =
    let is = step-is (surface c.args.on.now) c.args.places.now (take c.args.e (pairs_of c.args.values.now)) c.args.e c.entries_round-n.result.0 c.entries_round-n.result.1
    (left_of c.args.orientations.now c.args.left) (length-before c.args.values.now c.args.e c.requires.pair) c.entries_round-n.ensures.after c.entries_round-n.ensures.before in
    subst (λ (due : Result (Pair × List Bool) Kind). Foretells due c.args.orientations.now c.from_entries.result) is c.from_entries.ensures
