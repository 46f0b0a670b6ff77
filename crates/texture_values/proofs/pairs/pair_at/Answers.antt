use Rattle.std.proofs.Common.{rules, ◌≡◌, ◌+◌, ◌*◌, get_or, pos, ◌∙◌}
use Rattle.texture_prediction.specs.Projection.{pair}
use Rattle.texture_values.proofs.Listed.{pair-is}
use Rattle.texture_values.proofs.pairs.pair_at.Goals as goal

pub returns : goal.returns
returns c =
    let is : c.pair_with.result ≡ pair (get_or c.args.values.now (2 * c.args.e) (pos 0)) (get_or c.args.values.now (2 * c.args.e + 1) (pos 0)) = search rules in
    is ∙ pair-is c.args.values.now c.args.e c.requires
