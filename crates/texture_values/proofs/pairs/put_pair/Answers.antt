use Rattle.std.proofs.Common.{rules, FitsSigned}
use Rattle.std.specs.Int.{w32}
use Rattle.std.proofs.lemmas.Int.{to_z-of_z}
use Rattle.texture_values.proofs.Listed.{pairs-set}
use Rattle.texture_values.proofs.pairs.put_pair.Goals as goal

pub returns : goal.returns
returns c =
    let u : FitsSigned w32 c.args.x.u = search rules in
    let v : FitsSigned w32 c.args.x.v = search rules in
    simp to_z-of_z (pairs-set c.args.values.now c.args.e c.args.x c.requires)
