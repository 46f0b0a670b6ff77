use Rattle.std.proofs.Common.{rules, FitsSigned, ◌∙◌}
use Rattle.std.specs.Int.{w32}
use Rattle.std.proofs.lemmas.Int.{to_z-of_z}
use Rattle.texture_values.proofs.Listed.{pairs-same}
use Rattle.texture_values.proofs.restored.restored_pair.Goals as goal

pub returns : goal.returns
returns c =
    let u : FitsSigned w32 c.restored.result = search rules in
    let v : FitsSigned w32 c.restored-2.result = search rules in
    let pu : FitsSigned w32 c.args.prediction.u = search rules in
    let pv : FitsSigned w32 c.args.prediction.v = search rules in
    let cu : FitsSigned w32 c.args.correction.u = search rules in
    let cv : FitsSigned w32 c.args.correction.v = search rules in
    simp to_z-of_z at c.pair_with.ensures ∙ pairs-same _ _ _ _ (simp to_z-of_z at c.restored.ensures) (simp to_z-of_z at c.restored-2.ensures)
