use Rattle.std.proofs.Common.{rules, FitsSigned, w32}
use Rattle.std.proofs.lemmas.Int.{to_z-of_z}
use Rattle.predict.proofs.Means.{sum_more}
use Rattle.predict.proofs.parallelograms.sum_of_four.Goals as goal

pub returns : goal.returns
returns c =
    let sum_fits : FitsSigned w32 c.sum_of_three-three.result = search rules in
    let last_fits : FitsSigned w32 c.fourth_of-last.result = search rules in
    let fits : FitsSigned w32 c.wrapping_sum.result = search rules in
    let is = simp to_z-of_z at c.wrapping_sum.ensures in
    simp to_z-of_z (λ d. sum_more _ _ _ _ _ (c.sum_of_three-three.ensures d) (c.fourth_of-last.ensures d) is)
