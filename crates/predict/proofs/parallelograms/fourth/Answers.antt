use Rattle.std.proofs.Common.{rules, FitsSigned, w32}
use Rattle.std.proofs.lemmas.Int.{to_z-of_z}
use Rattle.predict.proofs.Means.{fourth_is}
use Rattle.predict.proofs.parallelograms.fourth.Goals as goal

pub returns : goal.returns
returns c =
    let after_fits : FitsSigned w32 c.value_at-after.result = search rules in
    let before_fits : FitsSigned w32 c.value_at-before.result = search rules in
    let across_fits : FitsSigned w32 c.value_at-across.result = search rules in
    let sum_fits : FitsSigned w32 c.wrapping_sum.result = search rules in
    let result_fits : FitsSigned w32 c.wrapping_difference.result = search rules in
    let sum = simp to_z-of_z at c.wrapping_sum.ensures in
    let is = simp to_z-of_z at c.wrapping_difference.ensures in
    simp to_z-of_z (fourth_is c.args.comps c.args.t c.args.j c.args.v.now c.value_at-after.result c.value_at-before.result c.value_at-across.result
    c.wrapping_sum.result c.wrapping_difference.result c.value_at-after.ensures c.value_at-before.ensures c.value_at-across.ensures sum is)
