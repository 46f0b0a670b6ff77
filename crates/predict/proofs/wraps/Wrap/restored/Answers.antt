use Rattle.std.proofs.Common.{rules, ◌+ℤ◌, FitsSigned, ◌∙◌, ap}
use Rattle.std.specs.Int.{w32, w64, int_wrap}
use Rattle.std.proofs.lemmas.Int.{to_z-of_z}
use Rattle.predict.specs.Wrap.{wrapped}
use Rattle.predict.proofs.Wrapping.{wrapped_sum}
use Rattle.predict.proofs.wraps.Wrap.restored.Goals as goal

pub returns : goal.returns
returns c =
    let base_fits : FitsSigned w32 c.clipped-base.result = search rules in
    let correction_fits : FitsSigned w32 c.args.correction = c.ranges.correction in
    let prediction_fits : FitsSigned w32 c.args.prediction = c.ranges.prediction in
    let sum_fits : FitsSigned w64 c.sum.result = search rules in
    let back_fits : FitsSigned w32 c.way_back-back.result = search rules in
    let value_fits : FitsSigned w32 c.wrapping_sum-value.result = search rules in
    let result_fits : FitsSigned w32 c.wrapping_sum.result = search rules in
    let base = simp to_z-of_z at c.clipped-base.ensures.value in
    let total = simp to_z-of_z at c.sum.ensures in
    let back = simp to_z-of_z at c.way_back-back.ensures in
    let value = simp to_z-of_z at c.wrapping_sum-value.ensures in
    let result = simp to_z-of_z at c.wrapping_sum.ensures in
    simp to_z-of_z (result ∙ wrapped_sum c.clipped-base.result c.args.correction c.way_back-back.result c.wrapping_sum-value.result c.args.self.now value (rw total at back) ∙ ap (λ b. int_wrap w32 (wrapped c.args.self.now (b +ℤ c.args.correction))) base)
