use Rattle.std.proofs.Common.{rules, ◌≡◌, ◌+ℤ◌, ℤ, FitsSigned, to_z, of_z, subst, sym}
use Rattle.std.specs.Int.{w32}
use Rattle.std.proofs.lemmas.Int.{to_z-of_z}
use Rattle.predict.proofs.Wrapping.{Corrected, corrected}
use Rattle.predict.proofs.wraps.Wrap.correction.Goals.{After-way_to_half, After-sum_within}
use Rattle.predict.proofs.wraps.Wrap.correction.Goals as goal

-- the sum of the difference and of what brings it to half a span
halves : (c : After-way_to_half) → Corrected c.args.self.now c.args.prediction c.args.value (c.difference-apart.result +ℤ c.way_to_half.result)
halves c =
    let base_fits : FitsSigned w32 c.clipped.result = search rules in
    let prediction_fits : FitsSigned w32 c.args.prediction = c.ranges.prediction in
    let value_fits : FitsSigned w32 c.args.value = c.ranges.value in
    let apart_fits : FitsSigned w32 c.difference-apart.result = search rules in
    corrected c.args.self.now c.args.prediction c.clipped.result c.args.value c.difference-apart.result c.way_to_half.result
    (simp to_z-of_z at c.clipped.ensures.value) (simp to_z-of_z at c.difference-apart.ensures) (simp to_z-of_z at c.way_to_half.ensures)
    c.clipped.ensures.can_wrap c.clipped.ensures.above c.clipped.ensures.below c.requires.above c.requires.below c.ranges.value

pub sum_within-requires : goal.sum_within-requires
sum_within-requires c =
    let apart_fits : FitsSigned w32 c.difference-apart.result = search rules in
    let back_fits : FitsSigned w32 c.way_to_half.result = search rules in
    simp to_z-of_z (halves c).fits

-- the correction that is answered
answered : (c : After-sum_within) → Corrected c.args.self.now c.args.prediction c.args.value (to_z w32 (of_z w32 c.sum_within.result))
answered c =
    let apart_fits : FitsSigned w32 c.difference-apart.result = search rules in
    let back_fits : FitsSigned w32 c.way_to_half.result = search rules in
    let result_fits : FitsSigned w32 c.sum_within.result = search rules in
    let is : c.sum_within.result ≡ c.difference-apart.result +ℤ c.way_to_half.result = simp to_z-of_z at c.sum_within.ensures in
    simp to_z-of_z (subst (λ (x : ℤ). Corrected c.args.self.now c.args.prediction c.args.value x) (sym is) (halves c.before))

pub returns-clause-correction : goal.returns-clause-correction
returns-clause-correction c = (answered c).is

pub returns-clause-least : goal.returns-clause-least
returns-clause-least c = (answered c).least

pub returns-clause-greatest : goal.returns-clause-greatest
returns-clause-greatest c = (answered c).greatest

pub returns-clause-restores : goal.returns-clause-restores
returns-clause-restores c = (answered c).restores
