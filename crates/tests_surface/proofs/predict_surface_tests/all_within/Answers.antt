use Rattle.std.proofs.Common.{rules, ◌<◌, ◌≤ℤ◌, pos, get_or, length, take, FitsSigned, w32, sym, arith}
use Rattle.std.specs.List.{All}
use Rattle.std.proofs.lemmas.Int.{ints, to_z-of_z}
use Rattle.std.proofs.lemmas.List.{take_all}
use Rattle.std.proofs.lemmas.List.Elements.{All-more, All-same}
use Rattle.tests_surface.proofs.predict_surface_tests.all_within.Goals as goal

pub loop-i-preserved : goal.loop-i-preserved
loop-i-preserved c =
    let has : c.loop-i.i < length c.args.v.now = omega arith in
    let low_fits : FitsSigned w32 c.args.low = c.ranges.low in
    let high_fits : FitsSigned w32 c.args.high = c.ranges.high in
    let fits : FitsSigned w32 (get_or c.args.v.now c.loop-i.i (pos 0)) = search rules in
    let so : All (λ x. (c.args.low ≤ℤ x) × (x ≤ℤ c.args.high)) (take c.loop-i.i c.args.v.now) = simp to_z-of_z at c.loop-i.invariant in
    simp to_z-of_z (All-more (λ x. (c.args.low ≤ℤ x) × (x ≤ℤ c.args.high)) c.args.v.now c.loop-i.i (pos 0) has so (omega (arith, ints), omega (arith, ints)))

pub returns : goal.returns
returns c = λ yes.
    let low_fits : FitsSigned w32 c.args.low = c.ranges.low in
    let high_fits : FitsSigned w32 c.args.high = c.ranges.high in
    let so : All (λ x. (c.args.low ≤ℤ x) × (x ≤ℤ c.args.high)) (take c.loop-i.i c.args.v.now) = simp to_z-of_z at c.loop-i.invariant in
    All-same (λ x. (c.args.low ≤ℤ x) × (x ≤ℤ c.args.high)) c.args.v.now (take c.loop-i.i c.args.v.now) (sym (take_all c.loop-i.i c.args.v.now (omega arith))) so
