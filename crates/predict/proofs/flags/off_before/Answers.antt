use Rattle.std.proofs.Common.{rules, ◌-◌, ◌<◌, ◌^◌, FitsSigned, w32, refl, ◌∙◌, arith}
use Rattle.std.proofs.lemmas.Int.{to_z-of_z}
use Rattle.predict.specs.Parallelogram.{component}
use Rattle.predict.specs.Multi.{off_by}
use Rattle.predict.proofs.Kept.{off_more, apart_is}
use Rattle.predict.proofs.flags.off_before.Goals as goal

pub loop-j-init : goal.loop-j-init
unfolding off_by
loop-j-init c = record { small = omega arith; is = refl }

pub loop-j-preserved : goal.loop-j-preserved
loop-j-preserved c =
    let value_fits : FitsSigned w32 c.value_at-value.result = search rules in
    let other_fits : FitsSigned w32 c.value_at-before.result = search rules in
    let apart = simp to_z-of_z at c.abs_diff.ensures in
    let small : c.from-off.result < 2 ^ 32 = search rules in
    record {
      small = omega (arith, small, c.loop-j.invariant.small);
      is = off_more (component c.args.comps c.args.v.now (c.args.e - 1)) (component c.args.comps c.args.v.now c.args.e) c.loop-j.j c.loop-j.off c.from-off.result
          (c.from-off.ensures ∙ apart_is c.value_at-before.result c.value_at-value.result _ _ c.abs_diff.result apart c.value_at-before.ensures c.value_at-value.ensures) c.loop-j.invariant.is;
    }
