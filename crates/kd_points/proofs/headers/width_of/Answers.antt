use Rattle.std.proofs.Common.{◌<◌, ◌≤◌, length, arith}
use Rattle.std.proofs.lemmas.Grind.{common_steps}
use Rattle.kd_points.proofs.Headed.{heads_few, comps_few}
use Rattle.kd_points.proofs.headers.width_of.Goals as goal

pub overflow_add-width : goal.overflow_add-width
overflow_add-width c =
    let within : c.loop-head.head-index < length c.args.heads.now = omega arith in
    let eight : c.head-item.result.comps ≤ 8 = rw c.head-item.is (comps_few c.args.heads.now c.requires c.loop-head.head-index c.head-item.result within) in
    let few = heads_few c.args.heads.now c.requires in
    omega (arith, eight, few)

pub loop-head-preserved : goal.loop-head-preserved
loop-head-preserved c =
    let within : c.loop-head.head-index < length c.args.heads.now = omega arith in
    let eight : c.head-item.result.comps ≤ 8 = rw c.head-item.is (comps_few c.args.heads.now c.requires c.loop-head.head-index c.head-item.result within) in
    (grind (arith, common_steps), omega (arith, eight))

pub returns-clause-most : goal.returns-clause-most
returns-clause-most c =
    let few = heads_few c.args.heads.now c.requires in
    omega (arith, few)
