use Rattle.std.proofs.Common.{rules, ◌≡◌, length, FitsSigned, w32, arith}
use Rattle.std.proofs.lemmas.Int.{to_z-of_z}
use Rattle.predict.proofs.Means.{predicted_one, predicted_two, predicted_three, predicted_four}
use Rattle.predict.proofs.parallelograms.mean_of.Goals as goal

pub returns-in-1 : goal.returns-in-1
returns-in-1 c =
    let n : length c.args.faces.now ≡ 1 = omega arith in
    let fits : FitsSigned w32 c.fourth_of.result = search rules in
    simp to_z-of_z (predicted_one c.args.comps c.args.faces.now c.args.v.now c.args.e c.args.j c.fourth_of.result c.requires.component c.requires.below n c.fourth_of.ensures)

pub returns-in-2 : goal.returns-in-2
returns-in-2 c =
    let n : length c.args.faces.now ≡ 2 = omega arith in
    let sum_fits : FitsSigned w32 c.sum_of_two.result = search rules in
    let fits : FitsSigned w32 c.half.result = search rules in
    let is = simp to_z-of_z at c.half.ensures in
    simp to_z-of_z (predicted_two c.args.comps c.args.faces.now c.args.v.now c.args.e c.args.j c.half.result c.sum_of_two.result c.requires.component c.requires.below n is c.sum_of_two.ensures)

pub returns-in-3 : goal.returns-in-3
returns-in-3 c =
    let n : length c.args.faces.now ≡ 3 = omega arith in
    let sum_fits : FitsSigned w32 c.sum_of_three.result = search rules in
    let fits : FitsSigned w32 c.third.result = search rules in
    let is = simp to_z-of_z at c.third.ensures in
    simp to_z-of_z (predicted_three c.args.comps c.args.faces.now c.args.v.now c.args.e c.args.j c.third.result c.sum_of_three.result c.requires.component c.requires.below n is c.sum_of_three.ensures)

pub returns-in_default : goal.returns-in_default
returns-in_default c =
    let n : length c.args.faces.now ≡ 4 = omega arith in
    let sum_fits : FitsSigned w32 c.sum_of_four.result = search rules in
    let fits : FitsSigned w32 c.quarter.result = search rules in
    let is = simp to_z-of_z at c.quarter.ensures in
    simp to_z-of_z (predicted_four c.args.comps c.args.faces.now c.args.v.now c.args.e c.args.j c.quarter.result c.sum_of_four.result c.requires.component c.requires.below n is c.sum_of_four.ensures)
