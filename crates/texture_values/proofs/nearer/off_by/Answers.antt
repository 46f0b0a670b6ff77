use Rattle.std.proofs.Common.{rules, FitsSigned}
use Rattle.std.specs.Int.{w32, w64}
use Rattle.std.proofs.lemmas.Int.{to_z-of_z}
use Rattle.texture_values.proofs.Distances.{off-is}
use Rattle.texture_values.proofs.nearer.off_by.Goals as goal

pub returns : goal.returns
returns c =
    let xu : FitsSigned w32 c.args.x.u = search rules in
    let xv : FitsSigned w32 c.args.x.v = search rules in
    let wide_u : FitsSigned w64 c.args.x.u = search rules in
    let wide_v : FitsSigned w64 c.args.x.v = search rules in
    let along_u : FitsSigned w64 c.args.c.along_u = search rules in
    let along_v : FitsSigned w64 c.args.c.along_v = search rules in
    let across_u : FitsSigned w64 c.args.c.across_u = search rules in
    let across_v : FitsSigned w64 c.args.c.across_v = search rules in
    let square : FitsSigned w64 c.args.c.square = search rules in
    let u : FitsSigned w64 c.whole_candidate-u.result = search rules in
    let v : FitsSigned w64 c.whole_candidate-v.result = search rules in
    let a : FitsSigned w64 c.difference.result = search rules in
    let b : FitsSigned w64 c.difference-2.result = search rules in
    let r : FitsSigned w64 c.squares.result = search rules in
    simp to_z-of_z (off-is c.args.c c.args.x c.args.plus c.whole_candidate-u.result c.whole_candidate-v.result c.difference.result c.difference-2.result c.squares.result
    (simp to_z-of_z at c.whole_candidate-u.ensures) (simp to_z-of_z at c.whole_candidate-v.ensures) (simp to_z-of_z at c.difference.ensures)
    (simp to_z-of_z at c.difference-2.ensures) (simp to_z-of_z at c.squares.ensures))
