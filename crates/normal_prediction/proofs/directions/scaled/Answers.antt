use Rattle.std.proofs.Common.{rules, ◌≡◌, FitsSigned, arith}
use Rattle.std.specs.Int.{w32, w64}
use Rattle.std.proofs.lemmas.Int.{to_z-of_z}
use Rattle.normal_prediction.specs.Directions.{scaled}
use Rattle.normal_prediction.proofs.Scaling.{parts-within, scaled-is, scaled-on}
use Rattle.normal_prediction.proofs.directions.scaled.Goals as goal
use Rattle.normal_prediction.proofs.directions.scaled.Goals.{After-direction_at}

pub rest-requires-clause-within : goal.rest-requires-clause-within
rest-requires-clause-within c =
    let mx : FitsSigned w64 c.args.m.x = search rules in
    let my : FitsSigned w64 c.args.m.y = search rules in
    let x : FitsSigned w32 c.part-x.result = search rules in
    let y : FitsSigned w32 c.part-y.result = search rules in
    let fc : FitsSigned w32 c.args.c = c.ranges.c in
    let ex = simp to_z-of_z at c.part-x.ensures in
    let ey = simp to_z-of_z at c.part-y.ensures in
    simp to_z-of_z (rw (ex, ey) (parts-within c.args.m.x c.args.m.y c.args.c c.args.s c.requires.some (omega (arith, c.requires.sum))))

is : (c : After-direction_at) → c.direction_at.result ≡ scaled c.args.c c.args.m c.args.s
is c =
    let mx : FitsSigned w64 c.args.m.x = search rules in
    let my : FitsSigned w64 c.args.m.y = search rules in
    let mz : FitsSigned w64 c.args.m.z = search rules in
    let x : FitsSigned w32 c.part-x.result = search rules in
    let y : FitsSigned w32 c.part-y.result = search rules in
    let z : FitsSigned w32 c.rest.result = search rules in
    let fc : FitsSigned w32 c.args.c = c.ranges.c in
    scaled-is c.args.c c.args.m c.args.s c.part-x.result c.part-y.result c.rest.result c.direction_at.result
    (simp to_z-of_z at c.part-x.ensures) (simp to_z-of_z at c.part-y.ensures) (simp to_z-of_z at c.rest.ensures) (simp to_z-of_z at c.direction_at.ensures)

pub returns-clause-value : goal.returns-clause-value
returns-clause-value c = is c

pub returns-clause-on : goal.returns-clause-on
returns-clause-on c = rw (is c) (scaled-on c.args.c c.args.m c.args.s c.requires.centre c.requires.some c.requires.sum)
