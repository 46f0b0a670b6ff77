use Rattle.std.proofs.Common.{rules, ◌+◌, FitsSigned}
use Rattle.std.specs.Int.{w32, w64}
use Rattle.std.proofs.lemmas.Int.{to_z-of_z}
use Rattle.normal_prediction.proofs.Scaling.{flat-is, long-is, sizes-is}
use Rattle.normal_prediction.proofs.directions.direction_of.Goals as goal

pub returns-then-s-eq0-clause-value : goal.returns-then-s-eq0-clause-value
returns-then-s-eq0-clause-value c =
    let centre : FitsSigned w32 c.args.square.centre = search rules in
    let x : FitsSigned w64 c.shrunk-m.result.x = search rules in
    let y : FitsSigned w64 c.shrunk-m.result.y = search rules in
    let z : FitsSigned w64 c.shrunk-m.result.z = search rules in
    let s = sizes-is c.shrunk-m.result c.unsigned_abs.result c.unsigned_abs-2.result c.unsigned_abs-3.result
    (simp to_z-of_z at c.unsigned_abs.ensures.value) (simp to_z-of_z at c.unsigned_abs-2.ensures.value) (simp to_z-of_z at c.unsigned_abs-3.ensures.value) in
    flat-is c.args.square.centre c.args.n c.shrunk-m.result (c.unsigned_abs.result + (c.unsigned_abs-2.result + c.unsigned_abs-3.result)) c.direction_at.result
    c.shrunk-m.ensures.value s c.if-s-eq0.true (simp to_z-of_z at c.direction_at.ensures)

pub returns-else-s-eq0-clause-value : goal.returns-else-s-eq0-clause-value
returns-else-s-eq0-clause-value c =
    let centre : FitsSigned w32 c.args.square.centre = search rules in
    let x : FitsSigned w64 c.shrunk-m.result.x = search rules in
    let y : FitsSigned w64 c.shrunk-m.result.y = search rules in
    let z : FitsSigned w64 c.shrunk-m.result.z = search rules in
    let s = sizes-is c.shrunk-m.result c.unsigned_abs.result c.unsigned_abs-2.result c.unsigned_abs-3.result
    (simp to_z-of_z at c.unsigned_abs.ensures.value) (simp to_z-of_z at c.unsigned_abs-2.ensures.value) (simp to_z-of_z at c.unsigned_abs-3.ensures.value) in
    long-is c.args.square.centre c.args.n c.shrunk-m.result (c.unsigned_abs.result + (c.unsigned_abs-2.result + c.unsigned_abs-3.result)) c.scaled.result
    c.shrunk-m.ensures.value s c.if-s-eq0.false (simp to_z-of_z at c.scaled.ensures.value)
