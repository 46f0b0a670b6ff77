use Rattle.std.proofs.Common.{rules, ◌∙◌, sym, FitsSigned}
use Rattle.std.specs.Int.{w32, w64}
use Rattle.std.proofs.lemmas.Int.{to_z-of_z}
use Rattle.texture_prediction.proofs.Projecting.{candidates-is, square-some, square-more}
use Rattle.texture_prediction.proofs.projections.both.Goals as goal

pub from_foot-requires-clause-some : goal.from_foot-requires-clause-some
from_foot-requires-clause-some c none =
    let fits : FitsSigned w64 c.with_sign-divisor.result = search rules in
    square-some c.args.d c.args.square c.requires.square c.requires.some (sym c.with_sign-divisor.ensures ∙ simp to_z-of_z at none)

pub from_foot-requires-clause-more : goal.from_foot-requires-clause-more
from_foot-requires-clause-more c none =
    let fits : FitsSigned w64 c.with_sign-divisor.result = search rules in
    square-more c.args.d c.args.square c.requires.square (sym c.with_sign-divisor.ensures ∙ simp to_z-of_z at none)

pub returns : goal.returns
returns c =
    let divisor : FitsSigned w64 c.with_sign-divisor.result = search rules in
    let along : FitsSigned w64 c.args.along = c.ranges.along in
    let au : FitsSigned w64 c.along_at.result = search rules in
    let av : FitsSigned w64 c.along_at-2.result = search rules in
    let xu : FitsSigned w64 c.across_at.result = search rules in
    let xv : FitsSigned w64 c.across_at-2.result = search rules in
    let a_u : FitsSigned w32 c.args.a.u = search rules in
    let a_v : FitsSigned w32 c.args.a.v = search rules in
    let b_u : FitsSigned w32 c.args.b.u = search rules in
    let b_v : FitsSigned w32 c.args.b.v = search rules in
    simp to_z-of_z (candidates-is c.args.tip c.args.n c.args.d c.args.along c.args.square c.args.a c.args.b
    c.with_sign-divisor.result c.from_foot.result c.height-rise.result c.along_at.result c.along_at-2.result c.across_at.result c.across_at-2.result
    c.with_sign-divisor.ensures (simp to_z-of_z at c.from_foot.ensures) c.height-rise.ensures.value
    (simp to_z-of_z at c.along_at.ensures) (simp to_z-of_z at c.along_at-2.ensures) (simp to_z-of_z at c.across_at.ensures) (simp to_z-of_z at c.across_at-2.ensures))
