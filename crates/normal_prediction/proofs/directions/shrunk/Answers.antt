use Rattle.std.proofs.Common.{rules, ◌^◌, ◌<◌, ◌≤◌, sym, FitsSigned, arith}
use Rattle.std.specs.Int.{w64}
use Rattle.std.proofs.lemmas.Int.{to_z-of_z}
use Rattle.normal_prediction.proofs.Scaling.{divided-is, shrunk-short}
use Rattle.normal_prediction.proofs.directions.shrunk.Goals as goal

pub returns-then-sum-gt-UPPER_BOUND-clause-value : goal.returns-then-sum-gt-UPPER_BOUND-clause-value
returns-then-sum-gt-UPPER_BOUND-clause-value c =
    let nx : FitsSigned w64 c.args.n.x = search rules in
    let ny : FitsSigned w64 c.args.n.y = search rules in
    let nz : FitsSigned w64 c.args.n.z = search rules in
    let x : FitsSigned w64 c.shrunk_by.result = search rules in
    let y : FitsSigned w64 c.shrunk_by-then-sum-gt-UPPER_BOUND.result = search rules in
    let z : FitsSigned w64 c.shrunk_by-then-sum-gt-UPPER_BOUND-2.result = search rules in
    let long : 2 ^ 29 < c.capped_sum-sum.result = omega arith in
    divided-is c.args.n c.vector_at.result c.capped_sum-sum.result c.shrunk_by.result c.shrunk_by-then-sum-gt-UPPER_BOUND.result c.shrunk_by-then-sum-gt-UPPER_BOUND-2.result
    c.capped_sum-sum.ensures long (simp to_z-of_z at c.shrunk_by.ensures.value) (simp to_z-of_z at c.shrunk_by-then-sum-gt-UPPER_BOUND.ensures.value)
    (simp to_z-of_z at c.shrunk_by-then-sum-gt-UPPER_BOUND-2.ensures.value) (simp to_z-of_z at c.vector_at.ensures)

pub returns-else-sum-gt-UPPER_BOUND-clause-value : goal.returns-else-sum-gt-UPPER_BOUND-clause-value
returns-else-sum-gt-UPPER_BOUND-clause-value c =
    let short : c.capped_sum-sum.result ≤ 2 ^ 29 = omega arith in
    sym (shrunk-short c.args.n (rw (sym c.capped_sum-sum.ensures) short))
