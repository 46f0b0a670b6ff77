use Rattle.std.proofs.Common.{rules, ◌∙◌, ◌+ℤ◌, FitsSigned, arith}
use Rattle.std.specs.Int.{w32}
use Rattle.std.proofs.lemmas.Int.{ints, to_z-of_z}
use Rattle.octahedron.specs.Corrections.{folded}
use Rattle.octahedron.proofs.Flipping.{point-same}
use Rattle.octahedron.proofs.Turning.{restored_is}
use Rattle.octahedron.proofs.squares.Square.restored.Goals as goal

pub returns-clause-value : goal.returns-clause-value
returns-clause-value c =
    let s_fits : FitsSigned w32 c.folded-s.result = search rules in
    let t_fits : FitsSigned w32 c.folded-t.result = search rules in
    let base_s : FitsSigned w32 c.frame-frame.result.base.s = search rules in
    let base_t : FitsSigned w32 c.frame-frame.result.base.t = search rules in
    let d_s : FitsSigned w32 c.args.correction.s = search rules in
    let d_t : FitsSigned w32 c.args.correction.t = search rules in
    let sum_s : FitsSigned w32 (c.frame-frame.result.base.s +ℤ c.args.correction.s) = search (arith, ints) in
    let sum_t : FitsSigned w32 (c.frame-frame.result.base.t +ℤ c.args.correction.t) = search (arith, ints) in
    let s = simp to_z-of_z at c.folded-s.ensures.value in
    let t = simp to_z-of_z at c.folded-t.ensures.value in
    let x = simp to_z-of_z at c.point_at.ensures in
    restored_is c.args.self.centre c.args.prediction c.args.correction c.frame-frame.result.outside c.frame-frame.result.quarters c.frame-frame.result.base
    c.point_at.result c.moved_back.result c.frame-frame.ensures.outside c.frame-frame.ensures.quarters c.frame-frame.ensures.base
    (x ∙ point-same c.folded-s.result (folded c.args.self.centre (c.frame-frame.result.base.s +ℤ c.args.correction.s))
    c.folded-t.result (folded c.args.self.centre (c.frame-frame.result.base.t +ℤ c.args.correction.t)) s t) c.moved_back.ensures.value
