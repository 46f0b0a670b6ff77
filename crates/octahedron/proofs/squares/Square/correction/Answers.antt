use Rattle.std.proofs.Common.{rules, ◌≡◌, ◌∙◌, ◌-ℤ◌, FitsSigned, arith}
use Rattle.std.specs.Int.{w32}
use Rattle.std.proofs.lemmas.Int.{ints, to_z-of_z}
use Rattle.octahedron.specs.Corrections.{lifted, correction}
use Rattle.octahedron.proofs.Flipping.{point-same}
use Rattle.octahedron.proofs.Turning.{correction_is, restored-correction, restored-canonical, IsValue-correction}
use Rattle.octahedron.proofs.squares.Square.correction.Goals as goal
use Rattle.octahedron.proofs.squares.Square.correction.Goals.{After-point_at}

value : (c : After-point_at) → c.point_at.result ≡ correction c.args.self.centre c.args.prediction c.args.point
value c =
    let s_fits : FitsSigned w32 c.lifted-s.result = search rules in
    let t_fits : FitsSigned w32 c.lifted-t.result = search rules in
    let base_s : FitsSigned w32 c.frame-frame.result.base.s = search rules in
    let base_t : FitsSigned w32 c.frame-frame.result.base.t = search rules in
    let there_s : FitsSigned w32 c.moved-there.result.s = search rules in
    let there_t : FitsSigned w32 c.moved-there.result.t = search rules in
    let sum_s : FitsSigned w32 (c.moved-there.result.s -ℤ c.frame-frame.result.base.s) = search (arith, ints) in
    let sum_t : FitsSigned w32 (c.moved-there.result.t -ℤ c.frame-frame.result.base.t) = search (arith, ints) in
    let s = simp to_z-of_z at c.lifted-s.ensures.value in
    let t = simp to_z-of_z at c.lifted-t.ensures.value in
    let x = simp to_z-of_z at c.point_at.ensures in
    correction_is c.args.self.centre c.args.prediction c.args.point c.frame-frame.result.outside c.frame-frame.result.quarters c.frame-frame.result.base
    c.moved-there.result c.point_at.result c.frame-frame.ensures.outside c.frame-frame.ensures.quarters c.frame-frame.ensures.base c.moved-there.ensures.value
    (x ∙ point-same c.lifted-s.result (lifted c.args.self.centre (c.moved-there.result.s -ℤ c.frame-frame.result.base.s))
    c.lifted-t.result (lifted c.args.self.centre (c.moved-there.result.t -ℤ c.frame-frame.result.base.t)) s t)

pub returns-clause-value : goal.returns-clause-value
returns-clause-value c = value c

pub returns-clause-within : goal.returns-clause-within
returns-clause-within c =
    rw (value c) (IsValue-correction c.args.self.centre c.args.prediction c.args.point c.requires.prediction c.requires.point)

pub returns-clause-restores : goal.returns-clause-restores
returns-clause-restores c =
    rw (value c) (restored-correction c.args.self.centre c.args.prediction c.args.point c.args.self.some c.requires.prediction c.requires.point)

pub returns-clause-canonical : goal.returns-clause-canonical
returns-clause-canonical c is =
    rw (value c) (restored-canonical c.args.self.centre c.args.prediction c.args.point c.args.self.some c.requires.prediction c.requires.point is)

pub lifted-s-requires-clause-least : goal.lifted-s-requires-clause-least
lifted-s-requires-clause-least c =
    let base_fits : FitsSigned w32 c.frame-frame.result.base.s = search rules in
    let there_fits : FitsSigned w32 c.moved-there.result.s = search rules in
    omega (arith, ints, c.moved-there.ensures.inside.left, c.frame-frame.ensures.inside.right, c.args.self.some)

pub lifted-s-requires-clause-greatest : goal.lifted-s-requires-clause-greatest
lifted-s-requires-clause-greatest c =
    let base_fits : FitsSigned w32 c.frame-frame.result.base.s = search rules in
    let there_fits : FitsSigned w32 c.moved-there.result.s = search rules in
    omega (arith, ints, c.moved-there.ensures.inside.right, c.frame-frame.ensures.inside.left, c.args.self.some)

pub lifted-t-requires-clause-least : goal.lifted-t-requires-clause-least
lifted-t-requires-clause-least c =
    let base_fits : FitsSigned w32 c.frame-frame.result.base.t = search rules in
    let there_fits : FitsSigned w32 c.moved-there.result.t = search rules in
    omega (arith, ints, c.moved-there.ensures.inside.below, c.frame-frame.ensures.inside.above, c.args.self.some)

pub lifted-t-requires-clause-greatest : goal.lifted-t-requires-clause-greatest
lifted-t-requires-clause-greatest c =
    let base_fits : FitsSigned w32 c.frame-frame.result.base.t = search rules in
    let there_fits : FitsSigned w32 c.moved-there.result.t = search rules in
    omega (arith, ints, c.moved-there.ensures.inside.above, c.frame-frame.ensures.inside.below, c.args.self.some)
