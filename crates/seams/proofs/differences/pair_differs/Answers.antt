-- The ends are compared one after the other.
use Rattle.std.proofs.Common.{sym, ◌∙◌}
use Rattle.corner_table.specs.Sides.{next, prev, side_at}
use Rattle.seams.specs.Values.{differ}
use Rattle.seams.proofs.Values.{differ_is, either_is}
use Rattle.seams.proofs.differences.pair_differs.Goals as goal

pub returns : goal.returns
returns c k a b =
    let m = c.args.m.now in
    let x = side_at c.args.x in
    let y = side_at c.args.y in
    let one = differ_is m k c.args.span.0 c.args.span.1 c.point_after.result c.point_before.result (next x) (prev y) c.points_differ.result a b c.point_after.ensures.point c.point_before.ensures.point c.points_differ.ensures in
    let other = differ_is m k c.args.span.0 c.args.span.1 c.point_before-2.result c.point_after-2.result (prev x) (next y) c.points_differ-2.result a b c.point_before-2.ensures.point c.point_after-2.ensures.point c.points_differ-2.ensures in
    either_is (differ m k (next x) (prev y)) (differ m k (prev x) (next y)) c.points_differ-2.result (sym one ∙ c.if-points_differ.false) other
