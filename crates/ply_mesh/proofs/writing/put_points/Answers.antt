use Rattle.std.proofs.Common.{◌+◌, ◌<◌, ◌≤◌, ◌++◌, ◌∙◌, List, ℤ, [], length, get_or, map, drop, take, ap, arith}
use Rattle.std.specs.Fmt.{signed_decimal}
use Rattle.ply_mesh.specs.Text.{line_text, text_of, point_lines}
use Rattle.ply_mesh.proofs.RowTexts.{point_more, no_more_points}
use Rattle.ply_mesh.proofs.Printing.{line_more, line_none, no_line}
use Rattle.ply_mesh.proofs.writing.put_points.Goals as goal

pub loop-i-preserved : goal.loop-i-preserved
loop-i-preserved g c =
    let points = g.P.Points.rows c.args.points.now in
    let i = c.loop-i.i in
    let below : i < length points = omega (arith, c.count-i-end.ensures) in
    let bytes = take c.args.before c.args.chunk.now ++ text_of (point_lines points) in
    let held = take c.loop-i.held c.loop-i.chunk in
    let rest = text_of (point_lines (drop (i + 1) points)) in
    let due = ap (λ (row : List ℤ). line_text (map signed_decimal row) ++ rest) {y = get_or points i []} c.row.ensures.row ∙ point_more points i below in (
      line_more _ _ _ bytes held _ _ _ _ rest c.loop-i.invariant.0 c.in_ok-from.ensures.text c.put_row-held.ensures.text due,
      omega (arith, c.in_ok-from.ensures.room, c.put_row-held.ensures.few),
      omega (arith, c.loop-i.invariant.2, c.in_ok-from.ensures.cause.kept),
    )

pub returns-in_err-from-clause-text : goal.returns-in_err-from-clause-text
returns-in_err-from-clause-text g c = line_none _ _ _ _ _ _ _ c.from_residual.result c.from_residual.ensures.0 c.loop-i.invariant.0 c.in_err-from.ensures.text

pub returns-clause-text : goal.returns-clause-text
returns-clause-text g c =
    let points = g.P.Points.rows c.args.points.now in
    let none : length points ≤ c.loop-i.i = omega (arith, c.count-i-end.ensures) in
    let held = take c.loop-i.held c.loop-i.chunk in
    no_line _ _ (take c.args.before c.args.chunk.now ++ text_of (point_lines points)) _ held (no_more_points held points c.loop-i.i none) c.loop-i.invariant.0
