use Rattle.std.proofs.Common.{◌+◌, ◌-◌, List, ℕ, length, map, ap, subst, arith}
use Rattle.std.proofs.lemmas.Result.{err_from_is_err_and}
use Rattle.ply_text.specs.Tokens.{tokens_of}
use Rattle.ply_mesh.specs.Body.{row_read, items_from}
use Rattle.ply_mesh.proofs.ItemSteps.{AreRowsSoFar, rows_more, first_refused}
use Rattle.ply_mesh.proofs.bodies.read_rows.Goals as goal

pub returns-in_err-take_row-clause-rows : goal.returns-in_err-take_row-clause-rows
returns-in_err-take_row-clause-rows c =
    let item = row_read c.args.columns.now in
    let h = c.loop-i.invariant.0 in
    let p = err_from_is_err_and c.from_residual-in_err-take_row.result c.from_residual-in_err-take_row.ensures.1 in
    rw (p.1, p.2) (first_refused item h.front c.args.count c.loop-i.i c.args.at (map tokens_of c.loop-i.lines) _ _ c.loop-i-test.true c.in_err-take_row.ensures.row h.whole)

pub loop-i-preserved : goal.loop-i-preserved
loop-i-preserved c =
    let item = row_read c.args.columns.now in
    let due = items_from item c.args.count c.args.at (map tokens_of c.args.lines.now) in
    let t = c.in_ok-take_row.ensures.row in
    let shorter = ap length t.1 in (
      rows_more due item c.loop-i.cells.items c.take_row.new.out.items c.args.count c.loop-i.i c.args.at (tokens_of t.0) (map tokens_of c.take_row.new.lines) c.loop-i-test.true t.2
          (subst (λ (ls : List (List ℕ)). AreRowsSoFar due c.loop-i.cells.items (items_from item (c.args.count - c.loop-i.i) (c.args.at + c.loop-i.i) (map tokens_of ls))) t.1 c.loop-i.invariant.0),
      omega arith,
    )
