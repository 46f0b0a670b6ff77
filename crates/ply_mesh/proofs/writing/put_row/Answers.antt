use Rattle.std.proofs.Common.{◌≡◌, ◌-◌, ◌++◌, ◌∷◌, [], length, map, get_or, take, drop, pos, subst, rules, arith}
use Rattle.std.specs.Fmt.{signed_decimal}
use Rattle.ply_mesh.specs.Text.{line_text}
use Rattle.ply_mesh.proofs.RowTexts.{row_more, row_end}
use Rattle.ply_mesh.proofs.writing.put_row.Goals as goal

pub loop-j-preserved : goal.loop-j-preserved
loop-j-preserved c =
    let front = take c.loop-j.end c.loop-j.buf in
    let written : take c.put_signed-end.result c.put_signed-end.new.buf ≡ front ++ (signed_decimal (get_or c.args.row.now c.loop-j.j (pos 0)) ++ 32 ∷ []) = search rules in
    (row_more _ front _ c.args.row.now c.loop-j.j (pos 0) (omega arith) written c.loop-j.invariant.0, omega arith, omega arith, omega arith)

pub returns-clause-text : goal.returns-clause-text
returns-clause-text c =
    let row = c.args.row.now in
    let whole = take c.args.at c.args.buf.now ++ line_text (map signed_decimal row) in
    let front = take c.loop-j.end c.loop-j.buf in
    let last = length row - 1 in
    let same : c.loop-j.j ≡ last = omega arith in
    let written : take c.put_signed.result c.put_signed.new.buf ≡ front ++ (signed_decimal (get_or row last (pos 0)) ++ 10 ∷ []) = search rules in
    row_end whole front _ row last (pos 0) (omega arith) written (subst (λ n. front ++ line_text (map signed_decimal (drop n row)) ≡ whole) same c.loop-j.invariant.0)
