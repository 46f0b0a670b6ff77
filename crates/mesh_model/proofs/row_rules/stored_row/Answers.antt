use Rattle.std.proofs.Common.{◌≡◌, ◌+◌, ◌*◌, ◌-◌, ◌/◌, ◌<◌, [], length, take, drop, sym, ap, ◌∙◌, subst, arith}
use Rattle.std.proofs.Math.Nat.{mul-div_cancel}
use Rattle.mesh_model.proofs.Rows.{get_or-rows_of}
use Rattle.mesh_model.proofs.row_rules.stored_row.Goals as goal

pub returns-clause-row : goal.returns-clause-row
returns-clause-row c =
    let cells = c.args.cells.now in
    let width = c.args.width in
    let i = c.args.i in
    let many : length cells / width ≡ c.args.count = ap (λ n. n / width) c.requires.whole ∙ mul-div_cancel c.args.count c.requires.wide in
    let long : i * width + width - i * width ≡ width = omega arith in
    ap (λ n. take n (drop (i * width) cells)) long
    ∙ sym (get_or-rows_of width cells i [] (subst (λ n. i < n) (sym many) c.requires.below))
