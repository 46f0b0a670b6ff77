-- One integer more, and no more where the rows are told apart.
use Rattle.std.proofs.Common.{◌≡◌, ℕ, subst, arith, rules}
use Rattle.mesh_model.specs.CountedRows.{RowTable}
use Rattle.mesh_model.specs.RowNumbers.{AreFirstRows, IsColumn}
use Rattle.mesh_model.proofs.RowNumbers.{first_rows_more, apart_first}
use Rattle.mesh_model.proofs.row_numbers.first_rows.Goals as goal

pub loop-j-preserved : goal.loop-j-preserved
loop-j-preserved c =
    let t = c.loop-j-test.true in
    let n = c.requires.narrow in
    let e = c.loop-j.auto.j-end in
    let table = c.args.rows.now.table in
    let j = c.loop-j.j in
    let bits = c.in_ok-bits.bits.items in
    record {
      numbers = first_rows_more table.rows j table.count c.loop-j.numbers.items bits c.in_ok-numbers-2.numbers.items (record {
        wide = λ p h. (let r = c.count-count.ensures.each p h in omega arith);
        before = c.loop-j.invariant.numbers;
        column = subst (λ (t : RowTable). IsColumn t.rows j bits t.count) c.loop-j.invariant.same c.in_ok-bits.ensures.column;
        numbered = rw (c.as_slice-in-loop-j.ensures.value, c.as_slice-in-loop-j-2.ensures.value) at c.in_ok-numbers-2.ensures;
      });
      same = search rules;
      pairs = search rules;
      passes = search rules;
    }

pub returns-then-are_apart-clause-numbers : goal.returns-then-are_apart-clause-numbers
returns-then-are_apart-clause-numbers c =
    let t = c.loop-j-test.true in
    let e = c.loop-j.auto.j-end in
    apart_first _ c.loop-j.j _ _ _ (omega arith) c.loop-j.invariant.numbers (rw c.as_slice.ensures.value at (c.are_apart.ensures.0 c.if-are_apart.true))

pub returns-clause-numbers : goal.returns-clause-numbers
returns-clause-numbers c =
    let t = c.loop-j-test.false in
    let e = c.loop-j.auto.j-end in
    let all : c.loop-j.j ≡ c.args.columns = omega arith in
    let table = c.args.rows.now.table in
    subst (λ (n : ℕ). AreFirstRows table.rows n table.count c.loop-j.numbers.items) all c.loop-j.invariant.numbers
