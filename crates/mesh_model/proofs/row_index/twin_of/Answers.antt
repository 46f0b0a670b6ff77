use Rattle.std.proofs.Common.{◌≡◌, ◌-◌, ◌<◌, [], get_or, sym, ◌∙◌, subst, arith, rules}
use Rattle.std.proofs.lemmas.Bool.{false≢true}
use Rattle.mesh_model.specs.CountedRows.{RowTable}
use Rattle.mesh_model.specs.RowIndex.{rows_at}
use Rattle.mesh_model.proofs.Hashes.{chosen-equal, chosen-back}
use Rattle.mesh_model.proofs.Indexes.{Walks, Walks-first, Walks-next, IsTwin-found, IsTwin-none}
use Rattle.mesh_model.proofs.row_index.twin_of.Goals as goal

pub loop-link-init : goal.loop-link-init
loop-link-init c = record {
  walks = Walks-first (rows_at c.args.rows.now.table.rows c.args.chosen.now) c.args.links.now c.args.i c.requires.chains;
  pairs = c.requires.allowed;
  most = search rules;
  same = search rules;
  passes = search rules;
}

pub returns-then-are_equal-clause-twin : goal.returns-then-are_equal-clause-twin
returns-then-are_equal-clause-twin c =
    let table = c.args.rows.now.table in
    let chosen = c.args.chosen.now in
    let link = c.loop-link.link in
    let i = c.args.i in
    let walks = c.loop-link.invariant.walks in
    let equal : get_or table.rows (get_or chosen (link - 1) 0) [] ≡ get_or table.rows (get_or chosen i 0) [] =
    subst (λ (t : RowTable). get_or t.rows (get_or chosen (link - 1) 0) [] ≡ get_or t.rows (get_or chosen i 0) []) c.loop-link.invariant.same
    (c.are_equal.ensures.equal.0 c.if-are_equal.true) in
    IsTwin-found (rows_at table.rows chosen) c.args.links.now i link walks (omega arith)
    (chosen-equal table.rows chosen (link - 1) i (omega (arith, walks.back, c.requires.below)) c.requires.below equal)

pub loop-link-preserved : goal.loop-link-preserved
loop-link-preserved c =
    let table = c.args.rows.now.table in
    let chosen = c.args.chosen.now in
    let link = c.loop-link.link in
    let i = c.args.i in
    let walks = c.loop-link.invariant.walks in
    let some : 0 < link = omega arith in
    record {
      walks = Walks-next (rows_at table.rows chosen) c.args.links.now i link walks some (λ equal.
          let same : get_or table.rows (get_or chosen (link - 1) 0) [] ≡ get_or table.rows (get_or chosen i 0) [] =
          chosen-back table.rows chosen (link - 1) i (omega (arith, walks.back, c.requires.below)) c.requires.below equal in
          false≢true (sym c.if-are_equal.false ∙ c.are_equal.ensures.equal.1
          (subst (λ (t : RowTable). get_or t.rows (get_or chosen (link - 1) 0) [] ≡ get_or t.rows (get_or chosen i 0) []) (sym c.loop-link.invariant.same) same)));
      pairs = search rules;
      most = search rules;
      same = search rules;
      passes = search rules;
    }

pub returns-clause-twin : goal.returns-clause-twin
returns-clause-twin c =
    let rows = rows_at c.args.rows.now.table.rows c.args.chosen.now in
    IsTwin-none rows c.args.links.now c.args.i (subst (Walks rows c.args.links.now c.args.i) c.loop-link-test.false c.loop-link.invariant.walks)
