use Rattle.std.proofs.Common.{◌≡◌, ◌≢◌, ◌+◌, ◌-◌, ◌<◌, [], get_or, length, sym, subst, inl, inr, arith, rules}
use Rattle.std.proofs.lemmas.Bool.{cases_eq, false≢true}
use Rattle.mesh_model.specs.CountedRows.{RowTable}
use Rattle.mesh_model.specs.RowIndex.{AreChains, IsTwin, rows_at}
use Rattle.mesh_model.proofs.Indexes.{AreChains-before, twins-more}
use Rattle.mesh_model.proofs.row_index.keep_twins.Goals as goal

pub twin_of-requires-clause-chains : goal.twin_of-requires-clause-chains
twin_of-requires-clause-chains c =
    let at : c.loop-i.i ≡ c.loop-i.i - 1 + 1 = omega arith in
    subst (λ (t : RowTable). AreChains (rows_at t.rows c.args.chosen.now) (c.loop-i.i - 1 + 1) c.loop-i.links) (sym c.loop-i.invariant.same)
    (subst (λ n. AreChains (rows_at c.args.rows.now.table.rows c.args.chosen.now) n c.loop-i.links) at c.loop-i.invariant.chains)

pub loop-i-preserved-then-twin-ne0 : goal.loop-i-preserved-then-twin-ne0
loop-i-preserved-then-twin-ne0 c =
    let chosen = c.args.chosen.now in
    let rows = rows_at c.args.rows.now.table.rows chosen in
    let links = c.loop-i.links in
    let i = c.loop-i.i - 1 in
    let twin = c.in_ok-twin.twin in
    let so_far = c.loop-i.invariant in
    let inside : i < length links = omega (arith, c.requires.long) in
    let is : IsTwin rows i twin = subst (λ (t : RowTable). IsTwin (rows_at t.rows chosen) i twin) so_far.same c.in_ok-twin.ensures.twin in
    record {
      chains = AreChains-before rows c.loop-i.i i twin links so_far.chains (omega arith);
      twins = twins-more rows (length chosen) i twin links inside is (λ p behind below. so_far.twins p (omega arith) below);
      none = λ e. absurd (false≢true (sym e));
      pairs = search rules;
      most = search rules;
      same = search rules;
      passes = search rules;
    }

pub loop-i-preserved : goal.loop-i-preserved
loop-i-preserved c =
    let chosen = c.args.chosen.now in
    let rows = rows_at c.args.rows.now.table.rows chosen in
    let links = c.loop-i.links in
    let i = c.loop-i.i - 1 in
    let twin = c.in_ok-twin.twin in
    let so_far = c.loop-i.invariant in
    let inside : i < length links = omega (arith, c.requires.long) in
    let is : IsTwin rows i twin = subst (λ (t : RowTable). IsTwin (rows_at t.rows chosen) i twin) so_far.same c.in_ok-twin.ensures.twin in
    record {
      chains = AreChains-before rows c.loop-i.i i twin links so_far.chains (omega arith);
      twins = twins-more rows (length chosen) i twin links inside is (λ p behind below. so_far.twins p (omega arith) below);
      none = λ e p q behind below before. elim (cases_eq p i) [
        | inl same ↦ subst (λ k. get_or rows q [] ≢ get_or rows k []) (sym same) (is.none c.if-twin-ne0.false q (omega arith))
        | inr other ↦ so_far.none e p q (omega arith) below before
      ];
      pairs = search rules;
      most = search rules;
      same = search rules;
      passes = search rules;
    }
