use Rattle.std.proofs.Common.{◌^◌, ◌<◌, ◌≤◌, arith, subst}
use Rattle.symbol_tables.specs.Normal.{greatest_count}
use Rattle.symbol_coding.specs.Block.{raw_cost, tagged_cost}
use Rattle.symbol_coding.proofs.Tables.{is-raw, lengths-few, lengths-most, not-raw-costly, not-raw-large}
use Rattle.symbol_coding.proofs.writing.raw_counts.Goals as goal

pub returns-then-greatest : goal.returns-then-greatest
returns-then-greatest c = not-raw-large c.args.values.now c.args.comps (omega (arith, c.if-greatest.true, c.greatest_in-greatest.ensures))

pub cost_of_groups-requires-clause-most : goal.cost_of_groups-requires-clause-most
cost_of_groups-requires-clause-most c = lengths-most c.args.values.now c.args.lengths.now c.args.comps c.requires.lengths (λ k. let h = c.type_inv.values k in omega (arith, h))

pub cost_of_groups-requires-clause-few : goal.cost_of_groups-requires-clause-few
cost_of_groups-requires-clause-few c = lengths-few c.args.values.now c.args.lengths.now c.args.comps c.requires.lengths c.requires.few

pub returns-then-cost_of_symbols-cost_of_groups : goal.returns-then-cost_of_symbols-cost_of_groups
returns-then-cost_of_symbols-cost_of_groups c =
    let costly : tagged_cost c.args.values.now c.args.comps < raw_cost c.args.values.now =
    subst (λ n. n < raw_cost c.args.values.now) c.cost_of_groups.ensures (subst (λ n. c.cost_of_groups.result < n) c.cost_of_symbols.ensures c.if-cost_of_symbols-cost_of_groups.true) in
    not-raw-costly c.args.values.now c.args.comps costly

pub returns : goal.returns
returns c =
    let small : greatest_count c.args.values.now < 2 ^ 18 = subst (λ n. n < 2 ^ 18) c.greatest_in-greatest.ensures c.if-greatest.false in
    let cheap : raw_cost c.args.values.now ≤ tagged_cost c.args.values.now c.args.comps =
    subst (λ n. raw_cost c.args.values.now ≤ n) c.cost_of_groups.ensures (subst (λ n. n ≤ c.cost_of_groups.result) c.cost_of_symbols.ensures c.if-cost_of_symbols-cost_of_groups.false) in
    (is-raw c.args.values.now c.args.comps small cheap, small, c.in_ok-counts.ensures)
