use Rattle.std.proofs.Common.{rules}
use Rattle.std.proofs.lemmas.Result.{err_from_is_err_and}
use Rattle.std.proofs.lemmas.List.Elements.{All-push}
use Rattle.drc_bits.proofs.Chains.{chain_at-next, chain_at-fault, chain_at-end}
use Rattle.eb_section.specs.Events.{numbers_at, AreNumbersOf}
use Rattle.eb_section.proofs.events.read_each_numbers.Goals as goal

pub returns-in_err-before-clause-numbers : goal.returns-in_err-before-clause-numbers
returns-in_err-before-clause-numbers c =
    let p = err_from_is_err_and c.from_residual.result c.from_residual.ensures.1 in
    rw (p.1, p.2) (chain_at-fault (numbers_at c.args.symbols) c.args.count c.loop-k._k c.loop-k.before _ _ _ _ c.loop-k.invariant.told c.loop-k-test.true c.in_err-before.ensures.numbers)

pub loop-k-preserved : goal.loop-k-preserved
loop-k-preserved c = record {
  told = rw c.in_ok-push.ensures.items (chain_at-next (numbers_at c.args.symbols) c.args.count c.loop-k._k c.loop-k.before c.in_ok-before.before _ _ _ _ c.loop-k.invariant.told c.loop-k-test.true c.in_ok-before.ensures.numbers);
  within = rw c.in_ok-push.ensures.items (All-push (AreNumbersOf c.args.symbols) c.loop-k.numbers.items c.in_ok-before.before c.loop-k.invariant.within c.in_ok-before.ensures.within);
  len = search rules;
}

pub returns-clause-numbers : goal.returns-clause-numbers
returns-clause-numbers c = chain_at-end (numbers_at c.args.symbols) c.args.count c.loop-k._k c.loop-k.before _ _ _ c.loop-k.invariant.told c.loop-k-test.false
