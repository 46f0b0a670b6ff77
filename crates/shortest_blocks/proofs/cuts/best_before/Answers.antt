use Rattle.std.proofs.Common.{◌≡◌, ◌<◌, length, map, arith, subst}
use Rattle.std.specs.List.{IsFirstBest}
use Rattle.shortest_blocks.specs.Cuts.{is_cheaper, with_run}
use Rattle.shortest_blocks.proofs.BestCuts.{best-is}
use Rattle.shortest_blocks.proofs.cuts.best_before.Goals as goal

pub returns-clause-best : goal.returns-clause-best
returns-clause-best c =
    let end : c.loop-i.i ≡ length c.args.cuts.now = omega (arith, c.requires.some) in
    let within : c.loop-i.best < length c.args.cuts.now = omega (arith, c.loop-i.invariant.0, end) in
    best-is c.args.run c.args.cuts.now c.loop-i.best c.requires.some within
    (subst (λ k. IsFirstBest is_cheaper (map (with_run c.args.run) c.args.cuts.now) k c.loop-i.best) end c.loop-i.invariant)
