use Rattle.std.proofs.Common.{◌<◌, ℕ, length, sym, arith}
use Rattle.std.proofs.lemmas.List.{take_all}
use Rattle.std.proofs.lemmas.List.Elements.{All-more, All-same}
use Rattle.worked_surfaces.proofs.orders.all_below.Goals as goal

pub loop-i-preserved : goal.loop-i-preserved
loop-i-preserved c =
    let has : c.loop-i.i < length c.args.numbers.now = omega arith in
    All-more (λ (n : ℕ). n < c.args.end) c.args.numbers.now c.loop-i.i 0 has c.loop-i.invariant c.if-number-end.false

pub returns : goal.returns
returns c = λ yes. All-same (λ (n : ℕ). n < c.args.end) c.args.numbers.now _ (sym (take_all c.loop-i.i c.args.numbers.now (omega arith))) c.loop-i.invariant
