use Rattle.std.proofs.Common.{◌≡◌, ◌-◌, length, get_or, ap, arith}
use Rattle.rans_core.specs.Coder.{Coder}
use Rattle.symbol_coding.proofs.Slots.{within}
use Rattle.symbol_coding.proofs.Tables.{positive-below}
use Rattle.symbol_coding.proofs.writing.code.Goals as goal

pub push-requires-clause-within : goal.push-requires-clause-within
push-requires-clause-within c =
    let at = length c.args.symbols.now - 1 - c.loop-k.k in
    let b : c.loop-k.encoder.bits ≡ c.args.bits = ap (λ (e : Coder). e.bits) c.loop-k.invariant in
    let p = c.requires.symbols at (omega (arith, c.loop-k-test.true)) in
    let w = within c.args.table.now (get_or c.args.symbols.now at 0) (positive-below c.args.table.now (get_or c.args.symbols.now at 0) p) in
    rw b (omega (arith, w, c.cum.ensures, c.prob.ensures, c.requires.whole))
