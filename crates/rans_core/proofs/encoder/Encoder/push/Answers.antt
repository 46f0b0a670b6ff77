use Rattle.std.proofs.Common.{◌^◌, ◌≤◌, arith, pow_mono, reverse}
use Rattle.rans_core.proofs.Draining.{pushed-is}
use Rattle.rans_core.proofs.encoder.Encoder.push.Goals as goal

pub drain-rest-requires-clause-small : goal.drain-rest-requires-clause-small
drain-rest-requires-clause-small c =
    let h : 2 ^ c.self.inside.bits ≤ 2 ^ 20 = pow_mono {i = c.self.inside.bits} {j = 20} (omega arith) in
    let w = rw (← c.self.view_is) at c.requires.within in omega (arith, h, w)

pub returns-clause-ok : goal.returns-clause-ok
returns-clause-ok c =
    rw (← c.self.view_is)
    (pushed-is c.self.inside.bits c.self.inside.number c.drain-rest.result c.number_with-self-inside.result c.args.cum c.args.prob
    (reverse c.self.inside.bytes.items) (reverse c.drain-rest.new.bytes.items)
    (rw c.in_ok-reserve.ensures.items at c.drain-rest.ensures.drained) c.number_with-self-inside.ensures.pushed)
