use Rattle.std.proofs.Common.{arith}
use Rattle.seq_section.proofs.Varints.{read-one, read-two, read-three, none-of-three}
use Rattle.seq_section.proofs.quick.short_varint.Goals as goal

pub returns-then-first-lt128-clause-value : goal.returns-then-first-lt128-clause-value
returns-then-first-lt128-clause-value c = read-one c.args.bytes.now (omega (arith, c.requires)) c.if-first-lt128.true

pub returns-then-second-lt128-clause-value : goal.returns-then-second-lt128-clause-value
returns-then-second-lt128-clause-value c =
    read-two c.args.bytes.now (omega (arith, c.requires)) c.if-first-lt128.false (c.type_inv.bytes 0).fits c.if-second-lt128.true

pub returns-then-third-lt128-clause-value : goal.returns-then-third-lt128-clause-value
returns-then-third-lt128-clause-value c =
    read-three c.args.bytes.now (omega (arith, c.requires)) c.if-first-lt128.false (c.type_inv.bytes 0).fits
    c.if-second-lt128.false (c.type_inv.bytes 1).fits c.if-third-lt128.true

pub returns-clause-seen : goal.returns-clause-seen
returns-clause-seen c = λ v k is few.
    absurd (none-of-three c.args.bytes.now v k (omega (arith, c.requires)) c.if-first-lt128.false c.if-second-lt128.false c.if-third-lt128.false is few)
