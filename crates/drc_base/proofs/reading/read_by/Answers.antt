use Rattle.std.proofs.Common.{◌≡◌, ◌++◌, take, length, length-append, sym, arith}
use Rattle.std.proofs.lemmas.List.{length-take}
use Rattle.drc_base.proofs.Taking.{Gave-take}
use Rattle.drc_base.proofs.reading.read_by.Goals as goal

-- the byte past the most is the last one that was taken
pub returns-then-n-most-clause-gave : goal.returns-then-n-most-clause-gave
returns-then-n-most-clause-gave g c =
    let piece_len : length (take c.in-Ok.n c.take.new.buf) ≡ c.in-Ok.n = sym c.in-Ok.ensures.bound.1 in (
      c.loop-n.bytes.items ++ take c.in-Ok.n c.take.new.buf,
      Gave-take _ _ _ _ _ _ _ _ _ c.loop-n.invariant.0 c.in-Ok.ensures.bytes.0 piece_len c.in-Ok.ensures.given,
      rw length-append (rw piece_len (omega (arith, c.in-Ok.ensures.bound.0, c.take.auto.buf, c.if-n-most.true, length-take c.min-room.result c.loop-n.chunk))),
    )

pub returns-in_default-clause-gave : goal.returns-in_default-clause-gave
returns-in_default-clause-gave g c =
    let piece_len : length (take c.in-Ok.n c.take.new.buf) ≡ c.in-Ok.n = sym c.in-Ok.ensures.bound.1 in (
      c.loop-n.bytes.items ++ take c.in-Ok.n c.take.new.buf,
      Gave-take _ _ _ _ _ _ _ _ _ c.loop-n.invariant.0 c.in-Ok.ensures.bytes.0 piece_len c.in-Ok.ensures.given,
      rw length-append (rw piece_len (omega arith)),
    )
