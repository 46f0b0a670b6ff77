use Rattle.std.proofs.Common.{◌≡◌, ◌≤◌, length, arith}
use Rattle.ply_text.proofs.Names.{too_many}
use Rattle.ply_text.proofs.named_heads.named_heads.Goals as goal

pub returns-then-len-clause-heads : goal.returns-then-len-clause-heads
returns-then-len-clause-heads c =
    let none : c.loop-i.skip ≡ 0 = omega arith in
    let many : 16 ≤ length c.loop-i.heads.items = omega (arith, c.loop-i.heads.ok.0) in
    too_many c.args.properties.now c.loop-i.heads.items c.loop-i.i c.loop-i-test.true (rw none at c.loop-i.invariant.0) many
