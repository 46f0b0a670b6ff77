use Rattle.std.proofs.Common.{ℕ, ◌+◌, ◌*◌, ◌-◌, arith, ◌∙◌, sym, lt_of_lt_of_le, pow_mono}
use Rattle.rans_core.specs.Coder.{unread}
use Rattle.rans_core.proofs.Unread.{joined-short, length-unread, joined-step, byte_fits}
use Rattle.rans_core.proofs.ends.join_bytes.Goals as goal

pub returns-then-left-more-clause-joins : goal.returns-then-left-more-clause-joins
returns-then-left-more-clause-joins c =
    joined-short c.args.more c.args.high (unread c.args.bytes.now c.args.left)
    (let e = length-unread c.args.bytes.now c.args.left c.requires.left in omega arith)

pub loop-k-preserved : goal.loop-k-preserved
loop-k-preserved c =
    let left : ℕ = c.args.left in
    let more : ℕ = c.args.more in
    let k : ℕ = c.loop-k.k in (
      sym (joined-step c.args.bytes.now (left - (k + 1)) (left - 1 - k) (left - k) (more - (k + 1)) (more - k) c.loop-k.number c.from.result
          (omega arith) (omega arith) (omega arith) (omega arith) c.from.ensures) ∙ c.loop-k.invariant.0,
      byte_fits c.loop-k.number (6 + 8 * k) (6 + 8 * (k + 1)) c.from.result c.loop-k.invariant.1 (omega (arith, c.type_inv.bytes (left - 1 - k), c.from.ensures)) (omega arith),
    )

pub returns-clause-bounds : goal.returns-clause-bounds
returns-clause-bounds c =
    let k : ℕ = c.loop-k.k in
    (lt_of_lt_of_le c.loop-k.invariant.1 (pow_mono {i = 6 + 8 * k} {j = 30} (omega arith)), omega arith)
