use Rattle.std.proofs.Common.{ℕ, ◌+◌, ◌-◌, ◌∙◌, arith}
use Rattle.std.proofs.lemmas.Nat.{and_mask}
use Rattle.rans_core.proofs.Closing.{low_bytes-step}
use Rattle.rans_core.proofs.ends.low_bytes.Goals as goal

pub loop-preserved : goal.loop-preserved
loop-preserved c =
    let n : ℕ = c.loop.rest in
    let k : ℕ = c.loop.counter in (
      low_bytes-step c.loop.out.items c.push.new.self.items (c.args.size - (k + 1)) (c.args.size - k) n _
          (omega arith) (and_mask n 8) c.push.ensures.items ∙ c.loop.invariant.0,
      omega arith,
    )
