use Rattle.std.proofs.Common.{ℕ, ◌+◌, ◌-◌, ◌∙◌, arith}
use Rattle.std.proofs.lemmas.Nat.{and_mask}
use Rattle.drc_bits.proofs.Packing.{low_bytes-step}
use Rattle.drc_bits.proofs.bit_writer.put_bytes.Goals as goal

pub loop-preserved : goal.loop-preserved
loop-preserved c =
    let k : ℕ = c.loop.counter in (
      low_bytes-step c.loop.bytes.items c.push_reserved.new.self.items (c.args.n - (k + 1)) (c.args.n - k) c.loop.rest _
          (omega arith) (and_mask c.loop.rest 8) c.push_reserved.ensures.items ∙ c.loop.invariant.0,
      omega arith,
      omega arith,
    )
