use Rattle.std.proofs.Common.{ℕ, ◌+◌, ◌-◌, ◌*◌, ◌∙◌, sym, reverse, arith}
use Rattle.std.proofs.lemmas.Nat.{and_mask}
use Rattle.rans_core.proofs.Draining.{drained-stop, drained-none, drained-step, drained-fits}
use Rattle.rans_core.proofs.encoder.drain.Goals as goal

pub loop-preserved : goal.loop-preserved
loop-preserved c =
    let k : ℕ = c.loop.counter in (
      drained-step (4 - (k + 1)) (4 - k) (256 * (4 * c.args.prob)) c.loop.rest _ c.loop.bytes.items c.push_reserved.new.self.items
          c.if-rest-limit.false (omega arith) (and_mask c.loop.rest 8) c.push_reserved.ensures.items ∙ c.loop.invariant.0,
      omega arith,
    )

pub returns-after-loop-clause-drained : goal.returns-after-loop-clause-drained
returns-after-loop-clause-drained c =
    sym c.loop.invariant.0 ∙ drained-none (4 - c.loop.counter) (256 * (4 * c.args.prob)) c.loop.rest (reverse c.loop.bytes.items) (omega arith)

pub returns-after-loop-clause-above : goal.returns-after-loop-clause-above
returns-after-loop-clause-above c =
    (drained-fits (4 * c.args.prob) c.args.number c.loop.rest (reverse c.args.bytes.now.items) (reverse c.loop.bytes.items) (omega arith) c.requires.number (omega arith) (returns-after-loop-clause-drained c)).0

pub returns-after-loop-clause-below : goal.returns-after-loop-clause-below
returns-after-loop-clause-below c =
    (drained-fits (4 * c.args.prob) c.args.number c.loop.rest (reverse c.args.bytes.now.items) (reverse c.loop.bytes.items) (omega arith) c.requires.number (omega arith) (returns-after-loop-clause-drained c)).1

pub returns-then-rest-limit-clause-drained : goal.returns-then-rest-limit-clause-drained
returns-then-rest-limit-clause-drained c =
    sym c.loop.invariant.0 ∙ drained-stop (4 - c.loop.counter) (256 * (4 * c.args.prob)) c.loop.rest (reverse c.loop.bytes.items) c.if-rest-limit.true

pub returns-then-rest-limit-clause-above : goal.returns-then-rest-limit-clause-above
returns-then-rest-limit-clause-above c =
    (drained-fits (4 * c.args.prob) c.args.number c.loop.rest (reverse c.args.bytes.now.items) (reverse c.loop.bytes.items) (omega arith) c.requires.number (omega arith) (returns-then-rest-limit-clause-drained c)).0
