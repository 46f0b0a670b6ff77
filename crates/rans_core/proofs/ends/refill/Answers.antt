use Rattle.std.proofs.Common.{◌∙◌, sym}
use Rattle.rans_core.specs.Coder.{unread}
use Rattle.rans_core.proofs.Pulling.{refilled-full}
use Rattle.rans_core.proofs.ends.refill.Goals as goal

pub returns-after-loop-full-clause-refills : goal.returns-after-loop-full-clause-refills
returns-after-loop-full-clause-refills c =
    sym c.loop-full.invariant.0 ∙ refilled-full c.args.base c.loop-full.full (unread c.args.bytes.now c.loop-full.place) c.loop-full-test.false
