use Rattle.drc_app.proofs.Generated.{generated-taken}
use Rattle.drc_app.proofs.summaries.summary_due.Goals as goal

pub summary_of-requires : goal.summary_of-requires
summary_of-requires c by = rw c.in_ok-made.ensures (generated-taken c.args.asked.kind c.args.asked.size c.args.asked.seed c.requires by)
