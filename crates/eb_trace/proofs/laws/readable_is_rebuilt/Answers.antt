use Rattle.eb_trace.proofs.Whole.{each_step_reads, passes_fronts, closes_last, reads_word, rebuilds_word, refuses_fewer}
use Rattle.eb_trace.proofs.Counted.{counts_word}
use Rattle.eb_trace.proofs.laws.readable_is_rebuilt.Goals as goal

pub returns : goal.returns
returns c = record { steps = each_step_reads; fronts = passes_fronts; closes = closes_last; run = reads_word; rebuilt = rebuilds_word; refused = refuses_fewer; counted = counts_word }
