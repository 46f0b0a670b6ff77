use Rattle.std.proofs.Common.{◌∙◌}
use Rattle.symbol_coding.proofs.Tables.{used-positive}
use Rattle.shortest_blocks.proofs.Again.{tagged-of-table}
use Rattle.shortest_blocks.proofs.codings.write_tagged.Goals as goal

pub of_counts-requires-clause-counts : goal.of_counts-requires-clause-counts
of_counts-requires-clause-counts c =
    tagged-of-table c.args.lengths.now c.as_slice.result.now c.precision-bits.result (c.as_slice.ensures.value ∙ c.in_ok-counts.ensures) c.precision-bits.ensures.precision c.requires.some c.requires.few
    c.requires.most

pub write_coded-requires-clause-symbols : goal.write_coded-requires-clause-symbols
write_coded-requires-clause-symbols c = used-positive c.args.lengths.now c.as_slice.result.now c.in_ok-table.table (c.as_slice.ensures.value ∙ c.in_ok-counts.ensures) c.in_ok-table.ensures.used
