use Rattle.symbol_coding.proofs.Tables.{used-positive}
use Rattle.shortest_blocks.proofs.Again.{raw-of-table}
use Rattle.shortest_blocks.proofs.codings.write_raw.Goals as goal

pub of_counts-requires-clause-counts : goal.of_counts-requires-clause-counts
of_counts-requires-clause-counts c =
    raw-of-table c.args.values.now c.args.counts.now c.args.bit_length c.precision-bits.result c.requires.counts c.requires.some c.requires.few c.requires.small c.requires.enough
    c.precision-bits.ensures.precision

pub write_coded-requires-clause-symbols : goal.write_coded-requires-clause-symbols
write_coded-requires-clause-symbols c = used-positive c.args.values.now c.args.counts.now c.in_ok-table.table c.requires.counts c.in_ok-table.ensures.used
