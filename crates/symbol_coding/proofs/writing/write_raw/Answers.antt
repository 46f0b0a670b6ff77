use Rattle.symbol_coding.proofs.Tables.{counts-few, raw-table, used-positive}
use Rattle.symbol_coding.proofs.writing.write_raw.Goals as goal

pub length_of_symbols-length-requires : goal.length_of_symbols-length-requires
length_of_symbols-length-requires c = counts-few c.args.values.now c.args.counts.now c.requires.counts c.requires.small

pub of_counts-requires-clause-counts : goal.of_counts-requires-clause-counts
of_counts-requires-clause-counts c =
    raw-table c.args.values.now c.args.counts.now c.length_of_symbols-length.result c.precision-bits.result c.requires.counts c.requires.some c.requires.few c.requires.small
    c.length_of_symbols-length.ensures.length c.precision-bits.ensures.precision

pub write_coded-requires-clause-symbols : goal.write_coded-requires-clause-symbols
write_coded-requires-clause-symbols c = used-positive c.args.values.now c.args.counts.now c.in_ok-table.table c.requires.counts c.in_ok-table.ensures.used
