use Rattle.std.proofs.Common.{◌∙◌, arith}
use Rattle.symbol_coding.proofs.Tables.{counts-few}
use Rattle.shortest_blocks.proofs.choosing.with_raw.Goals as goal

pub length_of_symbols-length-requires : goal.length_of_symbols-length-requires
length_of_symbols-length-requires c =
    counts-few c.args.values.now c.as_slice.result.now (c.as_slice.ensures.value ∙ c.in_ok-counts.ensures) (omega (arith, c.if-greatest.false, c.greatest_in-greatest.ensures))
