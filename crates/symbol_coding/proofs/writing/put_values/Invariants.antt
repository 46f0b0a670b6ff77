use Rattle.std.proofs.Common.{◌≡◌, ◌*◌, ◌++◌, drop}
use Rattle.symbol_coding.specs.Block.{HasWidths, value_bits, widths}
use Rattle.symbol_coding.proofs.writing.put_values.Given as goal

abbrev pub invariant-loop-g : goal.invariant-loop-g
invariant-loop-g l = record {
  bits : l.writer ++ value_bits (widths l.comps (drop l.g l.lengths)) (drop (l.g * l.comps) l.values) ≡ value_bits (widths l.comps l.lengths) l.values;
  widths : HasWidths (widths l.comps (drop l.g l.lengths)) (drop (l.g * l.comps) l.values);
}
