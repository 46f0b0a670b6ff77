use Rattle.std.proofs.Common.{◌≡◌, ◌+◌, ◌-◌, ◌*◌, ◌≤◌, length, sum, vec_len}
use Rattle.drc_bits.specs.Bits.{bits_left, bits_of}
use Rattle.symbol_coding.specs.Block.{values_in_groups, widths, with_values}
use Rattle.symbol_coding.specs.Symbols.{next_symbols}
use Rattle.symbol_coding.proofs.reading.read_groups.Given as goal

abbrev pub invariant-loop-g : goal.invariant-loop-g
invariant-loop-g l = record {
  values : values_in_groups l.long.at l.short.at (widths l.comps (next_symbols l.groups l.fn.decoder.bits l.table l.fn.decoder.state)) (bits_of l.bytes)
      ≡ with_values l.values.items (values_in_groups l.long.at l.short.at (widths l.comps (next_symbols (l.groups - l.g) l.decoder.bits l.table l.decoder.state)) (bits_left l.reader));
  bits : l.decoder.bits ≡ l.fn.decoder.bits;
  taken : l.reader.taken + sum (widths l.comps (next_symbols (l.groups - l.g) l.decoder.bits l.table l.decoder.state)) ≡ sum (widths l.comps (next_symbols l.groups l.fn.decoder.bits l.table l.fn.decoder.state));
  bytes : l.reader.bytes ≡ l.bytes;
  within : l.reader.taken ≤ 8 * length l.bytes;
  len : vec_len l.values ≡ l.g * l.comps;
}
