use Rattle.std.proofs.Common.{◌≡◌, take, length}
use Rattle.attr_section.specs.Positions.{PositionsRead}
use Rattle.attr_section.specs.TablePositions.{read_in}
use Rattle.drc_container.specs.reading.OnSurface.{positions_from}
use Rattle.drc_container.specs.reading.AsRead.{tables_on}
use Rattle.drc_container.proofs.reading.positions.positions_among.Given as goal

abbrev pub invariant-loop-decoder : goal.invariant-loop-decoder
invariant-loop-decoder l = record {
  placed : read_in l.positions ≡ positions_from PositionsRead.NotYet l.heads (tables_on l.whole (take l.decoder-index l.decoders));
  counted : l.k ≡ length (tables_on l.whole (take l.decoder-index l.decoders));
}
