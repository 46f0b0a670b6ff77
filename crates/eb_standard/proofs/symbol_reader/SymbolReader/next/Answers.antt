-- By the definitions of the next symbol and of the place behind it.
use Rattle.eb_standard.proofs.Reading.{reads_back_as, is_in_bits, takes_some}
use Rattle.eb_standard.proofs.symbol_reader.SymbolReader.next.Goals as goal

pub returns-clause-back : goal.returns-clause-back
returns-clause-back c = reads_back_as _ _ _ c.next_found.ensures.symbol c.next_found.ensures.after

pub returns-clause-stands : goal.returns-clause-stands
returns-clause-stands c = is_in_bits _ _ c.next_found.ensures.symbol

pub returns-clause-fewer : goal.returns-clause-fewer
returns-clause-fewer c = takes_some _ _ _ c.next_found.ensures.symbol c.next_found.ensures.after
