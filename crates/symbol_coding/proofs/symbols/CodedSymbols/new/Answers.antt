use Rattle.symbol_coding.proofs.Slots.{next_count}
use Rattle.symbol_coding.proofs.symbols.CodedSymbols.new.Goals as goal

pub returns-clause-len : goal.returns-clause-len
returns-clause-len c = next_count _ _ _ _
