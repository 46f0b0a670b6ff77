use Rattle.attr_section.proofs.SpelledIntegers.{Spells-compressed_symbols}
use Rattle.attr_section.proofs.integer_writing.put_compressed_symbols.Goals as goal

pub returns-clause-again : goal.returns-clause-again
returns-clause-again c = Spells-compressed_symbols c.args.comps c.args.symbols.items c.in_ok-block.ensures.again
