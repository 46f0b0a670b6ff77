use Rattle.attr_section.proofs.SpelledIntegers.{Spells-plain_symbols}
use Rattle.attr_section.proofs.integer_writing.put_plain_symbols.Goals as goal

pub returns-clause-again : goal.returns-clause-again
returns-clause-again c = Spells-plain_symbols c.args.comps c.args.symbols.items (rw c.deref.ensures.value at c.in_ok-put_plain.ensures.fit)
