use Rattle.attr_section.proofs.SpelledIntegers.{Spells-integers}
use Rattle.attr_section.proofs.predicted_writing.put_integers.Goals as goal

pub returns-clause-again : goal.returns-clause-again
returns-clause-again c = Spells-integers c.args.plain c.args.comps c.args.values.now (rw c.in_ok-symbols.ensures at c.in_ok-put_symbols.ensures.again)
