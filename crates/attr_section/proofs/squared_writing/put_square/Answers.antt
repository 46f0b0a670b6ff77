use Rattle.attr_section.proofs.SpelledSquares.{Spells-square, bits_within}
use Rattle.attr_section.proofs.squared_writing.put_square.Goals as goal

pub returns-clause-again : goal.returns-clause-again
returns-clause-again c = let b = bits_within c.args.bits c.requires in Spells-square c.args.bits b.0 b.1
