use Rattle.attr_section.proofs.SpelledIntegers.{Spells-range}
use Rattle.attr_section.proofs.ranges.put_range.Goals as goal

pub returns-clause-again : goal.returns-clause-again
returns-clause-again c = Spells-range (record { low = c.args.low; high = c.args.high }) c.requires c.ranges.low c.ranges.high
