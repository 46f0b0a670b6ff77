use Rattle.attr_section.proofs.SpelledFlags.{Spells-flags}
use Rattle.attr_section.proofs.flag_writing.put_flags.Goals as goal

pub returns-clause-again : goal.returns-clause-again
returns-clause-again c = Spells-flags c.args.flags.now c.requires c.in_ok-put_flag_bits.ensures.again
