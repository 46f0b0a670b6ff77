use Rattle.laws_attr.proofs.Parts.{flags_read, integers_read, ranges_read}
use Rattle.laws_attr.proofs.laws.parts_are_read.Goals as goal

pub returns-clause-flags : goal.returns-clause-flags
returns-clause-flags c = flags_read

pub returns-clause-integers : goal.returns-clause-integers
returns-clause-integers c = integers_read

pub returns-clause-ranges : goal.returns-clause-ranges
returns-clause-ranges c = ranges_read
