use Rattle.rans_core.proofs.Shifts.{pushed_fits}
use Rattle.rans_core.proofs.slots.number_with.Goals as goal

pub returns-clause-above : goal.returns-clause-above
returns-clause-above c =
    rw c.slots_of-slots.ensures.slots (pushed_fits c.args.rest c.args.bits c.args.cum c.args.prob c.requires.some c.requires.within c.requires.above c.requires.below).1

pub returns-clause-below : goal.returns-clause-below
returns-clause-below c =
    rw c.slots_of-slots.ensures.slots (pushed_fits c.args.rest c.args.bits c.args.cum c.args.prob c.requires.some c.requires.within c.requires.above c.requires.below).2
