-- The other place goes to the first side that is free and has another third position.
use Rattle.pairing.proofs.Choices.{other_found, other_placed, moving_other}
use Rattle.pairing.proofs.choosing.move_other.Goals as goal

pub returns-clause-placed : goal.returns-clause-placed
returns-clause-placed c =
    other_placed (moving_other c.requires.known c.requires.placed c.requires.class c.requires.here c.requires.least c.as_slice.ensures.value c.index-from.ensures c.index-skip.ensures c.first_left-other.ensures)

pub returns-clause-other : goal.returns-clause-other
returns-clause-other c =
    other_found (moving_other c.requires.known c.requires.placed c.requires.class c.requires.here c.requires.least c.as_slice.ensures.value c.index-from.ensures c.index-skip.ensures c.first_left-other.ensures)
