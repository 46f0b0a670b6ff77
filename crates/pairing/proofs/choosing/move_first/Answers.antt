-- The first place goes to the first side that isn't taken.
use Rattle.pairing.proofs.Choices.{first_found, first_placed, moving_first}
use Rattle.pairing.proofs.choosing.move_first.Goals as goal

pub returns-clause-placed : goal.returns-clause-placed
returns-clause-placed c = first_placed (moving_first c.requires.known c.requires.placed c.requires.class c.as_slice.ensures.value c.index-from.ensures c.first_left-least.ensures)

pub returns-clause-first : goal.returns-clause-first
returns-clause-first c = first_found (moving_first c.requires.known c.requires.placed c.requires.class c.as_slice.ensures.value c.index-from.ensures c.first_left-least.ensures)
