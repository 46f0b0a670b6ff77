-- The table has the pairs of the list.
use Rattle.pairing.proofs.surfaces.surface_of.Goals as goal

pub returns-clause-fits : goal.returns-clause-fits
returns-clause-fits c = rw c.with_pairs.ensures.entries c.in_ok-pairs.ensures.fits

pub returns-clause-none_left : goal.returns-clause-none_left
returns-clause-none_left c = rw (c.with_pairs.ensures.faces, c.face_count.ensures.value, c.with_pairs.ensures.entries) c.in_ok-pairs.ensures.none_left
