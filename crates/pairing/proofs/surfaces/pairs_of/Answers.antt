-- The pairs by numbers are the mesh's, and its surface is proper.
use Rattle.std.proofs.Common.{◌∙◌}
use Rattle.pairing.proofs.Starts.{pairing_is, surface_proper, pairs_fit, none_is_left}
use Rattle.pairing.proofs.surfaces.pairs_of.Goals as goal

pub returns-clause-pairs : goal.returns-clause-pairs
returns-clause-pairs c = c.in_ok-pairs.ensures.pairs ∙ rw c.face_count.ensures.value (pairing_is _ _ c.in_ok-sides.ensures.numbers)

pub returns-clause-proper : goal.returns-clause-proper
returns-clause-proper c =
    rw (c.in_ok-pairs.ensures.pairs, c.face_count.ensures.value) (surface_proper _ _ c.in_ok-sides.ensures.sides.triangles)

pub returns-clause-fits : goal.returns-clause-fits
returns-clause-fits c = pairs_fit c.args.m.now _ c.face_count.result _ c.in_ok-sides.ensures.sides.triangles c.in_ok-sides.ensures.numbers c.face_count.ensures.value c.in_ok-pairs.ensures.pairs

pub returns-clause-none_left : goal.returns-clause-none_left
returns-clause-none_left c =
    rw (← c.face_count.ensures.value) (none_is_left c.args.m.now _ c.face_count.result _ c.in_ok-sides.ensures.sides.triangles c.in_ok-sides.ensures.numbers c.face_count.ensures.value c.in_ok-pairs.ensures.pairs)
