use Rattle.drc_recode.proofs.FirstOrders.{inverted-undoes, stands-again, first-geometry, first-same}
use Rattle.drc_recode.proofs.laws.the_first_order_comes_back.Goals as goal

pub returns-clause-undone : goal.returns-clause-undone
returns-clause-undone c = inverted-undoes

pub returns-clause-stands : goal.returns-clause-stands
returns-clause-stands c = stands-again

pub returns-clause-geometry : goal.returns-clause-geometry
returns-clause-geometry c = first-geometry c.renumbered_is_a_mesh.ensures.mesh

pub returns-clause-same : goal.returns-clause-same
returns-clause-same c =
    first-same c.same_is_an_equivalence.ensures.symmetric c.same_is_an_equivalence.ensures.transitive c.renumbered_is_a_mesh.ensures.same
