use Rattle.mesh_model.proofs.SameLaws.{same-refl, same-sym, same-trans}
use Rattle.mesh_model.proofs.laws.same_is_an_equivalence.Goals as goal

pub returns : goal.returns
returns c = record { reflexive = same-refl; symmetric = same-sym; transitive = same-trans }
