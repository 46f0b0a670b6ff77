use Rattle.mesh_model.proofs.Pigeonholes.{few-distinct}
use Rattle.mesh_model.proofs.laws.distinct_rows_are_few.Goals as goal

pub returns : goal.returns
returns c = few-distinct
