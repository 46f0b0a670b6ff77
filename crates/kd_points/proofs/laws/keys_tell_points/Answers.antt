use Rattle.kd_points.proofs.RowsBack.{row_back}
use Rattle.kd_points.proofs.laws.keys_tell_points.Goals as goal

pub returns : goal.returns
returns c = λ cloud i is inside. row_back cloud i is inside
