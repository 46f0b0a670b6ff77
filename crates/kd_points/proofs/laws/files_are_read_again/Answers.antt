use Rattle.kd_points.proofs.ReadAgain.{file_again}
use Rattle.kd_points.proofs.laws.files_are_read_again.Goals as goal

pub returns : goal.returns
returns c = λ cloud rows more is none fits order. file_again cloud rows more is none fits order
