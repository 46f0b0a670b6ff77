use Rattle.kd_points.proofs.Counting.{bits_counted}
use Rattle.kd_points.proofs.laws.file_bits_are_counted.Goals as goal

pub returns : goal.returns
returns c = bits_counted c.bits_are_counted.ensures.counted
