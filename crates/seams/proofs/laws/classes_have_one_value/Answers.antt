use Rattle.seams.proofs.Values.{seams_are_alike, seams_are_flags, class_has_one_value}
use Rattle.seams.proofs.laws.classes_have_one_value.Goals as goal

pub returns : goal.returns
returns c = record { alike = seams_are_alike; flags = seams_are_flags; value = class_has_one_value }
