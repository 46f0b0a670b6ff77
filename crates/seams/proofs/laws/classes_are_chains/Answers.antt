use Rattle.seams.proofs.Chains.{class_is_fan, class_ends, class_in_fan, uncut_is_fan, cut_is_gluing}
use Rattle.seams.proofs.laws.classes_are_chains.Goals as goal

pub returns : goal.returns
returns c = record { fan = class_is_fan; ends = class_ends; within = class_in_fan; uncut = uncut_is_fan; gluing = cut_is_gluing }
