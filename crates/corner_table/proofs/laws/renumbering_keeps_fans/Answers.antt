use Rattle.corner_table.proofs.FanLaws.{gluing_is_carried, fans_are_carried, free_is_carried, boundary_is_carried, three_fans_are_carried, proper_is_carried}
use Rattle.corner_table.proofs.laws.renumbering_keeps_fans.Goals as goal

pub returns : goal.returns
returns c = record { gluing = gluing_is_carried; fans = fans_are_carried; free = free_is_carried; boundary = boundary_is_carried; three_fans = three_fans_are_carried; proper = proper_is_carried }
