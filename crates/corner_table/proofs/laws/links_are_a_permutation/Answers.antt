use Rattle.corner_table.proofs.BoundaryLaws.{one_follows, one_comes_before, links_are_inverse, new_face_is_loop, others_stay, gluing_takes_out, new_loop_is_linked, taken_out_is_linked}
use Rattle.corner_table.proofs.laws.links_are_a_permutation.Goals as goal

pub returns : goal.returns
returns c = record { after = one_follows; before = one_comes_before; inverse = links_are_inverse; face = new_face_is_loop; others = others_stay; gluing = gluing_takes_out; face_linked = new_loop_is_linked; gluing_linked = taken_out_is_linked }
