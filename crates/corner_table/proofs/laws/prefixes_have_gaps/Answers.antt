use Rattle.corner_table.proofs.FanLaws.{prefix_is_gluing, gap_is_one_step, surrounded_fills_gap, gap_is_surrounded, one_face_more}
use Rattle.corner_table.proofs.laws.prefixes_have_gaps.Goals as goal

pub returns : goal.returns
returns c = record { gluing = prefix_is_gluing; boundary = gap_is_one_step; gap = surrounded_fills_gap; surrounded = gap_is_surrounded; more = one_face_more }
