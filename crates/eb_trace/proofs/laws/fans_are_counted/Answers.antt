use Rattle.eb_trace.proofs.Vertices.{nothing_has_none, face_adds_three, labels_are_fans, renumbered_alike}
use Rattle.eb_trace.proofs.Joining.{gluing_joins}
use Rattle.eb_trace.proofs.laws.fans_are_counted.Goals as goal

pub returns : goal.returns
returns c = record { none = nothing_has_none; face = face_adds_three; gluing = gluing_joins; labels = labels_are_fans; renumbered = renumbered_alike }
