use Rattle.mesh_model.proofs.MapTextLaws.{map-again}
use Rattle.mesh_model.proofs.MapTextsRead.{map-written}
use Rattle.mesh_model.proofs.laws.map_text_is_read_again.Goals as goal

pub returns : goal.returns
returns c = record { again = map-again; written = map-written }
