use Rattle.ply_mesh.proofs.RoundTrip.{geometry_again}
use Rattle.ply_mesh.proofs.laws.text_is_read_again.Goals as goal

pub returns : goal.returns
returns c = geometry_again
