use Rattle.ply_mesh.proofs.RoundTrip.{geometry_again}
use Rattle.drc_container.proofs.lemmas.reading.ProfileHeads.{stream-had}
use Rattle.laws_stream.proofs.reading.Geometries.{meaning-geometry}
use Rattle.laws_stream.proofs.reading.Fields.{meaning-fields}
use Rattle.laws_stream.proofs.meanings.every_meaning_is_a_text.Goals as goal

pub returns : goal.returns
returns c = λ k bytes d are is. geometry_again d.geometry (meaning-geometry k bytes d is) (meaning-fields k bytes d are is) k (stream-had k bytes d is)
