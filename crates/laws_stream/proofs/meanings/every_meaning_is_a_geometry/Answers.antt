use Rattle.laws_stream.proofs.reading.Geometries.{meaning-geometry}
use Rattle.laws_stream.proofs.reading.Fields.{meaning-fields}
use Rattle.laws_stream.proofs.reading.Faces.{meaning-surface}
use Rattle.laws_stream.proofs.meanings.every_meaning_is_a_geometry.Goals as goal

pub returns : goal.returns
returns c = record { geometry = meaning-geometry; fields = meaning-fields; surface = meaning-surface }
