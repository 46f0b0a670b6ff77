use Rattle.laws_text.proofs.Shapes.{headers_are_shapes, text_headers_are_shapes, names_are_shapes}
use Rattle.laws_text.proofs.laws.headers_are_shapes.Goals as goal

pub returns : goal.returns
returns c = record { lines = headers_are_shapes; text = text_headers_are_shapes; names = names_are_shapes }
