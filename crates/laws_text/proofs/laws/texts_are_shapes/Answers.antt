use Rattle.laws_text.proofs.Texts.{texts_are_shapes}
use Rattle.laws_text.proofs.laws.texts_are_shapes.Goals as goal

pub returns : goal.returns
returns c = texts_are_shapes
