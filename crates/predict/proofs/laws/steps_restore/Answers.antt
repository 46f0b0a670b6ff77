use Rattle.std.specs.Prelude.{[]}
use Rattle.std.proofs.lemmas.List.Elements.{All-nil}
use Rattle.predict.specs.Laws.{Passes}
use Rattle.predict.proofs.Steps.{steps_restore}
use Rattle.predict.proofs.laws.steps_restore.Goals as goal

pub returns : goal.returns
returns g c = λ test step move back flags values corrections undo pass made. steps_restore (Passes test) step move back [] flags values corrections undo (All-nil (Passes test)) pass made
