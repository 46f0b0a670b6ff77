use Rattle.octahedral_values.proofs.Lawful.{integers-restore, difference-in, normals-in}
use Rattle.octahedral_values.proofs.laws.corrections_restore.Goals as goal

pub returns-clause-restore : goal.returns-clause-restore
returns-clause-restore c = λ step centre flips values corrections some predicts even within canonical made.
    integers-restore step centre flips values corrections some predicts even within canonical made

pub returns-clause-difference : goal.returns-clause-difference
returns-clause-difference c = λ centre some. difference-in centre some

pub returns-clause-normals : goal.returns-clause-normals
returns-clause-normals c = λ centre sums some. normals-in centre sums some
