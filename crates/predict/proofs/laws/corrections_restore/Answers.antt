use Rattle.predict.proofs.Restoring.{restored-corrections, small-corrections}
use Rattle.predict.proofs.laws.corrections_restore.Goals as goal

pub returns-clause-restore : goal.returns-clause-restore
returns-clause-restore c = λ f r v can within. restored-corrections f r v can within.within within.fit

pub returns-clause-small : goal.returns-clause-small
returns-clause-small c = λ f r v can within. small-corrections f r v can within.within
