use Rattle.std.proofs.Common.{◌*◌}
use Rattle.predict.specs.Surfaces.{surface}
use Rattle.predict.specs.Parallelogram.{parallelogram}
use Rattle.predict.specs.Entry.{Corrected}
use Rattle.predict.proofs.single.correct_entries.Given as goal

abbrev pub invariant-loop-e : goal.invariant-loop-e
invariant-loop-e l = Corrected (parallelogram (surface l.on) l.comps) l.w l.v l.out (l.e * l.comps)
