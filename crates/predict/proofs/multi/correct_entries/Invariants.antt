use Rattle.std.proofs.Common.{◌≡◌, ◌*◌, ℤ, List, length}
use Rattle.predict.specs.Multi.{AreMarked}
use Rattle.predict.specs.Entry.{Corrected, ForetellsAll}
use Rattle.predict.specs.Stored.{ordered_in}
use Rattle.predict.proofs.multi.correct_entries.Given as goal

abbrev pub invariant-loop-e : goal.invariant-loop-e
invariant-loop-e l = record {
  long : length l.lists ≡ 4;
  marked : AreMarked (ordered_in l.surface) l.comps l.v l.lists l.e;
  corrected : (f : List ℤ → ℤ) → ForetellsAll f (ordered_in l.surface) l.comps l.v l.e → Corrected f l.w l.v l.out (l.e * l.comps);
}
