use Rattle.std.proofs.Common.{◌+◌, ◌*◌, ℤ, List}
use Rattle.predict.specs.Multi.{by_many}
use Rattle.predict.specs.Entry.{Foretells, Corrected}
use Rattle.predict.proofs.entry.correct_entry.Given as goal

abbrev pub invariant-loop-j : goal.invariant-loop-j
invariant-loop-j l = (f : List ℤ → ℤ) → Foretells f l.comps l.e (by_many l.comps l.faces) → Corrected f l.w l.v l.fn.out (l.e * l.comps) → Corrected f l.w l.v l.out (l.e * l.comps + l.j)
