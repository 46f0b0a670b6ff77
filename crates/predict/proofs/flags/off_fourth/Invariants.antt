use Rattle.std.proofs.Common.{◌≡◌, ◌*◌, ◌≤◌}
use Rattle.predict.specs.Parallelogram.{component, fourth}
use Rattle.predict.specs.Multi.{off_by}
use Rattle.predict.proofs.flags.off_fourth.Given as goal

abbrev pub invariant-loop-j : goal.invariant-loop-j
invariant-loop-j l = record {
  small : l.off ≤ l.j * 4294967295;
  is : l.off ≡ off_by (λ j. fourth l.comps l.t j l.v) (component l.comps l.v l.e) l.j;
}
