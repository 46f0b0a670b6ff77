use Rattle.std.proofs.Common.{◌≡◌, ◌+◌, ◌*◌, ℤ, List, length, vec_len, vec_capacity}
use Rattle.predict.specs.Restored.{restored_behind}
use Rattle.predict.specs.Multi.{by_many}
use Rattle.predict.specs.Entry.{Foretells}
use Rattle.predict.proofs.multi_from_source.put_by_mean.Given as goal

abbrev pub invariant-loop-j : goal.invariant-loop-j
invariant-loop-j g l = record {
  values : (f : List ℤ → ℤ) → Foretells f l.comps l.e (by_many l.comps l.faces)
      → restored_behind f l.w l.values.items (g.C.CorrectionSource.left l.source) ≡ restored_behind f l.fn.w l.fn.values.items (g.C.CorrectionSource.left l.fn.source);
  left : length (g.C.CorrectionSource.left l.fn.source) ≡ length (g.C.CorrectionSource.left l.source) + l.j;
  len : vec_len l.values ≡ l.e * l.comps + l.j;
  capacity : vec_capacity l.values ≡ vec_capacity l.fn.values;
}
