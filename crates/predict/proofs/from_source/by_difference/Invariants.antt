use Rattle.std.proofs.Common.{◌≡◌, ◌+◌, length, vec_len, vec_capacity}
use Rattle.predict.specs.Restored.{restored, restored_behind, entry_before}
use Rattle.predict.proofs.from_source.by_difference.Given as goal

abbrev pub invariant-loop-i : goal.invariant-loop-i
invariant-loop-i g l = record {
  values : restored_behind (entry_before l.comps) l.wrap l.values.items (g.C.CorrectionSource.left l.source) ≡ restored (entry_before l.comps) l.fn.w (g.C.CorrectionSource.left l.fn.source);
  left : l._i + length (g.C.CorrectionSource.left l.source) ≡ l.n;
  len : vec_len l.values ≡ l._i;
  capacity : vec_capacity l.values ≡ l.n;
}
