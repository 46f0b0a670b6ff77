use Rattle.std.proofs.Common.{◌≡◌, ◌+◌, ◌*◌, length, vec_len, vec_capacity}
use Rattle.predict.specs.Restored.{restored, restored_behind}
use Rattle.predict.specs.Parallelogram.{parallelogram}
use Rattle.predict.specs.Surfaces.{surface}
use Rattle.predict.proofs.from_source.by_parallelogram.Given as goal

abbrev pub invariant-loop-e : goal.invariant-loop-e
invariant-loop-e g l = record {
  values : restored_behind (parallelogram (surface l.fn.on) l.comps) l.wrap l.values.items (g.C.CorrectionSource.left l.source) ≡ restored (parallelogram (surface l.fn.on) l.comps) l.fn.w (g.C.CorrectionSource.left l.fn.source);
  left : l.e * l.comps + length (g.C.CorrectionSource.left l.source) ≡ l.n;
  len : vec_len l.values ≡ l.e * l.comps;
  capacity : vec_capacity l.values ≡ l.n;
}
