use Rattle.std.proofs.Common.{◌≡◌, ◌+◌, ◌*◌, ◌<◌, ◌≤◌, length, vec_len, vec_capacity}
use Rattle.std.specs.List.{All}
use Rattle.corner_table.specs.Ordered.{IsBelow}
use Rattle.predict.specs.Restored.{restored, restored_behind}
use Rattle.predict.specs.Surfaces.{surface}
use Rattle.predict.specs.Gathered.{gathered}
use Rattle.predict.specs.Multi.{multi}
use Rattle.predict.specs.Entry.{AreUsed}
use Rattle.predict.proofs.multi_from_source.by_multi.Given as goal

abbrev pub invariant-loop-e : goal.invariant-loop-e
invariant-loop-e g l = record {
  long : length l.used ≡ 4;
  used : AreUsed (surface l.fn.on) l.flags.lists l.e l.used;
  values : restored_behind (multi (surface l.fn.on) l.comps l.flags.lists) l.wrap l.values.items (g.C.CorrectionSource.left l.source) ≡ restored (multi (surface l.fn.on) l.comps l.flags.lists) l.fn.w (g.C.CorrectionSource.left l.fn.source);
  left : l.e * l.comps + length (g.C.CorrectionSource.left l.source) ≡ l.n;
  len : vec_len l.values ≡ l.e * l.comps;
  capacity : vec_capacity l.values ≡ l.n;
  ahead : l.e < length l.fn.on.order.now.corner_of_entry → l.ahead.items ≡ gathered (surface l.fn.on) l.e;
  below : All (IsBelow l.e) l.ahead.items;
  few : length l.ahead.items ≤ 4;
}
