-- The greatest number so far.
use Rattle.std.proofs.Common.{ℕ, ◌<◌, ◌≤◌, ◌^◌, get_or}
use Rattle.first_items.proofs.items.bound_of.Given as goal

abbrev pub invariant-loop-x : goal.invariant-loop-x
invariant-loop-x l = record {
  most : l.most < 2 ^ 16;
  none_above : (k : ℕ) → k < l.x → get_or l.numbers k 0 ≤ l.most;
}
