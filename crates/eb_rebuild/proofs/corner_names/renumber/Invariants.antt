-- The names before this one are renumbered.
use Rattle.std.proofs.Common.{◌≡◌, ℕ, ◌<◌, ◌≤◌, get_or}
use Rattle.eb_rebuild.proofs.corner_names.renumber.Given as goal

abbrev pub invariant-loop-name : goal.invariant-loop-name
invariant-loop-name l = record {
  done : (i : ℕ) → i < l.name-index → get_or l.name-items i 0 ≡ get_or l.numbers.items (get_or l.fn.names.items i 0) 0;
  left : (i : ℕ) → l.name-index ≤ i → get_or l.name-items i 0 ≡ get_or l.fn.names.items i 0;
}
