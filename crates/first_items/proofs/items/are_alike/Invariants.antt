-- The upper halves so far.
use Rattle.std.proofs.Common.{◌≡◌, ℕ, ◌<◌, ◌/◌, get_or}
use Rattle.first_items.proofs.items.are_alike.Given as goal

abbrev pub invariant-loop-x : goal.invariant-loop-x
invariant-loop-x l = (k : ℕ) → k < l.x → get_or l.bits k 0 / 65536 ≡ get_or l.bits 0 0 / 65536
