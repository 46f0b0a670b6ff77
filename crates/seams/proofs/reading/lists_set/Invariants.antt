-- As many lists as turns.
use Rattle.std.proofs.Common.{◌≡◌, map, replicate, true}
use Rattle.seams.proofs.reading.lists_set.Given as goal

abbrev pub invariant-loop : goal.invariant-loop
invariant-loop l = map (λ s. s.items) l.all.items ≡ replicate l.counter (replicate l.sides true)
