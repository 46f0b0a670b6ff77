use Rattle.std.proofs.Common.{◌≡◌, ℕ, ◌<◌, length, sum, take, get_or}
use Rattle.symbol_tables.specs.Tables.{HasSymbol}
use Rattle.symbol_tables.proofs.slots.narrow_slots.Given as goal

abbrev pub invariant-loop-s : goal.invariant-loop-s
invariant-loop-s l = (length l.slots.items ≡ sum (take l.s l.probs)) × ((slot : ℕ) → slot < length l.slots.items → HasSymbol l.probs slot (get_or l.slots.items slot 0))
