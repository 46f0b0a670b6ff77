use Rattle.std.proofs.Common.{◌≡◌, ℕ, ◌+◌, ◌<◌, get_or, take}
use Rattle.symbol_tables.specs.Normal.{greatest_count}
use Rattle.symbol_coding.proofs.Counts.{count_in}
use Rattle.symbol_coding.proofs.costs.count_into.Given as goal

abbrev pub invariant-loop-k : goal.invariant-loop-k
invariant-loop-k l = (s : ℕ) → s < greatest_count l.symbols + 1 → get_or l.counts s 0 ≡ count_in (take l.k l.symbols) s
