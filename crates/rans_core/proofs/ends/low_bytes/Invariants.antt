use Rattle.std.proofs.Common.{◌≡◌, ◌-◌, ◌++◌, length}
use Rattle.rans_core.specs.Coder.{low_bytes}
use Rattle.rans_core.proofs.ends.low_bytes.Given as goal

abbrev pub invariant-loop : goal.invariant-loop
invariant-loop l = (l.out.items ++ low_bytes (l.size - l.counter) l.rest ≡ low_bytes l.size l.number) × (length l.out.items ≡ l.counter)
