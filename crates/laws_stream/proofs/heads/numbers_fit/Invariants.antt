use Rattle.std.proofs.Common.{◌<◌, ◌^◌, ℕ, get_or}
use Rattle.laws_stream.proofs.heads.numbers_fit.Given as goal

abbrev pub invariant-loop-number : goal.invariant-loop-number
invariant-loop-number l = (j d : ℕ) → j < l.number-index → get_or l.numbers j d < 2 ^ 32
