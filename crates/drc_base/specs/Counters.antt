-- Counters that never fall and stand at the last value of u64, and the causes that they show (this project's choice).
use Rattle.std.specs.Prelude.{◌≡◌, ℕ, ◌+◌, ◌-◌, ◌^◌, ◌<◌, ◌≤◌, ◌⊎◌, min, Result, OnErr}

-- the last value of a counter, at which it stands
abbrev pub last_count : ℕ
last_count = 2 ^ 64 - 1

-- a counter after n more
abbrev pub counted : ℕ → ℕ → ℕ
counted old n = min (old + n) last_count

-- a count rose, or it stands at its last value
abbrev pub Rose : ℕ → ℕ → Type 0
Rose old new = (old < new) ⊎ (new ≡ last_count)

-- the count of failures didn't fall, and an error comes only where it rose
pub record HasCause {A E : Type 0} (old new : ℕ) (result : Result A E) : Type 0 where
  pub kept : old ≤ new
  pub rose : OnErr result (Rose old new)
