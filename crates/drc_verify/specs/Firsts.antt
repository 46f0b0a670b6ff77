-- The first number that fails a test (this project's choice).
use Rattle.std.specs.Prelude.{ℕ, Bool, not, Option, position}
use Rattle.std.specs.List.{range_with_len}

-- the least number below a count that fails a test
unfoldable pub first_failing : (ℕ → Bool) → ℕ → Option ℕ
first_failing passes count = position (λ i. not (passes i)) (range_with_len 0 count)
