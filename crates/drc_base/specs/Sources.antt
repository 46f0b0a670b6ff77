-- What a source gives (this project's choice).
use Rattle.std.specs.Prelude.{◌≡◌, ℕ, ◌+◌, ◌≤◌, Bool, false, ◌==◌, List, length, Option, Result, Ok, Err}
use Rattle.std.specs.Io.KnownBytes.{Consumes}
use Rattle.drc_base.specs.Counters.{counted}
use Rattle.drc_base.specs.declared.ends.ReadEnd.{ReadEnd}
use Rattle.drc_base.specs.declared.ends.ReadEnd.TheVariants as read_end

-- a `take` answered that no byte is left
abbrev pub is_end : {E : Type 0} → Result ℕ E → Bool
is_end (Ok n) = n == 0
is_end (Err e) = false

-- the count of bytes given, after a `take`
abbrev pub given_after : {E : Type 0} → ℕ → Result ℕ E → ℕ
given_after given (Ok n) = counted given n
given_after given (Err e) = given

-- a source whose bytes left and count of bytes given were `left` and `given` gave exactly these bytes since
pub record Gave (left left' : Option (List ℕ)) (given given' : ℕ) (bytes : List ℕ) : Type 0 where
  pub consumed : Consumes left left' bytes
  pub at_least : counted given (length bytes) ≤ given'
  pub at_most : given' ≤ given + length bytes

-- the bytes that were taken when reading ended without its bytes: past the most only where they were too many
abbrev pub EndsAt : ℕ → List ℕ → ReadEnd → Type 0
EndsAt most bytes read_end.TooLong = length bytes ≡ most + 1
EndsAt most bytes read_end.Failed = length bytes ≤ most
EndsAt most bytes read_end.Memory = length bytes ≤ most
