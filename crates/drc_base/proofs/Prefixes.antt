-- What comes first in a list, and is taken away.
use Rattle.std.proofs.Common.{◌≡◌, ℕ, ◌+◌, List, ◌++◌, take, drop, sym}
use Rattle.std.proofs.lemmas.List.{take-append-drop, drop-drop}

-- what stands from p on is its first n and what stands from p + n on
pub taken_prefix : (bytes : List ℕ) (p n : ℕ) → drop p bytes ≡ take n (drop p bytes) ++ drop (p + n) bytes
taken_prefix bytes p n = rw (← drop-drop n p bytes) (sym (take-append-drop n (drop p bytes)))
