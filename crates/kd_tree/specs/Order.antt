-- The order of the keys of points: by key, then by number (this project's choice).
use Rattle.std.specs.Prelude.{ℕ, List, length, IsPermutation, IsSorted}
use Rattle.std.specs.List.{range_with_len}
use Rattle.std.specs.Ordering.{nat_cmp, bool_cmp, ordering_then}
use Rattle.std.specs.declared.cmp.Ordering.{Ordering}
use Rattle.std.specs.Cmp.Lexicographic.{slice_cmp}
use Rattle.kd_tree.specs.Keys.{Key, key_at}

-- keys as texts are ordered: by the first bit in which they differ, 0 before 1
abbrev pub key_cmp : Key → Key → Ordering
key_cmp x y = slice_cmp bool_cmp x y

-- two numbers of keys: by key, then by number
abbrev pub point_cmp : List Key → ℕ → ℕ → Ordering
point_cmp keys i j = ordering_then (key_cmp (key_at keys i) (key_at keys j)) (nat_cmp i j)

-- the numbers below n in the order of a comparison
pub record IsOrderBy (cmp : ℕ → ℕ → Ordering) (n : ℕ) (order : List ℕ) : Type 0 where
  pub each : IsPermutation (range_with_len 0 n) order
  pub ascending : IsSorted cmp order

-- the numbers of these keys by key, then by number
abbrev pub IsKdOrder : List Key → List ℕ → Type 0
IsKdOrder keys order = IsOrderBy (point_cmp keys) (length keys) order
