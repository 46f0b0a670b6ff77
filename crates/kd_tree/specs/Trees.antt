-- The kd-tree of a list of keys (this project's choice). A box at depth d is all keys that agree in their first d bits; it
-- is divided by the next bit, and nothing depends on the order of the keys.
use Rattle.std.specs.Prelude.{◌≡◌, ℕ, zero, suc, ◌+◌, ◌/◌, ◌%◌, ◌^◌, ◌==◌, Bool, if◌then◌else◌, nat_lt}
use Rattle.std.specs.Prelude.{List, [], ◌∷◌, ◌++◌, length, drop, filter}
use Rattle.drc_bits.specs.Digits.{digits}
use Rattle.kd_tree.specs.Keys.{Key, bit_at, is_low}

-- the lower box of a box at depth d: its keys whose next bit is 0
abbrev pub lower : ℕ → List Key → List Key
lower d box = filter (is_low d) box

-- the upper box: its keys whose next bit is 1
abbrev pub upper : ℕ → List Key → List Key
upper d box = filter (bit_at d) box

-- the low n bits of a number, the high one first
unfoldable pub high_bits : ℕ → ℕ → List Bool
high_bits zero v = []
high_bits (suc n) v = (v / 2 ^ n % 2 == 1) ∷ high_bits n v

-- the split bits of a box at depth d with `left` bits to come: for two keys or more how many lie in the lower box, in as
-- many digits as their own number has, and then the split bits of the lower box and of the upper box
unfoldable pub split_bits : ℕ → ℕ → List Key → List Bool
split_bits zero d box = []
split_bits (suc left) d box =
    if nat_lt (length box) 2 then [] else
    high_bits (digits (length box)) (length (lower d box))
    ++ (split_bits left (d + 1) (lower d box) ++ split_bits left (d + 1) (upper d box))

-- its rest bits: the bits that are left of each key that is alone in its box
unfoldable pub rest_bits : ℕ → ℕ → List Key → List Bool
rest_bits zero d box = []
rest_bits (suc left) d [] = []
rest_bits (suc left) d (key ∷ []) = drop d key
rest_bits (suc left) d (key ∷ other ∷ keys) =
    rest_bits left (d + 1) (lower d (key ∷ other ∷ keys)) ++ rest_bits left (d + 1) (upper d (key ∷ other ∷ keys))

-- how many split bits a box has: the digits of the number of keys of each box that is divided
unfoldable pub split_count : ℕ → ℕ → List Key → ℕ
split_count zero d box = 0
split_count (suc left) d box =
    if nat_lt (length box) 2 then 0 else
    digits (length box) + (split_count left (d + 1) (lower d box) + split_count left (d + 1) (upper d box))

-- how many rest bits a box has: the bits that are left below each box of one key
unfoldable pub rest_count : ℕ → ℕ → List Key → ℕ
rest_count zero d box = 0
rest_count (suc left) d [] = 0
rest_count (suc left) d (key ∷ []) = suc left
rest_count (suc left) d (key ∷ other ∷ keys) =
    rest_count left (d + 1) (lower d (key ∷ other ∷ keys)) + rest_count left (d + 1) (upper d (key ∷ other ∷ keys))

-- in each box of the tree the lower box comes before the upper box
abbrev pub IsSettled : ℕ → ℕ → List Key → Type 0
IsSettled zero d box = Unit {0}
IsSettled (suc left) d box =
    (box ≡ lower d box ++ upper d box) × IsSettled left (d + 1) (lower d box) × IsSettled left (d + 1) (upper d box)
