-- Keys packed into words of 64 bits (this project's choice): whole words first, and then one word of the bits that are left,
-- which may be none. A word of fewer bits has them at its low end.
use Rattle.std.specs.Prelude.{◌≡◌, ℕ, zero, suc, ◌+◌, ◌*◌, ◌/◌, ◌%◌, ◌^◌, ◌<◌, List, [], ◌∷◌, ◌++◌, take, drop, slice_index}
use Rattle.std.specs.Ordering.{nat_cmp, ordering_then}
use Rattle.std.specs.declared.cmp.Ordering.{Ordering}
use Rattle.std.specs.Cmp.Lexicographic.{slice_cmp}
use Rattle.kd_tree.specs.Keys.{Key, KeyRows, key_at}
use Rattle.kd_tree.specs.Trees.{high_bits}

-- how many words a key of this many bits takes
abbrev pub words_for : ℕ → ℕ
words_for depth = depth / 64 + 1

-- the bits of so many whole words and of a last one
unfoldable pub key_from : ℕ → ℕ → List ℕ → Key
key_from zero part words = high_bits part (slice_index words 0)
key_from (suc whole) part words = high_bits 64 (slice_index words 0) ++ key_from whole part (drop 1 words)

-- the key of this many bits at the front of words
abbrev pub front_key : ℕ → List ℕ → Key
front_key depth words = key_from (depth / 64) (depth % 64) words

-- n keys of this many bits, one behind another
unfoldable pub keys_in : ℕ → ℕ → List ℕ → List Key
keys_in depth zero words = []
keys_in depth (suc n) words = front_key depth words ∷ keys_in depth n (drop (words_for depth) words)

-- no last word has more bits than are left for it
abbrev pub AreClean : ℕ → ℕ → List ℕ → Type 0
AreClean depth n words = (i : ℕ) → i < n → slice_index words (i * words_for depth + depth / 64) < 2 ^ (depth % 64)

-- a number whose bits are the key with this number
abbrev pub IsWordOf : KeyRows → ℕ → ℕ → Type 0
IsWordOf keys i word = (word < 2 ^ keys.depth) × (key_at keys.rows i ≡ high_bits keys.depth word)

-- the row with this number, of so many words each
abbrev pub packed_row : ℕ → List ℕ → ℕ → List ℕ
packed_row width words i = take width (drop (i * width) words)

-- two numbers of rows: by the row's words, then by the number
abbrev pub row_cmp : ℕ → List ℕ → ℕ → ℕ → Ordering
row_cmp width words i j = ordering_then (slice_cmp nat_cmp (packed_row width words i) (packed_row width words j)) (nat_cmp i j)
