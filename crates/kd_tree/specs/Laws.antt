-- What holds of the trees of keys.
use Rattle.std.specs.Prelude.{◌≡◌, ℕ, ◌*◌, ◌<◌, ◌≤◌, ◌^◌, List, length, Ok, All, IsPermutation}
use Rattle.drc_base.specs.declared.faults.Fault.{Fault}
use Rattle.rans_binary.specs.Blocks.{first_bits, behind}
use Rattle.kd_tree.specs.Keys.{Key}
use Rattle.kd_tree.specs.Trees.{split_bits, rest_bits, split_count, rest_count, IsSettled}
use Rattle.kd_tree.specs.Reading.{Streams, tree_of}

-- blocks that begin with the bits of settled keys are read as these keys, and just these bits are taken
abbrev pub TreesAreReadAgain : Type 0
TreesAreReadAgain = (fault : Fault) (depth : ℕ) (keys : List Key) (s : Streams) → length keys < 2 ^ 32
    → All (λ key. length key ≡ depth) keys → IsSettled depth 0 keys
    → first_bits (length (split_bits depth 0 keys)) s.split ≡ split_bits depth 0 keys
    → first_bits (length (rest_bits depth 0 keys)) s.rest ≡ rest_bits depth 0 keys
    → tree_of fault depth (length keys) s ≡ Ok (
      keys,
      record {
        split = behind (length (split_bits depth 0 keys)) s.split;
        rest = behind (length (rest_bits depth 0 keys)) s.rest;
      },
    )

-- the bits of a tree don't depend on the order of its keys
abbrev pub OrderDoesNotMatter : Type 0
OrderDoesNotMatter = (depth : ℕ) (keys others : List Key) → IsPermutation keys others
    → (split_bits depth 0 others ≡ split_bits depth 0 keys) × (rest_bits depth 0 others ≡ rest_bits depth 0 keys)

-- there are as many split bits as the boxes that are divided ask for, and as many rest bits as are left of keys that are alone
abbrev pub BitsAreCounted : Type 0
BitsAreCounted = (depth : ℕ) (keys : List Key) → All (λ key. length key ≡ depth) keys
    → (length (split_bits depth 0 keys) ≡ split_count depth 0 keys) × (length (rest_bits depth 0 keys) ≡ rest_count depth 0 keys)

-- each list has at most as many bits as the keys have together
abbrev pub BitsAreFew : Type 0
BitsAreFew = (depth : ℕ) (keys : List Key) → length keys < 2 ^ 32 → All (λ key. length key ≡ depth) keys
    → (length (split_bits depth 0 keys) ≤ length keys * depth) × (length (rest_bits depth 0 keys) ≤ length keys * depth)
