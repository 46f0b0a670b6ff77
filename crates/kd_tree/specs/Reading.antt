-- A kd-tree read from its two blocks (this project's choice).
use Rattle.std.specs.Prelude.{◌≡◌, ℕ, zero, suc, ◌+◌, ◌-◌, ◌*◌, ◌==◌, Bool, true, false, if◌then◌else◌, nat_lt}
use Rattle.std.specs.Prelude.{List, [], ◌∷◌, ◌++◌, replicate, Result, Ok, Err}
use Rattle.drc_base.specs.declared.faults.Fault.{Fault}
use Rattle.drc_base.specs.declared.faults.Refusal.{Refusal}
use Rattle.drc_base.specs.Steps.{◌>>=◌}
use Rattle.drc_base.specs.Refusals.{Refuses}
use Rattle.rans_binary.specs.Blocks.{Block, first_bits, behind}
use Rattle.kd_tree.specs.Keys.{Key, KeyRows}
use Rattle.drc_bits.specs.Digits.{digits}

-- the block of split bits and the block of rest bits, each at its next bit
pub record Streams : Type 0 where
  pub split : Block
  pub rest : Block

-- the number of these bits behind the bits of v, the high one first
abbrev pub number_behind : ℕ → List Bool → ℕ
number_behind v [] = v
number_behind v (bit ∷ bits) = number_behind (2 * v + (if bit then 1 else 0)) bits

-- the number of the next n split bits
abbrev pub split_bits_number : ℕ → Streams → ℕ
split_bits_number n s = number_behind 0 (first_bits n s.split)

-- behind n split bits
abbrev pub behind_split_bits : ℕ → Streams → Streams
behind_split_bits n s = record { split = behind n s.split; rest = s.rest }

-- behind n rest bits
abbrev pub after_rest : ℕ → Streams → Streams
after_rest n s = record { split = s.split; rest = behind n s.rest }

-- one list of keys before another
abbrev pub keys_before : List Key → List Key × Streams → Result (List Key × Streams) Fault
keys_before keys x = Ok (keys ++ x.0, x.1)

-- the keys of a box of n keys that agree in the bits of `key`, with `left` bits to come, in order; this fault where more keys
-- than there are lie in a lower box
unfoldable pub boxes_of : Fault → ℕ → ℕ → Key → Streams → Result (List Key × Streams) Fault
boxes_of fault zero n key s = Ok (replicate n key, s)
boxes_of fault (suc left) n key s =
    if n == 0 then Ok ([], s) else
    if n == 1 then Ok ((key ++ first_bits (suc left) s.rest) ∷ [], after_rest (suc left) s) else
    if nat_lt n (split_bits_number (digits n) s) then Err fault else
    boxes_of fault left (split_bits_number (digits n) s) (key ++ false ∷ []) (behind_split_bits (digits n) s) >>= λ low.
    boxes_of fault left (n - split_bits_number (digits n) s) (key ++ true ∷ []) low.1 >>= keys_before low.0

-- n keys of `depth` bits
abbrev pub tree_of : Fault → ℕ → ℕ → Streams → Result (List Key × Streams) Fault
tree_of fault depth n s = boxes_of fault depth n [] s

-- the answer is the keys that are due, and the blocks are then behind the bits that were taken; or it is the fault that is
-- due; running out of memory is free
abbrev pub GivesTree : ℕ → Result (List Key × Streams) Fault → Streams → Result KeyRows Refusal → Type 0
GivesTree depth due new (Ok keys) = (due ≡ Ok (keys.rows, new)) × (keys.depth ≡ depth)
GivesTree depth due new (Err e) = Refuses due e
