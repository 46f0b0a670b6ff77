-- Binary range coding: a bit is a symbol with two intervals of 256 slots, the ones below the zeros (Draco
-- Bitstream Specification 2.2, section Rans Decoding). The probability that is written, and the refusal of 0,
-- are this project's choice.
use Rattle.std.specs.Prelude.{ℕ, zero, suc, ◌+◌, ◌-◌, ◌*◌, ◌/◌, ◌%◌, ◌<◌, ◌≡◌, Bool, true, false, not, min, max, nat_lt, List, [], ◌∷◌}
use Rattle.std.specs.Prelude.{◌++◌, map, length, slice_get, count_by, Option, Some, None, Ok}
use Rattle.drc_base.specs.declared.kinds.Kind.TheVariants as kind
use Rattle.drc_base.specs.Steps.{◌>>=◌}
use Rattle.drc_bits.specs.Reading.{Reading, Item, must, fault_at, bytes_at}
use Rattle.drc_bits.specs.Numbers.{number_at}
use Rattle.drc_bits.specs.Spells.{Spells}
use Rattle.drc_bits.specs.Varint.{var32_at, spelling}
use Rattle.rans_core.specs.Coder.{Interval, CoderState, Pulled, pulled, refilled, started, all_spelled}

-- a block between two bits: how many of the 256 slots are ones, and the coder's state
pub record Block : Type 0 where
  pub ones : ℕ
  pub state : CoderState

-- the slots of a bit
abbrev pub bit_interval : ℕ → Bool → Interval
bit_interval ones true = record { cum = 0; prob = ones }
bit_interval ones false = record { cum = ones; prob = 256 - ones }

-- the state after its refill: its number is at least 4096, where bytes are left for that
abbrev pub refilled_block : Block → CoderState
refilled_block b = refilled 4096 b.state.number b.state.bytes

-- the next bit: whether the slot is one of the ones
abbrev pub next_bit : Block → Bool
next_bit b = nat_lt ((refilled_block b).number % 256) b.ones

-- the block after the next bit
abbrev pub after_bit : Block → Block
after_bit b = record { ones = b.ones; state = pulled 256 (bit_interval b.ones (next_bit b)) (refilled_block b) }

-- the next n bits
abbrev pub first_bits : ℕ → Block → List Bool
first_bits zero b = []
first_bits (suc n) b = next_bit b ∷ first_bits n (after_bit b)

-- the block behind its next n bits
abbrev pub behind : ℕ → Block → Block
behind zero b = b
behind (suc n) b = after_bit (behind n b)

-- the bit of a block with this number, counted from 0
abbrev pub bit_of : Block → ℕ → Bool
bit_of b k = next_bit (behind k b)

-- the bits are pulled one after another
abbrev pub BitsPulled : Block → List Bool → Type 0
BitsPulled b bits = Pulled 16 256 b.state (map (bit_interval b.ones) bits)

-- the block that starts with this state, or BadStart where its coded bytes begin; its other end is where they end
abbrev pub block_from : ℕ → Reading → Reading → Option CoderState → Item Block
block_from none begin end (Some s) = Ok (record { ones = 256 - none; state = s }, end)
block_from none begin end None = fault_at kind.BadStart begin

-- a block at the beginning: how many slots are zeros, the size of its bytes, and the bytes
unfoldable pub bit_block_at : Reading → Item Block
bit_block_at c = do
  zeros ← must kind.BadProb (λ n. nat_lt 0 n) (number_at 1) c
  size ← var32_at zeros.1
  coded ← bytes_at size.0 size.1
  block_from zeros.0 size.1 coded.1 (started 3 4096 coded.0)

-- how many of the 256 slots are zeros: their part of the bits, rounded, and neither none nor all
abbrev pub zeros_for : List Bool → ℕ
zeros_for bits = let n = max 1 (length bits) in max 1 (min 255 ((256 * count_by not bits + n / 2) / n))

-- the coded bytes of bits, the last one pushed first
abbrev pub coded_bits : ℕ → List Bool → List ℕ
coded_bits zeros bits = all_spelled 16 256 (map (bit_interval (256 - zeros)) bits)

-- the bytes of a block of bits
unfoldable pub block : List Bool → List ℕ
block bits = let coded = coded_bits (zeros_for bits) bits in zeros_for bits ∷ spelling 5 (length coded) ++ coded

-- these bytes, wherever they stand and whatever follows them, are read with exactly their length as one block, whose
-- first bits are these
pub record IsBlockOf (bits : List Bool) (bytes : List ℕ) : Type 0 where
  pub start : Block
  pub spells : Spells bit_block_at bytes start
  pub pulls : BitsPulled start bits
  pub first : first_bits (length bits) start ≡ bits
  pub numbered : (k : ℕ) → k < length bits → slice_get bits k ≡ Some (bit_of start k)
