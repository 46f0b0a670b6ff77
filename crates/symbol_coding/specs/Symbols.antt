-- Symbols of a coder: each has the slots that a probability table gives it (Draco Bitstream Specification 2.2,
-- sections Symbol Decoding and Rans Decoding). How often symbols occur, and what that costs, is this project's choice
-- of an encoder.
use Rattle.std.specs.Prelude.{ℕ, zero, suc, ◌+◌, ◌*◌, ◌/◌, ◌%◌, ◌^◌, ◌==◌, List, [], ◌∷◌, ◌++◌, map, length, slice_index, count_by, Option}
use Rattle.std.specs.Prelude.{Some, None, Ok, if◌then◌else◌}
use Rattle.std.specs.List.{range_with_len}
use Rattle.drc_base.specs.declared.kinds.Kind.TheVariants as kind
use Rattle.drc_base.specs.Steps.{◌>>=◌}
use Rattle.drc_bits.specs.Reading.{Reading, Item, fault_at, bytes_at}
use Rattle.drc_bits.specs.Varint.{var64_at, spelling}
use Rattle.rans_core.specs.Coder.{Interval, CoderState, all_spelled, pulled, refilled, started}
use Rattle.symbol_tables.specs.Tables.{cum_of, symbol_of}
use Rattle.symbol_tables.specs.Normal.{greatest_count}

-- the slots of a symbol
abbrev pub interval_of : List ℕ → ℕ → Interval
interval_of probs s = record { cum = cum_of probs s; prob = slice_index probs s }

-- ---- reading

-- the state after its refill
abbrev pub full : ℕ → CoderState → CoderState
full bits s = refilled (4 * 2 ^ bits) s.number s.bytes

-- the symbol that comes next: the one that has the slot of the refilled state
abbrev pub refilled_symbol : ℕ → List ℕ → CoderState → ℕ
refilled_symbol bits probs s = symbol_of probs ((full bits s).number % 2 ^ bits)

-- the state after that symbol
abbrev pub state_behind_symbol : ℕ → List ℕ → CoderState → CoderState
state_behind_symbol bits probs s = pulled (2 ^ bits) (interval_of probs (refilled_symbol bits probs s)) (full bits s)

-- the next n symbols
unfoldable pub next_symbols : ℕ → ℕ → List ℕ → CoderState → List ℕ
next_symbols zero bits probs s = []
next_symbols (suc n) bits probs s = refilled_symbol bits probs s ∷ next_symbols n bits probs (state_behind_symbol bits probs s)

-- coded symbols: the place of their first byte, and their first state
pub record Coded : Type 0 where
  pub place : ℕ
  pub state : CoderState

-- coded bytes between two places that start with this state; BadStart at the first of them where there is none
abbrev pub coded_from : Reading → Reading → Option CoderState → Item Coded
coded_from first end (Some s) = Ok (record { place = first.place; state = s }, end)
coded_from first end None = fault_at kind.BadStart first

-- coded symbols at the beginning: the number of their bytes, and the bytes
unfoldable pub coded_at : ℕ → Reading → Item Coded
coded_at bits c = do
  size ← var64_at c
  bytes ← bytes_at size.0 size.1
  coded_from size.1 bytes.1 (started 4 (4 * 2 ^ bits) bytes.0)

-- ---- writing

-- the bytes of coded symbols, the last one pushed first, behind their number
unfoldable pub coded_bytes : ℕ → List ℕ → List ℕ → List ℕ
coded_bytes bits probs symbols = let coded = all_spelled 4 (2 ^ bits) (map (interval_of probs) symbols) in
    spelling 10 (length coded) ++ coded

-- how often each symbol occurs, up to the greatest one
unfoldable pub counts_of : List ℕ → List ℕ
counts_of symbols = map (λ s. count_by (λ v. v == s) symbols) (range_with_len 0 (greatest_count symbols + 1))
