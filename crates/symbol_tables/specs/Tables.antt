-- Probability tables: a list of probabilities that are numbers of slots, one for each symbol, and how it is
-- spelled (Draco Bitstream Specification 2.2, section Symbol Decoding). The limit of symbols, the refusal of an
-- empty table, and which spelling is written are this project's choice.
use Rattle.std.specs.Prelude.{◌≡◌, ℕ, zero, suc, ◌+◌, ◌-◌, ◌*◌, ◌/◌, ◌%◌, ◌^◌, ◌<◌, ◌≤◌, ◌==◌, nat_lt, nat_le, min, List, [], ◌∷◌, ◌++◌}
use Rattle.std.specs.Prelude.{length, take, sum, slice_index, Ok, if◌then◌else◌}
use Rattle.drc_base.specs.declared.kinds.Kind.TheVariants as kind
use Rattle.drc_base.specs.declared.limits.TheConstants.{MAX_TABLE_SYMBOLS}
use Rattle.drc_base.specs.Steps.{◌>>=◌}
use Rattle.drc_bits.specs.Reading.{Reading, Item, must, many_at, fault_at}
use Rattle.drc_bits.specs.Numbers.{little_endian, number_at}
use Rattle.drc_bits.specs.Varint.{var32_at, spelling}

-- how many slots lie below those of a symbol
abbrev pub cum_of : List ℕ → ℕ → ℕ
cum_of probs s = sum (take s probs)

-- the symbol whose slots have this one
abbrev pub HasSymbol : List ℕ → ℕ → ℕ → Type 0
HasSymbol probs slot s = (s < length probs) × (cum_of probs s ≤ slot) × (slot < cum_of probs s + slice_index probs s)

-- the first symbol whose slots and those of the symbols before it are more than the slot
abbrev pub symbol_of : List ℕ → ℕ → ℕ
symbol_of [] slot = 0
symbol_of (p ∷ probs) slot = if nat_lt slot p then 0 else 1 + symbol_of probs (slot - p)

-- ---- reading

-- the probability of a byte with its low six bits, and so many bytes above them, each an item of its own
abbrev pub long_at : ℕ → ℕ → Reading → Item (ℕ × ℕ)
long_at low more c = many_at (number_at 1) more c >>= λ xs. Ok ((low + 64 * little_endian xs.0, 0), xs.1)

-- a run of zeros from this symbol on; Run where it passes the last of the symbols behind
abbrev pub run_at : ℕ → ℕ → Reading → Reading → Item (ℕ × ℕ)
run_at behind more c after = if nat_le more behind then Ok ((0, more), after) else fault_at kind.Run c

-- a symbol's probability, and how many symbols after it have none either: of a run that goes on, or an item of
-- its own, whose low two bits are its token: how many more bytes it has, or 3 for a run
abbrev pub prob_at : ℕ → ℕ → Reading → Item (ℕ × ℕ)
prob_at behind (suc run) c = Ok ((0, run), c)
prob_at behind zero c = number_at 1 c >>= λ b. if b.0 % 4 == 3 then run_at behind (b.0 / 4) c b.1 else long_at (b.0 / 4) (b.0 % 4) b.1

-- the probabilities of n symbols, the first of which are in a run
unfoldable pub probs_at : ℕ → ℕ → Reading → Item (List ℕ)
probs_at zero run c = Ok ([], c)
probs_at (suc behind) run c = prob_at behind run c >>= λ x. probs_at behind x.0.1 x.1 >>= λ xs. Ok (x.0.0 ∷ xs.0, xs.1)

-- how many symbols a table has
abbrev pub count_at : Reading → Item ℕ
count_at c = must kind.EmptyTable (λ n. nat_lt 0 n) (must kind.TableLimit (λ n. nat_le n MAX_TABLE_SYMBOLS) var32_at) c

-- the probabilities, where they sum to 2 ^ bits; else Sum where the number of symbols stands
abbrev pub summing : ℕ → Reading → List ℕ × Reading → Item (List ℕ)
summing bits c probs = if sum probs.0 == 2 ^ bits then Ok probs else fault_at kind.Sum c

-- the table at the beginning
unfoldable pub table_at : ℕ → Reading → Item (List ℕ)
table_at bits c = do
  count ← count_at c
  probs ← probs_at count.0 0 count.1
  summing bits c probs

-- ---- writing

-- how many of these are 0 before the first other one
abbrev pub zeros_before : List ℕ → ℕ
zeros_before [] = 0
zeros_before (zero ∷ probs) = 1 + zeros_before probs
zeros_before (suc p ∷ probs) = 0

-- a probability in the fewest bytes: its low six bits above the number of the bytes that follow, and these
unfoldable pub prob_bytes : ℕ → List ℕ
prob_bytes p = if nat_lt p (2 ^ 6) then 4 * p ∷ []
    else (if nat_lt p (2 ^ 14) then (4 * (p % 64) + 1) ∷ p / 64 ∷ []
    else (4 * (p % 64) + 2) ∷ p / 64 % 256 ∷ p / 16384 ∷ [])

-- probabilities, the first of which are in a run that is spelled already; a run is as long as it can be, at most 64
unfoldable pub probs_bytes : ℕ → List ℕ → List ℕ
probs_bytes run [] = []
probs_bytes (suc run) (p ∷ probs) = probs_bytes run probs
probs_bytes zero (zero ∷ probs) = (4 * min 63 (zeros_before probs) + 3) ∷ probs_bytes (min 63 (zeros_before probs)) probs
probs_bytes zero (suc p ∷ probs) = prob_bytes (suc p) ++ probs_bytes 0 probs

-- the bytes of a table
abbrev pub table_bytes : List ℕ → List ℕ
table_bytes probs = spelling 5 (length probs) ++ probs_bytes 0 probs

-- ---- look-ups

-- what a table keeps besides its probabilities: the slots below each symbol, and the symbol of each slot
pub record IsTable (probs cums slots : List ℕ) : Type 0 where
  pub some : 0 < length probs
  pub few : length probs ≤ 2 ^ 20
  pub small : sum probs ≤ 2 ^ 20
  pub cums_len : length cums ≡ length probs
  pub cums_are : (s : ℕ) → s < length probs → slice_index cums s ≡ cum_of probs s
  pub slots_len : length slots ≡ sum probs
  pub slots_are : (slot : ℕ) → slot < sum probs → HasSymbol probs slot (slice_index slots slot)
