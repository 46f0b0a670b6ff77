-- The spellings of probabilities, defined on whole lists: a spelling is a list of entries, each of one symbol or of a run of
-- symbols without slots (Draco Bitstream Specification 2.2, section Symbol Decoding).
use Rattle.std.specs.Prelude.{◌≡◌, ℕ, ◌+◌, ◌-◌, ◌*◌, ◌<◌, ◌≤◌, List, [], ◌∷◌, ◌++◌, length, flat_map, replicate, Ok, Err}
use Rattle.drc_base.specs.declared.faults.Fault.{Fault}
use Rattle.drc_bits.specs.Reading.{Reading, Item}
use Rattle.drc_bits.specs.Numbers.{little_endian}
use Rattle.symbol_tables.specs.Tables.{prob_at}

-- an entry: the low six bits of a probability and the bytes above them, or a run: this symbol and the next n have
-- probability 0
pub data Entry : Type 0 where
  slots : ℕ → List ℕ → Entry
  zeros : ℕ → Entry

-- at most two bytes lie above the low six bits
abbrev pub IsEntry : Entry → Type 0
IsEntry (slots low above) = length above ≤ 2
IsEntry (zeros n) = Unit {0}

-- the probabilities of an entry
abbrev pub entry_probs : Entry → List ℕ
entry_probs (slots low above) = (low + 64 * little_endian above) ∷ []
entry_probs (zeros n) = replicate (n + 1) 0

-- its bytes: the low two bits of the first one are its token, how many bytes follow or 3 for a run
abbrev pub entry_bytes : Entry → List ℕ
entry_bytes (slots low above) = (4 * low + length above) ∷ above
entry_bytes (zeros n) = (4 * n + 3) ∷ []

-- the probabilities of entries
abbrev pub probs_of : List Entry → List ℕ
probs_of entries = flat_map entry_probs entries

-- their bytes
abbrev pub bytes_of : List Entry → List ℕ
bytes_of entries = flat_map entry_bytes entries

-- these are entries
abbrev pub AreEntries : List Entry → Type 0
AreEntries [] = Unit {0}
AreEntries (e ∷ entries) = IsEntry e × AreEntries entries

-- between two places stand the bytes of entries with exactly these probabilities, one for each of n symbols
pub record HasSpelling (n : ℕ) (begin : Reading) (probs : List ℕ) (end : Reading) : Type 0 where
  pub entries : List Entry
  pub are : AreEntries entries
  pub probs_are : probs ≡ probs_of entries
  pub count : length probs ≡ n
  pub bytes : begin.rest ≡ bytes_of entries ++ end.rest
  pub place : end.place ≡ begin.place + length (bytes_of entries)

-- at a place stand the bytes of entries of fewer than n symbols, and what follows them is no entry that fits: it has
-- this fault
pub record StopsAt (n : ℕ) (begin : Reading) (fault : Fault) : Type 0 where
  pub entries : List Entry
  pub are : AreEntries entries
  pub few : length (probs_of entries) < n
  pub behind : Reading
  pub bytes : begin.rest ≡ bytes_of entries ++ behind.rest
  pub place : behind.place ≡ begin.place + length (bytes_of entries)
  pub stops : prob_at (n - length (probs_of entries) - 1) 0 behind ≡ Err fault

-- what an answer of reading the probabilities of n symbols means
abbrev pub IsTold : ℕ → Reading → Item (List ℕ) → Type 0
IsTold n begin (Ok x) = HasSpelling n begin x.0 x.1
IsTold n begin (Err f) = StopsAt n begin f
