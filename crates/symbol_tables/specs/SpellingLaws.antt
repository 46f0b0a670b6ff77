-- What holds of the spellings of probabilities, whichever of them is written.
use Rattle.std.specs.Prelude.{◌≡◌, ℕ, ◌^◌, ◌<◌, ◌≤◌, List, ◌++◌, length, sum}
use Rattle.drc_base.specs.declared.limits.TheConstants.{MAX_TABLE_SYMBOLS}
use Rattle.drc_bits.specs.Reading.{Reading}
use Rattle.drc_bits.specs.Spells.{Spells}
use Rattle.drc_bits.specs.Varint.{var32_at}
use Rattle.symbol_tables.specs.Tables.{probs_at, table_at}
use Rattle.symbol_tables.specs.Spellings.{AreEntries, Entry, IsTold, bytes_of, probs_of}

-- the bytes of entries are read as their probabilities, whatever follows
abbrev pub EverySpellingIsRead : Type 0
EverySpellingIsRead = (entries : List Entry) → AreEntries entries
    → Spells (probs_at (length (probs_of entries)) 0) (bytes_of entries) (probs_of entries)

-- what is read are the probabilities of entries; a fault is that of the first bytes behind entries that are no entry
-- which fits
abbrev pub NothingElseIsRead : Type 0
NothingElseIsRead = (n : ℕ) (c : Reading) → IsTold n c (probs_at n 0 c)

-- so is a table: any varint of the number of its symbols, and any entries whose probabilities fill all slots
abbrev pub EveryTableIsRead : Type 0
EveryTableIsRead = (bits : ℕ) (text : List ℕ) (entries : List Entry) → AreEntries entries
    → 0 < length (probs_of entries) → length (probs_of entries) ≤ MAX_TABLE_SYMBOLS → sum (probs_of entries) ≡ 2 ^ bits
    → Spells var32_at text (length (probs_of entries)) → Spells (table_at bits) (text ++ bytes_of entries) (probs_of entries)
