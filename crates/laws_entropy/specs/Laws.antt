-- What is written by the entropy codings is read as what it was made of, whatever follows it (this project's choice of words).
use Rattle.std.specs.Prelude.{◌≡◌, ℕ, ◌^◌, ◌<◌, ◌≤◌, ◌%◌, Bool, List, All, length}
use Rattle.drc_base.specs.declared.limits.TheConstants.{MAX_VALUES}
use Rattle.drc_bits.specs.Spells.{Spells}
use Rattle.rans_binary.specs.Blocks.{IsBlockOf, block}
use Rattle.symbol_tables.specs.Normal.{HasTable, normal}
use Rattle.symbol_tables.specs.Tables.{table_at, table_bytes}
use Rattle.symbol_coding.specs.Block.{block_at, block_bytes}

-- the table of probabilities for counts
abbrev pub TablesAreRead : Type 0
TablesAreRead = (counts : List ℕ) (bits : ℕ) → bits ≤ 20 → HasTable counts bits
    → Spells (table_at bits) (table_bytes (normal counts bits)) (normal counts bits)

-- the block of numbers of 32 bits, in groups of so many components
abbrev pub SymbolBlocksAreRead : Type 0
SymbolBlocksAreRead = (values : List ℕ) (comps : ℕ) → 0 < comps → length values % comps ≡ 0 → length values ≤ MAX_VALUES
    → All (λ v. v < 2 ^ 32) values → Spells (block_at (length values) comps) (block_bytes values comps) values

-- the block of bits
abbrev pub BitBlocksAreRead : Type 0
BitBlocksAreRead = (bits : List Bool) → length bits < 2 ^ 31 → IsBlockOf bits (block bits)
