-- What each written block is read as, by itself (the blocks: Draco Bitstream Specification 2.2, sections "Rans Decoding" and "Symbol
-- Decoding"; this project's choice of words).
use Rattle.std.specs.Prelude.{◌≡◌, ℕ, Bool, true, List, All, length}
use Rattle.drc_bits.specs.Spells.{Spells}
use Rattle.rans_binary.specs.Blocks.{IsBlockOf, block}
use Rattle.symbol_coding.specs.Block.{block_bytes, block_at as symbols_at}
use Rattle.eb_valence.specs.Contexts.{context_lists}
use Rattle.eb_trace.specs.declared.tracing.Traced.{Traced}

-- the block of each of these lists of bits is read as one that begins with its bits
abbrev pub AreBlocks : List (List Bool) → Type 0
AreBlocks lists = All (λ bits. IsBlockOf bits (block bits)) lists

-- the block of numbers is read as exactly these
abbrev pub IsSymbolBlock : List ℕ → Type 0
IsSymbolBlock numbers = Spells (symbols_at (length numbers) 1) (block_bytes numbers 1) numbers

-- the blocks of a section: start bits, seam bits, and under valence the lists of contexts
pub record AreCoded (valence : Bool) (t : Traced) (lists : List (List Bool)) : Type 0 where
  pub starts : IsBlockOf t.starts (block t.starts)
  pub seams : AreBlocks lists
  pub contexts : valence ≡ true → All IsSymbolBlock (context_lists t.symbols t.events)
