-- Worked examples: the laws at given counts, values and bits, whose bytes are computed.
use Rattle.std.proofs.Common.{ℕ, ◌^◌, ◌<◌, false, All, [], ◌∷◌, refl, arith}
use Rattle.std.proofs.lemmas.List.Elements.{All-cons, All-nil}
use Rattle.drc_bits.specs.Bits.{low_bits, packed}
use Rattle.drc_bits.specs.Spells.{Spells}
use Rattle.drc_bits.specs.Varint.{spelling}
use Rattle.rans_core.specs.Coder.{drained, end_bytes, state_pushed}
use Rattle.rans_binary.specs.Blocks.{IsBlockOf, block}
use Rattle.symbol_tables.specs.Normal.{normal}
use Rattle.symbol_tables.specs.Tables.{prob_bytes, probs_bytes, table_at}
use Rattle.drc_bits.specs.Digits.{digits_in}
use Rattle.symbol_coding.specs.Symbols.{coded_bytes, counts_of}
use Rattle.symbol_coding.specs.Block.{block_at, block_bytes, is_raw, lengths_of, raw_bytes, tagged_bytes}
use Rattle.laws_entropy.proofs.Again.{bits-again, symbols-again, table-again}

-- three zeros and a one in 4096 slots
quarter : Spells (table_at 12) (2 ∷ 1 ∷ 48 ∷ 1 ∷ 16 ∷ []) (3072 ∷ 1024 ∷ [])
unfolding normal spelling prob_bytes probs_bytes
quarter = table-again (3 ∷ 1 ∷ []) 12 (omega arith) (record { some = omega arith; last = omega arith; few = omega arith; used = omega arith; small = omega arith })

-- values below 2 ^ 32
abbrev Small : ℕ → Type 0
Small v = v < 2 ^ 32

none-small : All Small []
none-small = All-nil Small

-- values that are symbols
symbols : Spells (block_at 4 1) (1 ∷ 2 ∷ 2 ∷ 1 ∷ 48 ∷ 1 ∷ 16 ∷ 3 ∷ 0 ∷ 36 ∷ 130 ∷ []) (0 ∷ 1 ∷ 0 ∷ 0 ∷ [])
unfolding block_bytes is_raw raw_bytes tagged_bytes lengths_of counts_of digits_in coded_bytes normal probs_bytes prob_bytes drained end_bytes state_pushed packed low_bits spelling
symbols =
    symbols-again (0 ∷ 1 ∷ 0 ∷ 0 ∷ []) 1 refl (omega arith)
    (All-cons Small 0 (1 ∷ 0 ∷ 0 ∷ []) (omega arith) (All-cons Small 1 (0 ∷ 0 ∷ []) (omega arith) (All-cons Small 0 (0 ∷ []) (omega arith) (All-cons Small 0 [] (omega arith) none-small))))

-- a group of three components
group : Spells (block_at 3 3) (0 ∷ 10 ∷ 35 ∷ 1 ∷ 64 ∷ 1 ∷ 0 ∷ 5 ∷ 0 ∷ 176 ∷ 4 ∷ []) (5 ∷ 0 ∷ 300 ∷ [])
unfolding block_bytes is_raw raw_bytes tagged_bytes lengths_of counts_of digits_in coded_bytes normal probs_bytes prob_bytes drained end_bytes state_pushed packed low_bits spelling
group = symbols-again (5 ∷ 0 ∷ 300 ∷ []) 3 refl (omega arith) (All-cons Small 5 (0 ∷ 300 ∷ []) (omega arith) (All-cons Small 0 (300 ∷ []) (omega arith) (All-cons Small 300 [] (omega arith) none-small)))

-- the greatest number of 32 bits
greatest : Spells (block_at 1 1) (0 ∷ 33 ∷ 127 ∷ 1 ∷ 64 ∷ 1 ∷ 0 ∷ 255 ∷ 255 ∷ 255 ∷ 255 ∷ []) (4294967295 ∷ [])
unfolding block_bytes is_raw raw_bytes tagged_bytes lengths_of counts_of digits_in coded_bytes normal probs_bytes prob_bytes drained end_bytes state_pushed packed low_bits spelling
greatest = symbols-again (4294967295 ∷ []) 1 refl (omega arith) (All-cons Small 4294967295 [] (omega arith) none-small)

no_values : Spells (block_at 0 3) [] []
unfolding block_bytes
no_values = symbols-again [] 3 refl (omega arith) none-small

-- two bits 0, and no bit
zero_bits : IsBlockOf (false ∷ false ∷ []) (255 ∷ 1 ∷ 34 ∷ [])
unfolding block spelling drained end_bytes state_pushed
zero_bits = bits-again (false ∷ false ∷ []) (omega arith)

no_bits : IsBlockOf [] (1 ∷ 1 ∷ 0 ∷ [])
unfolding block spelling drained end_bytes state_pushed
no_bits = bits-again [] (omega arith)
