-- Worked examples of tables, computed.
use Rattle.std.proofs.Common.{◌≡◌, [], ◌∷◌, Ok, Err, refl}
use Rattle.drc_base.specs.declared.kinds.Kind.TheVariants as kind
use Rattle.drc_bits.specs.Reading.{start_of, many_at}
use Rattle.drc_bits.specs.Varint.{spelling, varint}
use Rattle.symbol_tables.specs.Tables.{symbol_of, prob_bytes, probs_at, probs_bytes, table_at, table_bytes}
use Rattle.symbol_tables.specs.Spellings.{bytes_of, probs_of, slots, zeros}
use Rattle.symbol_tables.specs.Normal.{normal}

-- three zeros and a one in 4096 slots
quarter : normal (3 ∷ 1 ∷ []) 12 ≡ 3072 ∷ 1024 ∷ []
unfolding normal
quarter = refl

-- what is left goes to the first of the most frequent symbols
thirds : normal (1 ∷ 0 ∷ 1 ∷ 1 ∷ []) 12 ≡ 1366 ∷ 0 ∷ 1365 ∷ 1365 ∷ []
unfolding normal
thirds = refl

spelled : table_bytes (3072 ∷ 1024 ∷ []) ≡ 2 ∷ 1 ∷ 48 ∷ 1 ∷ 16 ∷ []
unfolding spelling prob_bytes probs_bytes
spelled = refl

-- a run of two zeros before a symbol with all slots
run : table_bytes (0 ∷ 0 ∷ 4096 ∷ []) ≡ 3 ∷ 7 ∷ 1 ∷ 64 ∷ []
unfolding spelling prob_bytes probs_bytes
run = refl

third_slot : symbol_of (3072 ∷ 0 ∷ 1024 ∷ []) 3072 ≡ 2
third_slot = refl

-- one symbol with all slots, a run that passes the end, a sum that isn't whole, and no symbol
whole : table_at 12 (start_of (1 ∷ 1 ∷ 64 ∷ [])) ≡ Ok (4096 ∷ [], record { place = 3; rest = [] })
unfolding table_at probs_at many_at varint
whole = refl

passed : table_at 12 (start_of (1 ∷ 7 ∷ [])) ≡ Err (record { kind = kind.Run; at = 1 })
unfolding table_at probs_at many_at varint
passed = refl

not_whole : table_at 12 (start_of (1 ∷ 0 ∷ [])) ≡ Err (record { kind = kind.Sum; at = 0 })
unfolding table_at probs_at many_at varint
not_whole = refl

no_symbol : table_at 12 (start_of (0 ∷ [])) ≡ Err (record { kind = kind.EmptyTable; at = 0 })
unfolding table_at probs_at many_at varint
no_symbol = refl

-- entries: a run of three zeros, a probability with one byte above its low six bits, and one with none
three_entries : bytes_of (zeros 2 ∷ slots 5 (2 ∷ []) ∷ slots 7 [] ∷ []) ≡ 11 ∷ 21 ∷ 2 ∷ 28 ∷ []
three_entries = refl

three_told : probs_of (zeros 2 ∷ slots 5 (2 ∷ []) ∷ slots 7 [] ∷ []) ≡ 0 ∷ 0 ∷ 0 ∷ 133 ∷ 7 ∷ []
three_told = refl

-- a spelling that isn't the shortest: a run of one zero, and one more
two_runs : probs_at 3 0 (start_of (3 ∷ 3 ∷ 28 ∷ [])) ≡ Ok (0 ∷ 0 ∷ 7 ∷ [], record { place = 3; rest = [] })
unfolding probs_at many_at
two_runs = refl
