-- Worked examples, computed.
use Rattle.std.proofs.Common.{◌≡◌, [], ◌∷◌, Ok, refl}
use Rattle.drc_bits.specs.Reading.{start_of, many_at}
use Rattle.drc_bits.specs.Bits.{bits_of, low_bits, packed}
use Rattle.drc_bits.specs.Varint.{spelling, varint}
use Rattle.rans_core.specs.Coder.{drained, end_bytes, state_pushed}
use Rattle.symbol_tables.specs.Tables.{table_at, probs_at, probs_bytes, prob_bytes}
use Rattle.symbol_tables.specs.Normal.{normal}
use Rattle.drc_bits.specs.Digits.{digits_in}
use Rattle.symbol_coding.specs.Symbols.{coded_at, coded_bytes, counts_of, next_symbols}
use Rattle.symbol_coding.specs.Block.{block_at, block_bytes, is_raw, lengths_of, raw_at, raw_bytes, tagged_at, tagged_bytes, values_in_groups}

four : block_bytes (0 ∷ 1 ∷ 0 ∷ 0 ∷ []) 1 ≡ 1 ∷ 2 ∷ 2 ∷ 1 ∷ 48 ∷ 1 ∷ 16 ∷ 3 ∷ 0 ∷ 36 ∷ 130 ∷ []
unfolding block_bytes is_raw raw_bytes tagged_bytes lengths_of counts_of digits_in coded_bytes normal probs_bytes prob_bytes drained end_bytes state_pushed packed low_bits spelling
four = refl

three : block_bytes (5 ∷ 0 ∷ 300 ∷ []) 3 ≡ 0 ∷ 10 ∷ 35 ∷ 1 ∷ 64 ∷ 1 ∷ 0 ∷ 5 ∷ 0 ∷ 176 ∷ 4 ∷ []
unfolding block_bytes is_raw raw_bytes tagged_bytes lengths_of counts_of digits_in coded_bytes normal probs_bytes prob_bytes drained end_bytes state_pushed packed low_bits spelling
three = refl

zeros : block_bytes (0 ∷ 0 ∷ 0 ∷ 0 ∷ 0 ∷ 0 ∷ 0 ∷ 0 ∷ 0 ∷ []) 3 ≡ 1 ∷ 1 ∷ 1 ∷ 1 ∷ 64 ∷ 1 ∷ 0 ∷ []
unfolding block_bytes is_raw raw_bytes tagged_bytes lengths_of counts_of digits_in coded_bytes normal probs_bytes prob_bytes drained end_bytes state_pushed packed low_bits spelling
zeros = refl

four_again : block_at 4 1 (start_of (1 ∷ 2 ∷ 2 ∷ 1 ∷ 48 ∷ 1 ∷ 16 ∷ 3 ∷ 0 ∷ 36 ∷ 130 ∷ [])) ≡ Ok (0 ∷ 1 ∷ 0 ∷ 0 ∷ [], record { place = 11; rest = [] })
unfolding block_at raw_at tagged_at values_in_groups coded_at next_symbols table_at probs_at varint many_at
four_again = refl

three_again : block_at 3 3 (start_of (0 ∷ 10 ∷ 35 ∷ 1 ∷ 64 ∷ 1 ∷ 0 ∷ 5 ∷ 0 ∷ 176 ∷ 4 ∷ 7 ∷ [])) ≡ Ok (5 ∷ 0 ∷ 300 ∷ [], record { place = 11; rest = 7 ∷ [] })
unfolding block_at raw_at tagged_at values_in_groups coded_at next_symbols table_at probs_at varint many_at bits_of low_bits
three_again = refl
