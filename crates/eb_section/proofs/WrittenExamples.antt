-- Sections of worked surfaces, computed.
use Rattle.std.proofs.Common.{◌≡◌, ℕ, Bool, true, false, List, [], ◌∷◌, refl}
use Rattle.drc_bits.specs.Bits.{packed, low_bits}
use Rattle.drc_bits.specs.Varint.{spelling}
use Rattle.corner_table.specs.declared.symbols.Symbol.{Symbol}
use Rattle.corner_table.specs.declared.symbols.Symbol.TheVariants.{C, S, L, R, E}
use Rattle.corner_table.specs.declared.symbols.Event.{Event}
use Rattle.rans_core.specs.Coder.{drained, end_bytes, state_pushed}
use Rattle.rans_binary.specs.Blocks.{block}
use Rattle.corner_table.specs.Fans.{corners_of, leftmost, walks_left, walks_right}
use Rattle.symbol_tables.specs.Tables.{probs_bytes, prob_bytes}
use Rattle.symbol_tables.specs.Normal.{normal}
use Rattle.drc_bits.specs.Digits.{digits_in}
use Rattle.symbol_coding.specs.Symbols.{coded_bytes as coded_symbols, counts_of}
use Rattle.symbol_coding.specs.Block.{block_bytes, is_raw, lengths_of, raw_bytes, tagged_bytes}
use Rattle.eb_machine.specs.Machine.{step, take_symbols, note_events}
use Rattle.eb_valence.specs.Contexts.{coded, context_list}
use Rattle.eb_trace.specs.declared.tracing.Traced.{Traced}
use Rattle.eb_section.specs.Written.{opening_bytes, numbers_bytes, events_bytes, standard_bytes, standard_behind_bytes, valence_behind_bytes, connectivity_bytes}

-- what a walk notes
abbrev noted : ℕ → List Symbol → List Event → List Bool → Traced
noted vertices symbols events starts = record { symbols = symbols; events = events; starts = starts; order = []; vertices = vertices }

-- a tetrahedron
tetrahedron : connectivity_bytes false 4 (noted 4 (C ∷ R ∷ E ∷ []) [] (true ∷ [])) []
    ≡ 0 ∷ 4 ∷ 4 ∷ 0 ∷ 3 ∷ 0 ∷ 0 ∷ 1 ∷ 47 ∷ 1 ∷ 1 ∷ 16 ∷ []
unfolding connectivity_bytes opening_bytes events_bytes numbers_bytes standard_behind_bytes standard_bytes spelling packed low_bits block drained end_bytes state_pushed
tetrahedron = refl

-- a ring with a hole, with a split event
ring : connectivity_bytes false 6 (noted 6 (S ∷ L ∷ R ∷ L ∷ R ∷ E ∷ []) (record { source = 5; split = 0; right = true } ∷ []) (false ∷ [])) []
    ≡ 0 ∷ 6 ∷ 6 ∷ 0 ∷ 6 ∷ 1 ∷ 1 ∷ 5 ∷ 5 ∷ 1 ∷ 3 ∷ 239 ∷ 186 ∷ 0 ∷ 255 ∷ 1 ∷ 17 ∷ []
unfolding connectivity_bytes opening_bytes events_bytes numbers_bytes standard_behind_bytes standard_bytes spelling packed low_bits block drained end_bytes state_pushed
ring = refl

-- two faces with a seam between them
seam : connectivity_bytes false 2 (noted 4 (L ∷ E ∷ []) [] (false ∷ [])) ((true ∷ []) ∷ [])
    ≡ 0 ∷ 4 ∷ 2 ∷ 1 ∷ 2 ∷ 0 ∷ 0 ∷ 1 ∷ 31 ∷ 255 ∷ 1 ∷ 17 ∷ 1 ∷ 1 ∷ 16 ∷ []
unfolding connectivity_bytes opening_bytes events_bytes numbers_bytes standard_behind_bytes standard_bytes spelling packed low_bits block drained end_bytes state_pushed
seam = refl

-- the tetrahedron by valence
by_valence : connectivity_bytes true 4 (noted 4 (C ∷ R ∷ E ∷ []) [] (true ∷ [])) []
    ≡ 2 ∷ 4 ∷ 4 ∷ 0 ∷ 3 ∷ 0 ∷ 0 ∷ 1 ∷ 1 ∷ 16 ∷ 1 ∷ 0 ∷ 3 ∷ 7 ∷ 1 ∷ 64 ∷ 1 ∷ 0 ∷ 3 ∷ 1 ∷ 0 ∷ 2 ∷ 3 ∷ 1 ∷ 64 ∷ 1 ∷ 0 ∷ 0 ∷ 0 ∷ 0 ∷ 0 ∷ 0 ∷ []
unfolding connectivity_bytes opening_bytes events_bytes numbers_bytes valence_behind_bytes spelling packed low_bits block drained end_bytes state_pushed coded context_list step take_symbols note_events corners_of leftmost walks_left walks_right block_bytes is_raw raw_bytes tagged_bytes lengths_of counts_of digits_in coded_symbols normal probs_bytes prob_bytes
by_valence = refl
