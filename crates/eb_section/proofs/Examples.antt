-- The section of worked surfaces, computed by its definition.
use Rattle.std.specs.Prelude.{◌≡◌, ℕ, ◌+◌, ◌*◌, List, [], ◌∷◌, map, Some, None, Ok, Err, refl}
use Rattle.drc_base.specs.declared.kinds.Kind.TheVariants as kind
use Rattle.drc_base.specs.Profile.{profile}
use Rattle.drc_bits.specs.Reading.{Item, start_of, many_at, chain_at}
use Rattle.drc_bits.specs.Bits.{bits_of, low_bits}
use Rattle.drc_bits.specs.Varint.{varint}
use Rattle.corner_table.specs.Sides.{Side, Place, first, second, third}
use Rattle.corner_table.specs.Fans.{corners_of, leftmost, walks_left, walks_right}
use Rattle.rans_binary.specs.Blocks.{bit_block_at}
use Rattle.symbol_tables.specs.Tables.{table_at, probs_at}
use Rattle.symbol_coding.specs.Symbols.{coded_at, next_symbols}
use Rattle.symbol_coding.specs.Block.{tagged_at, values_in_groups, block_at as symbols_at}
use Rattle.eb_machine.specs.Machine.{step, note_events, close, close_all, finish, first_degenerate}
use Rattle.eb_section.specs.Opening.{opening_at}
use Rattle.eb_section.specs.Events.{numbers_at, events_at}
use Rattle.eb_section.specs.Feeding.{fed, rebuilt}
use Rattle.eb_section.specs.Connectivity.{Connectivity, standard_at, standard_behind, valence_behind, list_at, behind_at, connectivity_at}

-- what is read, as numbers: faces, symbols, splits, events, attribute data, and where reading then stands
numbers : Item Connectivity → List ℕ
numbers (Ok x) = x.0.faces ∷ x.0.symbols ∷ x.0.splits ∷ x.0.events ∷ x.0.attr_data ∷ x.1.place ∷ []
numbers (Err f) = []

place_number : Place → ℕ
place_number first = 0
place_number second = 1
place_number third = 2

-- the number of the side that one is glued to, and more than all for a free side
entry : Connectivity → Side → ℕ
entry x c = elim (x.glued c) [ None ↦ 3 * x.faces | Some y ↦ 3 * y.face + place_number y.place ]

-- the entries of all sides
entries : Item Connectivity → List ℕ
entries (Ok x) = map (entry x.0) (corners_of x.0.faces)
entries (Err f) = []

-- a tetrahedron: three symbols, and an interior start face
tetrahedron : numbers (connectivity_at profile (start_of (0 ∷ 4 ∷ 4 ∷ 0 ∷ 3 ∷ 0 ∷ 0 ∷ 1 ∷ 47 ∷ 1 ∷ 1 ∷ 16 ∷ 1 ∷ []))) ≡ 4 ∷ 3 ∷ 0 ∷ 0 ∷ 0 ∷ 12 ∷ []
unfolding numbers connectivity_at opening_at behind_at events_at numbers_at standard_behind standard_at bit_block_at many_at chain_at varint bits_of low_bits rebuilt fed step note_events close close_all finish first_degenerate corners_of leftmost walks_left walks_right
tetrahedron = refl

tetrahedron_entries : entries (connectivity_at profile (start_of (0 ∷ 4 ∷ 4 ∷ 0 ∷ 3 ∷ 0 ∷ 0 ∷ 1 ∷ 47 ∷ 1 ∷ 1 ∷ 16 ∷ []))) ≡ 5 ∷ 10 ∷ 8 ∷ 7 ∷ 11 ∷ 0 ∷ 9 ∷ 3 ∷ 2 ∷ 6 ∷ 1 ∷ 4 ∷ []
unfolding place_number entry entries connectivity_at opening_at behind_at events_at numbers_at standard_behind standard_at bit_block_at many_at chain_at varint bits_of low_bits rebuilt fed step note_events close close_all finish first_degenerate corners_of leftmost walks_left walks_right
tetrahedron_entries = refl

-- a ring with a hole, which has a split and an event of a right side
ring : numbers (connectivity_at profile (start_of (0 ∷ 6 ∷ 6 ∷ 0 ∷ 6 ∷ 1 ∷ 1 ∷ 5 ∷ 5 ∷ 1 ∷ 3 ∷ 239 ∷ 186 ∷ 0 ∷ 255 ∷ 1 ∷ 17 ∷ []))) ≡ 6 ∷ 6 ∷ 1 ∷ 1 ∷ 0 ∷ 17 ∷ []
unfolding numbers connectivity_at opening_at behind_at events_at numbers_at standard_behind standard_at bit_block_at many_at chain_at varint bits_of low_bits rebuilt fed step note_events close close_all finish first_degenerate corners_of leftmost walks_left walks_right
ring = refl

-- the same tetrahedron by contexts
by_valence : numbers (connectivity_at profile (start_of (2 ∷ 4 ∷ 4 ∷ 0 ∷ 3 ∷ 0 ∷ 0 ∷ 1 ∷ 1 ∷ 16 ∷ 1 ∷ 0 ∷ 3 ∷ 7 ∷ 1 ∷ 64 ∷ 1 ∷ 0 ∷ 3 ∷ 1 ∷ 0 ∷ 2 ∷ 3 ∷ 1 ∷ 64 ∷ 1 ∷ 0 ∷ 0 ∷ 0 ∷ 0 ∷ 0 ∷ 0 ∷ []))) ≡ 4 ∷ 3 ∷ 0 ∷ 0 ∷ 0 ∷ 32 ∷ []
unfolding numbers connectivity_at opening_at behind_at events_at numbers_at standard_behind standard_at bit_block_at many_at chain_at varint bits_of low_bits rebuilt fed step note_events close close_all finish first_degenerate corners_of leftmost walks_left walks_right valence_behind list_at symbols_at tagged_at values_in_groups table_at probs_at coded_at next_symbols
by_valence = refl

-- two corners of the third face are one vertex
degenerate : connectivity_at profile (start_of (0 ∷ 3 ∷ 3 ∷ 0 ∷ 3 ∷ 0 ∷ 0 ∷ 1 ∷ 7 ∷ 255 ∷ 1 ∷ 17 ∷ [])) ≡ Err (record { kind = kind.Degenerate; at = 2 })
unfolding connectivity_at opening_at behind_at events_at numbers_at standard_behind standard_at bit_block_at many_at chain_at varint bits_of low_bits rebuilt fed step note_events close close_all finish first_degenerate corners_of leftmost walks_left walks_right
degenerate = refl
