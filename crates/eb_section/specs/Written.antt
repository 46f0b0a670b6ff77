-- The bytes of Edgebreaker connectivity (Draco Bitstream Specification 2.2, section "Edgebreaker Connectivity"; which of the allowed
-- spellings is written is this project's choice).
use Rattle.std.specs.Prelude.{ℕ, ◌-◌, Bool, List, [], ◌∷◌, ◌++◌, length, map, count_by, flat_map, if◌then◌else◌}
use Rattle.drc_bits.specs.Bits.{packed}
use Rattle.drc_bits.specs.Varint.{spelling}
use Rattle.corner_table.specs.declared.symbols.Symbol.{Symbol}
use Rattle.corner_table.specs.declared.symbols.Event.{Event}
use Rattle.rans_binary.specs.Blocks.{block}
use Rattle.symbol_coding.specs.Block.{block_bytes}
use Rattle.eb_machine.specs.Shown.{is_split}
use Rattle.eb_standard.specs.SymbolBits.{reversed_bits}
use Rattle.eb_valence.specs.Contexts.{context_lists}
use Rattle.eb_trace.specs.declared.tracing.Traced.{Traced}
use Rattle.eb_section.specs.declared.opening.Opening.{Opening}

-- what is declared of a trace of so many faces, with seam bits of so many attribute data
abbrev pub opening_of : Bool → ℕ → ℕ → Traced → Opening
opening_of valence faces attr_data t = record {
  valence = valence;
  vertices = t.vertices;
  faces = faces;
  attr_data = attr_data;
  symbols = length t.symbols;
  splits = count_by is_split t.symbols;
}

-- the opening
unfoldable pub opening_bytes : Opening → List ℕ
opening_bytes o =
    (if o.valence then 2 else 0) ∷ spelling 5 o.vertices ++ spelling 5 o.faces
    ++ o.attr_data ∷ spelling 5 o.symbols ++ spelling 5 o.splits

-- the numbers of an event behind one of this source: how far its source is from that, and how far its split lies before its source
abbrev pub event_bytes : ℕ → Event → List ℕ
event_bytes before e = spelling 5 (e.source - before) ++ spelling 5 (e.source - e.split)

-- the numbers of events behind one of this source
unfoldable pub numbers_bytes : ℕ → List Event → List ℕ
numbers_bytes before [] = []
numbers_bytes before (e ∷ events) = event_bytes before e ++ numbers_bytes e.source events

-- the bit of a side
abbrev pub side_bit : Event → ℕ
side_bit e = if e.right then 1 else 0

-- events: their number, the numbers of each, and a bit for each
unfoldable pub events_bytes : List Event → List ℕ
events_bytes events = spelling 5 (length events) ++ numbers_bytes 0 events ++ packed (map side_bit events)

-- the symbols of the standard traversal, the last first: how many bytes their bits have, and those
unfoldable pub standard_bytes : List Symbol → List ℕ
standard_bytes symbols = spelling 10 (length (packed (reversed_bits symbols))) ++ packed (reversed_bits symbols)

-- the symbols of one context: how many there are, and those
abbrev pub list_bytes : List ℕ → List ℕ
list_bytes numbers = spelling 5 (length numbers) ++ block_bytes numbers 1

-- blocks of bits, one after another: of start bits, or of seam bits
abbrev pub blocks_bytes : List (List Bool) → List ℕ
blocks_bytes lists = flat_map block lists

-- the symbols, start bits and seam bits of the standard traversal
unfoldable pub standard_behind_bytes : Traced → List (List Bool) → List ℕ
standard_behind_bytes t seams = standard_bytes t.symbols ++ block t.starts ++ blocks_bytes seams

-- the start bits and seam bits of the valence traversal, and the symbols by contexts
unfoldable pub valence_behind_bytes : Traced → List (List Bool) → List ℕ
valence_behind_bytes t seams = block t.starts ++ blocks_bytes seams ++ flat_map list_bytes (context_lists t.symbols t.events)

-- what lies behind the events
abbrev pub bytes_behind_events : Bool → Traced → List (List Bool) → List ℕ
bytes_behind_events valence t seams = if valence then valence_behind_bytes t seams else standard_behind_bytes t seams

-- the section of a trace of so many faces, with these lists of seam bits
unfoldable pub connectivity_bytes : Bool → ℕ → Traced → List (List Bool) → List ℕ
connectivity_bytes valence faces t seams =
    opening_bytes (opening_of valence faces (length seams) t) ++ events_bytes t.events ++ bytes_behind_events valence t seams
