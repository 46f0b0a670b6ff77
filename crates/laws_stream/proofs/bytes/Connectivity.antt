-- What is written of connectivity is bytes.
use Rattle.std.proofs.Common.{ℕ, ◌-◌, ◌<◌, Bool, true, false, List, [], ◌∷◌, ◌++◌, length, map, count_by, Option, None, Some, arith}
use Rattle.std.specs.Prelude.{if◌then◌else◌}
use Rattle.std.specs.List.{flat_map}
use Rattle.drc_bits.specs.Bits.{AreBits, packed}
use Rattle.drc_bits.specs.Varint.{spelling}
use Rattle.corner_table.specs.declared.symbols.Symbol.{Symbol}
use Rattle.corner_table.specs.declared.symbols.Event.{Event}
use Rattle.rans_binary.specs.Blocks.{block}
use Rattle.symbol_coding.specs.Block.{block_bytes}
use Rattle.seq_section.specs.Packed.{symbols_of}
use Rattle.seq_section.specs.Indices.{index_width, bytes_of_width, index_bytes, face_bytes, indices_opening_bytes, faces_bytes, indices_bytes}
use Rattle.eb_machine.specs.Shown.{is_split}
use Rattle.eb_standard.specs.SymbolBits.{reversed_bits}
use Rattle.eb_valence.specs.Contexts.{context_lists}
use Rattle.eb_trace.specs.declared.tracing.Traced.{Traced}
use Rattle.eb_section.specs.Written.{opening_of, opening_bytes, event_bytes, numbers_bytes, side_bit, events_bytes, standard_bytes, list_bytes, blocks_bytes, standard_behind_bytes, valence_behind_bytes, bytes_behind_events, connectivity_bytes}
use Rattle.eb_section.proofs.WrittenSymbols.{AreBits-symbols}
use Rattle.laws_stream.specs.Laws.{IsByte}
use Rattle.laws_stream.proofs.bytes.Lists.{AreBytes, no-bytes, byte-then, joined, each-of, low, spelled, packed-bytes}
use Rattle.laws_stream.proofs.bytes.Blocks.{block-bytes, symbols-bytes}

-- ---- indices

width-bytes : (o : Option ℕ) (i : ℕ) → AreBytes (bytes_of_width o i)
width-bytes None i = spelled 5 i
width-bytes (Some n) i = low n i

faces-bytes : (packed : Bool) (faces : List (List ℕ)) (points : ℕ) → AreBytes (faces_bytes packed faces points)
faces-bytes true faces points = symbols-bytes (symbols_of faces) 1
faces-bytes false faces points = each-of (face_bytes points) (λ face. each-of (index_bytes points) (width-bytes (index_width points)) face) faces

method-small : (packed : Bool) → (if packed then 0 else 1) < 256
method-small true = omega arith
method-small false = omega arith

pub indices-bytes : (packed : Bool) (faces : List (List ℕ)) (points : ℕ) → AreBytes (indices_bytes packed faces points)
unfolding indices_bytes
indices-bytes packed faces points =
    let method = if packed then 0 else 1 in
    joined (indices_opening_bytes (length faces) points method) (faces_bytes packed faces points)
    (joined (spelling 5 (length faces) ++ spelling 5 points) (method ∷ [])
    (joined (spelling 5 (length faces)) (spelling 5 points) (spelled 5 (length faces)) (spelled 5 points)) (byte-then method [] (method-small packed) no-bytes))
    (faces-bytes packed faces points)

-- ---- the section of a trace

traversal-small : (valence : Bool) → (if valence then 2 else 0) < 256
traversal-small true = omega arith
traversal-small false = omega arith

opening-bytes : (valence : Bool) (faces n : ℕ) (t : Traced) → IsByte n → AreBytes (opening_bytes (opening_of valence faces n t))
unfolding opening_bytes
opening-bytes valence faces n t small =
    let traversal : ℕ = if valence then 2 else 0 in
    let symbols = length t.symbols in
    let splits = count_by is_split t.symbols in
    let front = traversal ∷ spelling 5 t.vertices in
    joined (front ++ spelling 5 faces ++ n ∷ spelling 5 symbols) (spelling 5 splits)
    (joined (front ++ spelling 5 faces) (n ∷ spelling 5 symbols)
    (joined front (spelling 5 faces) (byte-then traversal (spelling 5 t.vertices) (traversal-small valence) (spelled 5 t.vertices)) (spelled 5 faces))
    (byte-then n (spelling 5 symbols) small (spelled 5 symbols))) (spelled 5 splits)

numbers-bytes : (before : ℕ) (events : List Event) → AreBytes (numbers_bytes before events)
unfolding numbers_bytes
numbers-bytes before [] = no-bytes
numbers-bytes before (e ∷ events) =
    joined (event_bytes before e) (numbers_bytes e.source events)
    (joined (spelling 5 (e.source - before)) (spelling 5 (e.source - e.split)) (spelled 5 (e.source - before)) (spelled 5 (e.source - e.split))) (numbers-bytes e.source events)

sides-bits : (events : List Event) → AreBits (map side_bit events)
sides-bits [] = tt
sides-bits (e ∷ events) = (small e.right, sides-bits events)
  where
    small : (b : Bool) → (if b then 1 else 0) < 2
    small true = omega arith
    small false = omega arith

events-bytes : (events : List Event) → AreBytes (events_bytes events)
unfolding events_bytes
events-bytes events =
    joined (spelling 5 (length events) ++ numbers_bytes 0 events) (packed (map side_bit events))
    (joined (spelling 5 (length events)) (numbers_bytes 0 events) (spelled 5 (length events)) (numbers-bytes 0 events)) (packed-bytes (map side_bit events) (sides-bits events))

standard-bytes : (symbols : List Symbol) → AreBytes (standard_bytes symbols)
unfolding standard_bytes
standard-bytes symbols =
    let bits = packed (reversed_bits symbols) in
    joined (spelling 10 (length bits)) bits (spelled 10 (length bits)) (packed-bytes (reversed_bits symbols) (AreBits-symbols symbols))

list-bytes : (numbers : List ℕ) → AreBytes (list_bytes numbers)
list-bytes numbers = joined (spelling 5 (length numbers)) (block_bytes numbers 1) (spelled 5 (length numbers)) (symbols-bytes numbers 1)

standard_behind-bytes : (t : Traced) (seams : List (List Bool)) → AreBytes (standard_behind_bytes t seams)
unfolding standard_behind_bytes
standard_behind-bytes t seams =
    joined (standard_bytes t.symbols ++ block t.starts) (blocks_bytes seams)
    (joined (standard_bytes t.symbols) (block t.starts) (standard-bytes t.symbols) (block-bytes t.starts)) (each-of block block-bytes seams)

valence_behind-bytes : (t : Traced) (seams : List (List Bool)) → AreBytes (valence_behind_bytes t seams)
unfolding valence_behind_bytes
valence_behind-bytes t seams =
    joined (block t.starts ++ blocks_bytes seams) (flat_map list_bytes (context_lists t.symbols t.events))
    (joined (block t.starts) (blocks_bytes seams) (block-bytes t.starts) (each-of block block-bytes seams)) (each-of list_bytes list-bytes (context_lists t.symbols t.events))

behind-bytes : (valence : Bool) (t : Traced) (seams : List (List Bool)) → AreBytes (bytes_behind_events valence t seams)
behind-bytes true t seams = valence_behind-bytes t seams
behind-bytes false t seams = standard_behind-bytes t seams

pub connectivity-bytes : (valence : Bool) (faces : ℕ) (t : Traced) (seams : List (List Bool)) → IsByte (length seams) → AreBytes (connectivity_bytes valence faces t seams)
unfolding connectivity_bytes
connectivity-bytes valence faces t seams few =
    let opening = opening_of valence faces (length seams) t in
    joined (opening_bytes opening ++ events_bytes t.events) (bytes_behind_events valence t seams)
    (joined (opening_bytes opening) (events_bytes t.events) (opening-bytes valence faces (length seams) t few) (events-bytes t.events)) (behind-bytes valence t seams)
