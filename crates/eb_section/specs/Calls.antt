-- How many table calls the reading of connectivity makes (this project's own): the bounds, and how many symbols and faces a section
-- can give.
use Rattle.std.specs.Prelude.{ℕ, suc, ◌+◌, ◌*◌, ◌==◌, min, cond, if◌then◌else◌, List, length, sum_by, Ok, Err}
use Rattle.drc_base.specs.Steps.{◌>>=◌}
use Rattle.drc_bits.specs.Reading.{Reading, Item, many_at}
use Rattle.corner_table.specs.declared.symbols.Event.{Event}
use Rattle.rans_binary.specs.Blocks.{bit_block_at}
use Rattle.eb_valence.specs.declared.context_lists.TheConstants.{CONTEXTS}
use Rattle.eb_section.specs.declared.opening.Opening.{Opening}
use Rattle.eb_section.specs.Connectivity.{standard_at, list_at}
use Rattle.eb_section.specs.Events.{events_at}
use Rattle.eb_section.specs.Feeding.{Standard}

-- how many table calls a rebuilding with room for so many faces may make: eight for each that is built, three for each where the vertices
-- are labelled, and four where it ends with a fault; none for no face
abbrev pub most_calls : ℕ → ℕ
most_calls faces = cond (faces == 0) 0 (11 * faces + 4)

-- how many faces the opening declares, and none where it has a fault
abbrev pub declared_faces : Item Opening → ℕ
declared_faces (Ok o) = o.0.faces
declared_faces (Err f) = 0

-- how many faces can be built at most of those declared, where so many symbols come: each builds one, and so does each close of a side
abbrev pub faces_from : ℕ → ℕ → ℕ
faces_from faces symbols = min faces (2 * symbols)

-- how many bits the bytes of the symbols have
abbrev pub bit_count : Standard → ℕ
bit_count s = 8 * length s.place.place.bytes

-- how many symbols of those declared can be asked of the bits: each takes one at least, and the one behind the last bit isn't there
abbrev pub symbols_in_bits : ℕ → Item Standard → ℕ
symbols_in_bits symbols (Ok s) = min symbols (suc (bit_count s.0))
symbols_in_bits symbols (Err f) = 0

-- the symbols of each context, behind the start bits and the seam bits
unfoldable pub lists_behind : Opening → Reading → Item (List (List ℕ))
lists_behind o c = do
  starts ← bit_block_at c
  seams ← many_at bit_block_at o.attr_data starts.1
  many_at (list_at o.symbols) CONTEXTS seams.1

-- how many symbols of those declared the lists can give: the first, which isn't in them, and those that are
abbrev pub symbols_in_lists : ℕ → Item (List (List ℕ)) → ℕ
symbols_in_lists symbols (Ok lists) = min symbols (suc (sum_by length lists.0))
symbols_in_lists symbols (Err f) = 0

-- how many symbols can come behind the events; none where a fault comes before them
abbrev pub symbols_behind : Opening → Item (List Event) → ℕ
symbols_behind o (Ok events) =
    if o.valence then symbols_in_lists o.symbols (lists_behind o events.1) else symbols_in_bits o.symbols (standard_at events.1)
symbols_behind o (Err f) = 0

-- how many symbols the section can give, and none where its opening has a fault
abbrev pub symbols_there : Item Opening → ℕ
symbols_there (Ok o) = symbols_behind o.0 (events_at o.0 o.1)
symbols_there (Err f) = 0

-- how many faces can be built of what the section has
abbrev pub faces_there : Item Opening → ℕ
faces_there o = faces_from (declared_faces o) (symbols_there o)
