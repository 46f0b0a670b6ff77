-- The connectivity of an Edgebreaker mesh (Rossignac 1999; Isenburg and Snoeyink 2001; Draco Bitstream Specification 2.2, section
-- "Edgebreaker Connectivity"; the limits and what is refused are this project's choice).
use Rattle.std.specs.Prelude.{ℕ, Bool, false, List, length, reverse, Ok, nat_le, if◌then◌else◌}
use Rattle.drc_base.specs.declared.kinds.Kind.TheVariants as kind
use Rattle.drc_base.specs.Profile.{Profile}
use Rattle.drc_base.specs.Steps.{◌>>=◌}
use Rattle.drc_bits.specs.Reading.{Reading, Item, must, many_at, bytes_at}
use Rattle.drc_bits.specs.Varint.{var32_at, var64_at}
use Rattle.corner_table.specs.declared.symbols.Event.{Event}
use Rattle.corner_table.specs.Sides.{Gluing}
use Rattle.corner_table.specs.Table.{gluing_of}
use Rattle.rans_binary.specs.Blocks.{Block, bit_block_at}
use Rattle.symbol_coding.specs.Block.{block_at as symbols_at}
use Rattle.eb_machine.specs.Machine.{State, start}
use Rattle.eb_valence.specs.declared.context_lists.TheConstants.{CONTEXTS}
use Rattle.eb_valence.specs.Contexts.{symbol_at}
use Rattle.eb_section.specs.declared.opening.Opening.{Opening}
use Rattle.eb_section.specs.declared.reading.EbRead.{EbRead}
use Rattle.eb_section.specs.Opening.{opening_at, plan_of}
use Rattle.eb_section.specs.Events.{event_count_at, events_at}
use Rattle.eb_section.specs.Feeding.{Standard, standard, rebuilt}

-- what the section says: how many faces there are and how their sides are glued, in the order of decoding; the blocks of seam bits, one for
-- each attribute data; and the declared numbers of symbols and splits, and that of events
pub record Connectivity : Type 0 where
  pub faces : ℕ
  pub glued : Gluing
  pub valence : Bool
  pub attr_data : ℕ
  pub seams : List Block
  pub symbols : ℕ
  pub splits : ℕ
  pub events : ℕ

-- what was read, as the section says it: the surface is that of the table
abbrev pub meaning : EbRead → Connectivity
meaning r = record {
  faces = r.sides.table.faces;
  glued = gluing_of r.sides.table;
  valence = r.valence;
  attr_data = r.attr_data;
  seams = r.seams;
  symbols = r.symbols;
  splits = r.splits;
  events = r.events;
}

-- the section whose machine ended in this state
abbrev pub section_of : Opening → List Event → List Block → State → Connectivity
section_of o events seams s = record {
  faces = s.built;
  glued = s.glued;
  valence = o.valence;
  attr_data = o.attr_data;
  seams = seams;
  symbols = o.symbols;
  splits = o.splits;
  events = length events;
}

-- the symbols of the standard traversal: how many bytes they have, and those; where the bits of a symbol aren't there, it is Short at the
-- first of these bytes
unfoldable pub standard_at : Reading → Item Standard
standard_at c = do
  size ← var64_at c
  coded ← bytes_at size.0 size.1
  Ok (
    record {
      short = record { kind = kind.Short; at = size.1.place };
      place = record { place = record { bytes = coded.0; taken = 0 }; begun = false };
    },
    coded.1,
  )

-- the symbols of one context of the valence traversal: how many there are, and those
unfoldable pub list_at : ℕ → Reading → Item (List ℕ)
list_at symbols c = do
  count ← must kind.Count (λ n. nat_le n symbols) var32_at c
  symbols_at count.0 1 count.1

-- the section behind its events, standard: the symbols, the start bits, the seam bits of each attribute data; and the machine's surface
unfoldable pub standard_behind : Opening → List Event → Reading → Item Connectivity
standard_behind o events c = do
  source ← standard_at c
  starts ← bit_block_at source.1
  seams ← many_at bit_block_at o.attr_data starts.1
  s ← rebuilt standard (plan_of o) source.0 starts.0 (start (reverse events))
  Ok (section_of o events seams.0 s, seams.1)

-- the section behind its events, valence: the start bits, the seam bits, the symbols of each context; and the machine's surface
unfoldable pub valence_behind : Opening → List Event → Reading → Item Connectivity
valence_behind o events c = do
  starts ← bit_block_at c
  seams ← many_at bit_block_at o.attr_data starts.1
  lists ← many_at (list_at o.symbols) CONTEXTS seams.1
  s ← rebuilt symbol_at (plan_of o) lists.0 starts.0 (start (reverse events))
  Ok (section_of o events seams.0 s, lists.1)

-- the section behind its opening
unfoldable pub behind_at : Opening → Reading → Item Connectivity
behind_at o c = do
  events ← events_at o c
  if o.valence then valence_behind o events.0 events.1 else standard_behind o events.0 events.1

-- the opening of the section and the number of its events: what is read before any memory is taken
unfoldable pub declared_at : Profile → Reading → Item ℕ
declared_at p c = do
  o ← opening_at p c
  event_count_at o.0.faces o.1

-- the section in a profile
unfoldable pub connectivity_at : Profile → Reading → Item Connectivity
connectivity_at p c = do
  o ← opening_at p c
  behind_at o.0 o.1
