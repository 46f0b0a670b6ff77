-- The codings of attributes in a stream, each by its row of one table (Draco Bitstream Specification 2.2, section "Sequential
-- Attributes"; since which profile a coding is read is this project's choice).
use Rattle.std.specs.Prelude.{ℕ, ◌==◌, ◌&&◌, Bool, true, false, List, [], ◌∷◌, find, Option, None, Some, if◌then◌else◌}
use Rattle.drc_base.specs.declared.kinds.Kind.TheVariants as kind
use Rattle.attr_heads.specs.declared.codings.AtEnd.{AtEnd}
use Rattle.attr_heads.specs.declared.codings.AtEnd.TheVariants as end
use Rattle.attr_heads.specs.declared.codings.CodingFacts.{CodingFacts}
use Rattle.attr_heads.specs.declared.codings.FixedComponents.{FixedComponents}
use Rattle.attr_heads.specs.declared.codings.Coding.{Coding}
use Rattle.attr_heads.specs.declared.codings.Coding.TheVariants.{Generic, Integer, Quantised, Octahedral}
use Rattle.attr_heads.specs.declared.codings.TheConstants.{NEVER}
use Rattle.attr_heads.specs.declared.octahedra.TheConstants.{OCTAHEDRAL_COMPONENTS, OCTAHEDRAL_INTEGERS, OCTAHEDRAL_SINCE}
use Rattle.attr_heads.specs.declared.heads.Head.{Head}
use Rattle.attr_heads.specs.DataTypes.{is_float, is_integer}

-- the components of an octahedral head: in a stream, and as the integers of a point
abbrev pub octahedral_components : FixedComponents
octahedral_components = record { coded = OCTAHEDRAL_COMPONENTS; integers = OCTAHEDRAL_INTEGERS }

-- what is known of a coding: its byte, whether it codes floats, its components where it fixes them, the byte of its transform of
-- corrections, what stands at the end of its decoder, the first profile that has it, and what refuses it before
abbrev pub coding_facts : Coding → CodingFacts
coding_facts Generic = record {
  byte = 0;
  float = true;
  fixed = None;
  transform = 0;
  at_end = end.Nothing;
  since = NEVER;
  refused_as = kind.Generic;
}
coding_facts Integer = record {
  byte = 1;
  float = false;
  fixed = None;
  transform = 1;
  at_end = end.Nothing;
  since = 1;
  refused_as = kind.Coding;
}
coding_facts Quantised = record {
  byte = 2;
  float = true;
  fixed = None;
  transform = 1;
  at_end = end.Quantisation;
  since = 1;
  refused_as = kind.Coding;
}
coding_facts Octahedral = record {
  byte = 3;
  float = true;
  fixed = Some octahedral_components;
  transform = 3;
  at_end = end.SquareBits;
  since = OCTAHEDRAL_SINCE;
  refused_as = kind.Octahedral;
}

-- all codings
abbrev pub codings : List Coding
codings = Generic ∷ Integer ∷ Quantised ∷ Octahedral ∷ []

-- the coding of a byte, where there is one
abbrev pub coding_of : ℕ → Option Coding
coding_of byte = find (λ q. (coding_facts q).byte == byte) codings

-- whether a coding codes a data type: floats or integers
abbrev pub codes_type : Coding → ℕ → Bool
codes_type q dtype = if (coding_facts q).float then is_float dtype else is_integer dtype

-- whether a head has the components that are fixed, where they are
abbrev pub has_fixed : Option FixedComponents → ℕ → Bool
has_fixed None comps = true
has_fixed (Some f) comps = f.coded == comps

-- whether a coding goes with a head as it stands in a stream
abbrev pub goes_with : Coding → Head → Bool
goes_with q h = codes_type q h.dtype && has_fixed (coding_facts q).fixed h.comps

-- the integers of a point under components that may be fixed, and the components that a stream says for them
abbrev pub integers_under : Option FixedComponents → ℕ → ℕ
integers_under None comps = comps
integers_under (Some f) comps = f.integers

abbrev pub coded_under : Option FixedComponents → ℕ → ℕ
coded_under None comps = comps
coded_under (Some f) comps = f.coded

-- the bits of a square that stand at a decoder's end: 0 until they are read
abbrev pub unread_bits : AtEnd → Option ℕ
unread_bits end.Nothing = None
unread_bits end.Quantisation = None
unread_bits end.SquareBits = Some 0

-- the head of an attribute of this coding, from the head as it stands in a stream; what stands at the decoder's end isn't read yet
abbrev pub coded : Coding → Head → Head
coded q h = record h { comps = integers_under (coding_facts q).fixed h.comps; quant = None; octa = unread_bits (coding_facts q).at_end }

-- the coding of the attributes of a data type that have no square: floats are quantised
abbrev pub type_coding : ℕ → Coding
type_coding dtype = if is_float dtype then Quantised else Integer

-- the coding of a head's attribute
abbrev pub coding_under : ℕ → Option ℕ → Coding
coding_under dtype None = type_coding dtype
coding_under dtype (Some bits) = Octahedral

abbrev pub head_coding : Head → Coding
head_coding h = coding_under h.dtype h.octa

-- its byte
abbrev pub coding_byte : Head → ℕ
coding_byte h = (coding_facts (head_coding h)).byte

-- the components that a stream says for a head
abbrev pub coded_comps : Head → ℕ
coded_comps h = coded_under (coding_facts (head_coding h)).fixed h.comps
