-- The heads of attributes as C has them, and the heads that they mean (this project's choice).
use Rattle.std.specs.Prelude.{ℕ, ◌==◌, ◌&&◌, Bool, List, ◌++◌, map, replicate, take, drop, length, min, Option, None, Some, if◌then◌else◌}
use Rattle.attr_heads.specs.declared.quants.Quant.{Quant}
use Rattle.attr_heads.specs.DataTypes.{is_float}
use Rattle.attr_heads.specs.declared.heads.Head.{Head}
use Rattle.drc_c.specs.declared.heads.DrcHead.{DrcHead}
use Rattle.drc_c.specs.Arrays.{put_front}

-- a head of zeros
unfoldable pub blank_head : DrcHead
blank_head = record {
  usage = 0;
  dtype = 0;
  comps = 0;
  normalized = 0;
  id = 0;
  bits = 0;
  octahedral_bits = 0;
  spare = 0;
  range = 0;
  min = replicate 8 0;
}

-- the bits of a quantisation; 0 without one
abbrev pub bits_told : Option Quant → ℕ
bits_told None = 0
bits_told (Some q) = q.bits

-- the bits of a square; 0 without one
abbrev pub octahedral_bits_told : Option ℕ → ℕ
octahedral_bits_told None = 0
octahedral_bits_told (Some bits) = bits

-- the bit pattern of the range of a quantisation; 0 without one
abbrev pub range_told : Option Quant → ℕ
range_told None = 0
range_told (Some q) = q.range

-- the bit patterns of the minima of a quantisation; 0 behind them, and without one
unfoldable pub minima_told : Option Quant → List ℕ
minima_told None = replicate 8 0
minima_told (Some q) = put_front q.min (replicate 8 0)

-- a head as C has it
abbrev pub head_told : Head → DrcHead
head_told h = record {
  usage = h.usage;
  dtype = h.dtype;
  comps = h.comps;
  normalized = h.normalized;
  id = h.id;
  bits = bits_told h.quant;
  octahedral_bits = octahedral_bits_told h.octa;
  spare = 0;
  range = range_told h.quant;
  min = minima_told h.quant;
}

-- the heads of a geometry as C has them: sixteen, the last of which are blank
unfoldable pub heads_told : List Head → List DrcHead
heads_told heads = map head_told heads ++ drop (length heads) (replicate 16 blank_head)

-- the quantisation of a head of C: a minimum for each component
abbrev pub quant_meant : DrcHead → Quant
quant_meant h = record { bits = h.bits; range = h.range; min = take (min h.comps 8) h.min }

-- the bits of the square of a head of C: there is one where they aren't 0
abbrev pub octa_meant : ℕ → Option ℕ
octa_meant bits = if bits == 0 then None else Some bits

-- the quantisation that a head of C means: floats without a square have one
abbrev pub quant_under : Bool → DrcHead → Option Quant
quant_under quantised h = if quantised then Some (quant_meant h) else None

-- the head that a head of C means: it has a square exactly where the bits of one aren't 0, and a quantisation exactly where its
-- data type is that of floats and it has no square
abbrev pub head_meant : DrcHead → Head
head_meant h = record {
  usage = h.usage;
  dtype = h.dtype;
  comps = h.comps;
  normalized = h.normalized;
  id = h.id;
  quant = quant_under (is_float h.dtype && h.octahedral_bits == 0) h;
  octa = octa_meant h.octahedral_bits;
}
