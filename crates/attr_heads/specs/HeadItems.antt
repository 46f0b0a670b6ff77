-- What every stream says of an attribute (Draco Bitstream Specification 2.2, section "Attributes Decoder"; the limits and what is
-- refused are this project's choice).
use Rattle.std.specs.Prelude.{ℕ, ◌≤◌, IsTrue, List, ◌∷◌, None, option_map, Ok}
use Rattle.drc_base.specs.declared.kinds.Kind.TheVariants as kind
use Rattle.drc_base.specs.declared.limits.TheConstants.{MAX_COMPONENTS}
use Rattle.drc_base.specs.Steps.{◌>>=◌}
use Rattle.drc_bits.specs.Reading.{Reading, Item, must}
use Rattle.drc_bits.specs.Numbers.{number_at}
use Rattle.drc_bits.specs.Varint.{var32_at, spelling}
use Rattle.attr_heads.specs.declared.heads.Head.{Head}
use Rattle.attr_heads.specs.DataTypes.{is_type}
use Rattle.attr_heads.specs.Usages.{is_usage}
use Rattle.attr_heads.specs.Quants.{are_quant_bits}
use Rattle.attr_heads.specs.Octahedra.{are_octahedral_bits}
use Rattle.attr_heads.specs.Codings.{coded_comps}
use Rattle.attr_heads.specs.Head.{has_comps}

-- the head of an attribute as it stands in a stream; its coding, and what its integers stand for, are read elsewhere
unfoldable pub head_at : Reading → Item Head
head_at c = do
  usage ← must kind.AttrType is_usage (number_at 1) c
  dtype ← must kind.DataType is_type (number_at 1) usage.1
  comps ← must kind.Components has_comps (number_at 1) dtype.1
  normalized ← number_at 1 comps.1
  id ← var32_at normalized.1
  Ok (record { usage = usage.0; dtype = dtype.0; comps = comps.0; normalized = normalized.0; id = id.0; quant = None; octa = None }, id.1)

-- the bytes of a head
abbrev pub head_bytes : Head → List ℕ
head_bytes h = h.usage ∷ h.dtype ∷ coded_comps h ∷ h.normalized ∷ spelling 5 h.id

-- a head as it stands in a stream, before its coding
abbrev pub stream_head : Head → Head
stream_head h = record h { comps = coded_comps h; quant = None; octa = None }

-- a head before what stands at its decoder's end
abbrev pub bare_head : Head → Head
bare_head h = record h { quant = None; octa = option_map (λ _. 0) h.octa }

-- a head that is accepted
pub record HeadPasses (h : Head) : Type 0 where
  pub usage : h.usage ≤ 4
  pub dtype : IsTrue (is_type h.dtype)
  pub some : 1 ≤ h.comps
  pub few : h.comps ≤ MAX_COMPONENTS

-- how many bits quantised integers have
abbrev pub quant_bits_at : Reading → Item ℕ
quant_bits_at c = must kind.QuantBits are_quant_bits (number_at 1) c

-- how many bits the coordinates of a square have
abbrev pub square_bits_at : Reading → Item ℕ
square_bits_at c = must kind.QuantBits are_octahedral_bits (number_at 1) c
