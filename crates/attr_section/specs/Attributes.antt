-- The values of the attributes of a decoder, and what stands at its end (Draco Bitstream Specification 2.2, sections "Sequential
-- Attributes" and "Quantization"; the limits and what is refused are this project's choice). The values of a decoder stand on its ordered
-- surface, where there is one: there is none in a sequential stream.
use Rattle.std.specs.Prelude.{◌≡◌, ℕ, ◌+◌, ◌*◌, ℤ, pos, List, [], ◌∷◌}
use Rattle.std.specs.Prelude.{length, map, Option, None, Some, is_some, Ok, Err, sum_by, nat_le, get_or, if◌then◌else◌}
use Rattle.std.specs.List.{list_all}
use Rattle.std.specs.Int.{w8, cast_signed}
use Rattle.drc_base.specs.declared.kinds.Kind.TheVariants as kind
use Rattle.drc_base.specs.Profile.{Profile}
use Rattle.drc_base.specs.Steps.{◌>>=◌}
use Rattle.drc_bits.specs.Reading.{Reading, Item, many_at, fault_at}
use Rattle.drc_bits.specs.Numbers.{number_at}
use Rattle.attr_heads.specs.declared.heads.Head.{Head}
use Rattle.attr_heads.specs.declared.quants.Quant.{Quant}
use Rattle.attr_heads.specs.DataTypes.{is_float}
use Rattle.attr_heads.specs.Bounds.{in_bounds, type_bounds}
use Rattle.attr_heads.specs.Octahedra.{square_bounds}
use Rattle.attr_heads.specs.HeadItems.{quant_bits_at, square_bits_at}
use Rattle.predict.specs.Schemes.{code_of}
use Rattle.corner_table.specs.Ordered.{Ordered}
use Rattle.attr_section.specs.declared.decoder_heads.DecoderHead.{DecoderHead}
use Rattle.attr_section.specs.declared.values.Values.{Values}
use Rattle.attr_section.specs.declared.textured.TheConstants.{TEXTURE_PREDICTION}
use Rattle.attr_section.specs.Each.{each_at}
use Rattle.attr_section.specs.Positions.{PositionsRead, with_attributes}
use Rattle.attr_section.specs.Values.{prediction_at, predicted_at}
use Rattle.attr_section.specs.Textured.{is_textured, textured_at}
use Rattle.attr_section.specs.Squared.{square_facts, square_prediction_at, square_predicted_at}

-- values of this prediction number, whose byte stood at this place, each of which is in its data type
abbrev pub typed_at : ℕ → ℤ → ℕ → List ℤ × Reading → Item Values
typed_at dtype code at (values, after) =
    if list_all (in_bounds (type_bounds dtype)) values
    then Ok (record { values = values; predict = code; at = at }, after)
    else Err (record { kind = kind.ValueRange; at = at })

-- n values of an attribute, whose components are predicted one by one
unfoldable pub plain_typed_at : Profile → Option Ordered → Head → ℕ → Reading → Item Values
plain_typed_at p w h n c = do
  predict ← prediction_at p c
  values ← predicted_at c.place w predict.0 h.comps n predict.1
  typed_at h.dtype (code_of predict.0) c.place values

-- n texture coordinates that are predicted from positions
unfoldable pub textured_typed_at : Option Ordered → PositionsRead → Head → ℕ → Reading → Item Values
textured_typed_at w found h n c = textured_at w found n c >>= λ values. typed_at h.dtype (cast_signed w8 TEXTURE_PREDICTION) c.place values

-- n values of an octahedral attribute; that they lie in its square is seen when the square has been read
unfoldable pub squared_typed_at : Profile → Option Ordered → PositionsRead → ℕ → Reading → Item Values
squared_typed_at p w found n c = do
  predict ← square_prediction_at p w c
  values ← square_predicted_at c.place predict.0 w found n predict.1
  Ok (record { values = values.0; predict = cast_signed w8 (square_facts predict.0).byte; at = c.place }, values.1)

-- n values of an attribute without a square
abbrev pub unsquared_typed_at : Profile → Option Ordered → PositionsRead → Head → ℕ → Reading → Item Values
unsquared_typed_at p w found h n c = if is_textured p w h.comps c then textured_typed_at w found h n c else plain_typed_at p w h n c

-- n values of an attribute
unfoldable pub typed_values_at : Profile → Option Ordered → PositionsRead → Head → ℕ → Reading → Item Values
typed_values_at p w found h n c = if is_some h.octa then squared_typed_at p w found n c else unsquared_typed_at p w found h n c

-- the values of an attribute for so many entries, behind so many values of other attributes
unfoldable pub values_at : Profile → Option Ordered → PositionsRead → Head → ℕ → ℕ → Reading → Item Values
values_at p w found h entries spent c =
    if nat_le (spent + entries * h.comps) p.values then typed_values_at p w found h (entries * h.comps) c else fault_at kind.ValueLimit c

-- a quantisation: a minimum for each component, the range, the bits
unfoldable pub quant_at : ℕ → Reading → Item Quant
quant_at comps c = do
  min ← many_at (number_at 4) comps c
  range ← number_at 4 min.1
  bits ← quant_bits_at range.1
  Ok (record { bits = bits.0; range = range.0; min = min.0 }, bits.1)

-- the quantisation of a head, which stands at quantised floats alone
unfoldable pub quant_of_at : Head → Reading → Item (Option Quant)
quant_of_at h c = if is_float h.dtype then (quant_at h.comps c >>= λ q. Ok (Some q.0, q.1)) else Ok (None, c)

-- a head without a square, with its quantisation
unfoldable pub quantised_at : Head → Reading → Item Head
quantised_at h c = quant_of_at h c >>= λ q. Ok (record h { quant = q.0 }, q.1)

-- an octahedral head with the bits of its square, in which its values have to lie; where they don't, they are refused at their prediction
unfoldable pub squared_at : Head → Values → Reading → Item Head
squared_at h v c = do
  bits ← square_bits_at c
  if list_all (in_bounds (square_bounds bits.0)) v.values
      then Ok (record h { quant = None; octa = Some bits.0 }, bits.1)
      else Err (record { kind = kind.ValueRange; at = v.at })

-- a head with what stands for it at its decoder's end
unfoldable pub completed_at : Head → Values → Reading → Item Head
completed_at h v c = if is_some h.octa then squared_at h v c else quantised_at h c

-- how many values attributes have
abbrev pub values_in : List Values → ℕ
values_in attributes = sum_by (λ v. length v.values) attributes

-- the values of one of these attributes behind those before it: it sees the positions that were read before it
abbrev pub attribute_at : Profile → Option Ordered → PositionsRead → List Head → ℕ → ℕ → List Values → Head → Reading → Item Values
attribute_at p w found heads entries spent before h c =
    values_at p w (with_attributes w found heads before) h entries (spent + values_in before) c

-- the values of these attributes for so many entries, behind so many other values
unfoldable pub attributes_at : Profile → Option Ordered → PositionsRead → List Head → ℕ → ℕ → Reading → Item (List Values)
attributes_at p w found heads entries spent c = each_at (attribute_at p w found heads entries spent) [] heads c

-- the values of no attribute
abbrev pub no_values : Values
no_values = record { values = []; predict = pos 0; at = 0 }

-- a head behind those before it, with what stands for it at the decoder's end
abbrev pub next_completed_at : List Values → List Head → Head → Reading → Item Head
next_completed_at values before h c = completed_at h (get_or values (length before) no_values) c

-- these heads, each with what stands for it at the decoder's end
unfoldable pub quants_at : List Head → List Values → Reading → Item (List Head)
quants_at heads values c = each_at (next_completed_at values) [] heads c

-- a decoder's values for so many entries on its ordered surface, behind so many other values and what was read of the positions, and the
-- decoder with what stands at its end
unfoldable pub decoder_values_at : Profile → Option Ordered → PositionsRead → DecoderHead → ℕ → ℕ → Reading → Item (List Values × DecoderHead)
decoder_values_at p w found d entries spent c = do
  values ← attributes_at p w found d.heads entries spent c
  heads ← quants_at d.heads values.0 values.1
  Ok ((values.0, record d { heads = heads.0 }), heads.1)

-- each head has its values, for n entries
abbrev pub AreColumns : ℕ → List Head → List Values → Type 0
AreColumns n [] [] = Unit {0}
AreColumns n [] (v ∷ values) = ⊥
AreColumns n (h ∷ heads) [] = ⊥
AreColumns n (h ∷ heads) (v ∷ values) = (length v.values ≡ n * h.comps) × AreColumns n heads values

-- how many components heads have
abbrev pub comps_of : List Head → List ℕ
comps_of heads = map (λ h. h.comps) heads
