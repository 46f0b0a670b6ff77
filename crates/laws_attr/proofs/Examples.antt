-- The laws at given attributes: positions and quantised texture coordinates of two entries, positions over a surface, octahedral points, and
-- what is predicted from positions.
use Rattle.drc_base.specs.Profile.{profile, profile_numbered}
use Rattle.std.proofs.Common.{◌≡◌, ℕ, ◌+◌, ◌*◌, ◌^◌, ◌<◌, ◌≤◌, Bool, true, false, List, [], ◌∷◌, ◌++◌, length, None, Some, Ok, refl, sym, ◌∙◌, lit<, lit≤}
use Rattle.std.specs.List.{All}
use Rattle.std.proofs.lemmas.Bool.{false≢true}
use Rattle.std.proofs.lemmas.List.Elements.{All-nil, All-cons}
use Rattle.drc_base.specs.declared.limits.TheConstants.{MAX_VALUES}
use Rattle.drc_bits.specs.Spells.{Spells}
use Rattle.drc_bits.specs.Varint.{spelling}
use Rattle.corner_table.specs.Ordered.{Ordered}
use Rattle.predict.specs.Restored.{corrections_behind}
use Rattle.attr_heads.specs.declared.heads.Head.{Head}
use Rattle.attr_section.specs.declared.decoder_heads.DecoderHead.{DecoderHead}
use Rattle.attr_section.specs.declared.values.Values.{Values}
use Rattle.attr_section.specs.Examples.{example_head, texture_head, position_values, texture_values, example_prediction, surface_positions, surface_decoder, points_head, points, shape_head, shape_positions, shape_values}
use Rattle.attr_heads.specs.HeadItems.{HeadPasses}
use Rattle.attr_section.specs.Heads.{heads_at, heads_bytes, bare_decoder, DecoderPasses, DecodersPass, HasSquareType, HasCoding, HaveCodings}
use Rattle.attr_section.specs.Positions.{PositionsRead}
use Rattle.attr_section.specs.Attributes.{values_in, decoder_values_at}
use Rattle.attr_section.specs.WrittenParts.{plain_bytes, integers_bytes, flagged_bytes, predicted_bytes, HasFewFlags}
use Rattle.attr_section.specs.Written.{values_bytes, decoder_values_bytes, values_placed, HaveEntries, any_came_later, IsReadIn}
use Rattle.attr_section.proofs.Examples.{values-pass, surface-values-pass, points-values-pass, shape-values-pass}
use Rattle.laws_attr.specs.Laws.{HeadFits}
use Rattle.laws_attr.proofs.Heads.{heads_read}
use Rattle.laws_attr.proofs.Decoders.{decoder_values_read}

-- the positions and the texture coordinates, by difference or as they are
abbrev positions : Bool → Values
positions difference = record { values = position_values; predict = example_prediction difference; at = 0 }

abbrev texture : Bool → Values
texture difference = record { values = texture_values; predict = example_prediction difference; at = 0 }

-- none of which has a square
unsquared : All (λ (h : Head). HasSquareType h h.octa) (example_head ∷ texture_head ∷ [])
unsquared = All-cons (λ (h : Head). HasSquareType h h.octa) example_head (texture_head ∷ []) tt
    (All-cons (λ (h : Head). HasSquareType h h.octa) texture_head [] tt (All-nil (λ (h : Head). HasSquareType h h.octa)))

-- their decoder in a sequential stream
abbrev decoder : DecoderHead
decoder = record { data_id = None; corner = false; degree = false; heads = example_head ∷ texture_head ∷ [] }

position-fits : HeadFits example_head
position-fits = record { id = lit< tt; quant = tt }

texture-fits : HeadFits texture_head
texture-fits = record { id = lit< tt; quant = (All-cons (λ m. m < 2 ^ 32) 0 (0x3f80_0000 ∷ []) (lit< tt) (All-cons (λ m. m < 2 ^ 32) 0x3f80_0000 [] (lit< tt) (All-nil (λ m. m < 2 ^ 32))), lit< tt) }

fits : All HeadFits decoder.heads
fits = All-cons HeadFits example_head (texture_head ∷ []) position-fits (All-cons HeadFits texture_head [] texture-fits (All-nil HeadFits))

passes : DecodersPass (decoder ∷ [])
passes = record {
  some = lit< tt;
  few = lit≤ tt;
  each = All-cons DecoderPasses decoder [] (record {
    some = lit< tt;
    heads = All-cons HeadPasses example_head (texture_head ∷ []) (record { usage = lit≤ tt; dtype = refl; some = lit≤ tt; few = lit≤ tt })
        (All-cons HeadPasses texture_head [] (record { usage = lit≤ tt; dtype = refl; some = lit≤ tt; few = lit≤ tt }) (All-nil HeadPasses));
    squares = unsquared;
  }) (All-nil DecoderPasses);
}

-- the bytes of its heads, and that they are read
heads-are : heads_bytes false (decoder ∷ []) ≡ 1 ∷ 2 ∷ 0 ∷ 5 ∷ 3 ∷ 0 ∷ 0 ∷ 3 ∷ 9 ∷ 2 ∷ 1 ∷ 172 ∷ 2 ∷ 1 ∷ 2 ∷ []
unfolding heads_bytes spelling
heads-are = refl

codings : HaveCodings 2 (decoder ∷ [])
codings = All-cons (λ (d : DecoderHead). All (HasCoding 2) d.heads) decoder []
    (All-cons (HasCoding 2) example_head (texture_head ∷ []) (lit≤ tt) (All-cons (HasCoding 2) texture_head [] (lit≤ tt) (All-nil (HasCoding 2))))
    (All-nil (λ (d : DecoderHead). All (HasCoding 2) d.heads))

heads-again : Spells (heads_at profile None) (heads_bytes false (decoder ∷ [])) (bare_decoder decoder ∷ [])
heads-again = heads_read 2 None (decoder ∷ []) codings passes (All-cons (λ d. All HeadFits d.heads) decoder [] fits (All-nil (λ d. All HeadFits d.heads))) refl

-- the bytes of the positions by difference: the prediction, the transform, no block, two bytes for each symbol, and the range
positions-are : values_bytes true None PositionsRead.NotYet example_head (positions true)
    ≡ 0 ∷ 1 ∷ 0 ∷ 2 ∷ 0 ∷ 0 ∷ 20 ∷ 0 ∷ 9 ∷ 0 ∷ 14 ∷ 0 ∷ 68 ∷ 2 ∷ 77 ∷ 2 ∷ 212 ∷ 254 ∷ 255 ∷ 255 ∷ 44 ∷ 1 ∷ 0 ∷ 0 ∷ []
unfolding values_bytes predicted_bytes flagged_bytes integers_bytes plain_bytes corrections_behind
positions-are = refl

counts : (difference : Bool) → HaveEntries 2 decoder.heads (positions difference ∷ texture difference ∷ [])
counts difference =
    All-cons (λ (h, v). length v.values ≡ 2 * h.comps) (example_head, positions difference) ((texture_head, texture difference) ∷ []) refl
    (All-cons (λ (h, v). length v.values ≡ 2 * h.comps) (texture_head, texture difference) [] refl (All-nil (λ (h, v). length v.values ≡ 2 * h.comps)))

-- none of them is written by what came with octahedral attributes
plainly : (difference : Bool) → any_came_later decoder.heads (positions difference ∷ texture difference ∷ []) ≡ false
plainly true = refl
plainly false = refl

surface_plainly : (closed many : Bool) → any_came_later surface_decoder.heads (surface_positions closed many ∷ []) ≡ false
surface_plainly closed true = refl
surface_plainly closed false = refl

-- so they are read in profile 2, whatever was read of the positions
read_first : (found before : PositionsRead) (later : Bool) → later ≡ false → IsReadIn 2 found before later
read_first found before later none =
    record { least = lit≤ tt; since = λ is. absurd (false≢true (sym none ∙ is)); same = λ is. absurd (false≢true (sym none ∙ is)) }

-- values by difference and as they are, in blocks and as they are, are read behind a hundred other values
values-again : (plain difference : Bool) (found before : PositionsRead) (place : ℕ) (rest : List ℕ)
    → decoder_values_at profile None before (bare_decoder decoder) 2 100
    (record { place = place; rest = decoder_values_bytes plain None found decoder.heads (positions difference ∷ texture difference ∷ []) ++ rest })
    ≡ Ok (
      (values_placed plain None found place decoder.heads (positions difference ∷ texture difference ∷ []), decoder),
      record { place = place + length (decoder_values_bytes plain None found decoder.heads (positions difference ∷ texture difference ∷ [])); rest = rest },
    )
values-again plain difference found before place rest =
    decoder_values_read plain None found decoder (positions difference ∷ texture difference ∷ []) (values-pass difference) fits tt 2 before 2 100 place rest
    (read_first found before (any_came_later decoder.heads (positions difference ∷ texture difference ∷ [])) (plainly difference)) (counts difference) (lit≤ tt)

-- positions over a surface of four entries
four_each : (closed many : Bool) → HaveEntries 4 surface_decoder.heads (surface_positions closed many ∷ [])
four_each true many = All-cons (λ (h, v). length v.values ≡ 4 * h.comps) (example_head, surface_positions true many) [] refl (All-nil (λ (h, v). length v.values ≡ 4 * h.comps))
four_each false many = All-cons (λ (h, v). length v.values ≡ 4 * h.comps) (example_head, surface_positions false many) [] refl (All-nil (λ (h, v). length v.values ≡ 4 * h.comps))

within : (closed many : Bool) → 0 + values_in (surface_positions closed many ∷ []) ≤ MAX_VALUES
within true many = lit≤ tt
within false many = lit≤ tt

-- by parallelograms they are read over any such surface whose flags are few
surface-again : (plain closed many : Bool) (w : Ordered) → length w.corners ≡ 4 → HasFewFlags w → (found before : PositionsRead) (place : ℕ) (rest : List ℕ)
    → decoder_values_at profile (Some w) before (bare_decoder surface_decoder) (length w.corners) 0
    (record { place = place; rest = decoder_values_bytes plain (Some w) found surface_decoder.heads (surface_positions closed many ∷ []) ++ rest })
    ≡ Ok (
      (values_placed plain (Some w) found place surface_decoder.heads (surface_positions closed many ∷ []), surface_decoder),
      record { place = place + length (decoder_values_bytes plain (Some w) found surface_decoder.heads (surface_positions closed many ∷ [])); rest = rest },
    )
surface-again plain closed many w four few found before place rest =
    decoder_values_read plain (Some w) found surface_decoder (surface_positions closed many ∷ []) (surface-values-pass closed many w four)
    (All-cons HeadFits example_head [] position-fits (All-nil HeadFits)) few 2 before (length w.corners) 0 place rest
    (read_first found before (any_came_later surface_decoder.heads (surface_positions closed many ∷ [])) (surface_plainly closed many)) (rw four (four_each closed many)) (within closed many)

-- octahedral points in a sequential stream, in canonical spelling or not, are read in profile 3
abbrev points_decoder : DecoderHead
points_decoder = record { data_id = None; corner = false; degree = false; heads = points_head ∷ [] }

points-fit : HeadFits points_head
points-fit = record { id = lit< tt; quant = tt }

points-count : (corner : Bool) → HaveEntries 3 points_decoder.heads (points corner ∷ [])
points-count true = All-cons (λ (h, v). length v.values ≡ 3 * h.comps) (points_head, points true) [] refl (All-nil (λ (h, v). length v.values ≡ 3 * h.comps))
points-count false = All-cons (λ (h, v). length v.values ≡ 3 * h.comps) (points_head, points false) [] refl (All-nil (λ (h, v). length v.values ≡ 3 * h.comps))

points-within : (corner : Bool) → 0 + values_in (points corner ∷ []) ≤ MAX_VALUES
points-within true = lit≤ tt
points-within false = lit≤ tt

points-again : (plain corner : Bool) (found : PositionsRead) (place : ℕ) (rest : List ℕ)
    → decoder_values_at (profile_numbered 3) None found (bare_decoder points_decoder) 3 0
    (record { place = place; rest = decoder_values_bytes plain None found points_decoder.heads (points corner ∷ []) ++ rest })
    ≡ Ok (
      (values_placed plain None found place points_decoder.heads (points corner ∷ []), points_decoder),
      record { place = place + length (decoder_values_bytes plain None found points_decoder.heads (points corner ∷ [])); rest = rest },
    )
points-again plain corner found place rest =
    decoder_values_read plain None found points_decoder (points corner ∷ []) (points-values-pass corner) (All-cons HeadFits points_head [] points-fit (All-nil HeadFits)) tt 3 found 3 0 place rest
    (record { least = lit≤ tt; since = λ is. lit≤ tt; same = λ is. refl }) (points-count corner) (points-within corner)

-- positions over a surface of four entries, and texture coordinates or octahedral points that are predicted from them
abbrev shape_decoder : Bool → DecoderHead
shape_decoder textured = record { data_id = Some 255; corner = false; degree = false; heads = example_head ∷ shape_head textured ∷ [] }

shape-fits : (textured : Bool) → All HeadFits (shape_decoder textured).heads
shape-fits textured = All-cons HeadFits example_head (shape_head textured ∷ []) position-fits (All-cons HeadFits (shape_head textured) [] (second textured) (All-nil HeadFits))
  where
    second : (textured : Bool) → HeadFits (shape_head textured)
    second true = record { id = lit< tt; quant = tt }
    second false = points-fit

shape-counts : (textured : Bool) → HaveEntries 4 (shape_decoder textured).heads (shape_positions textured ∷ shape_values textured ∷ [])
shape-counts textured =
    All-cons (λ (h, v). length v.values ≡ 4 * h.comps) (example_head, shape_positions textured) ((shape_head textured, shape_values textured) ∷ []) (first textured)
    (All-cons (λ (h, v). length v.values ≡ 4 * h.comps) (shape_head textured, shape_values textured) [] (second textured) (All-nil (λ (h, v). length v.values ≡ 4 * h.comps)))
  where
    first : (textured : Bool) → length (shape_positions textured).values ≡ 12
    first true = refl
    first false = refl

    second : (textured : Bool) → length (shape_values textured).values ≡ 4 * (shape_head textured).comps
    second true = refl
    second false = refl

shape-within : (textured : Bool) → 0 + values_in (shape_positions textured ∷ shape_values textured ∷ []) ≤ MAX_VALUES
shape-within true = lit≤ tt
shape-within false = lit≤ tt

shape-again : (plain textured : Bool) (w : Ordered) → length w.corners ≡ 4 → All (λ (e : ℕ). e < length w.corners) w.entries → HasFewFlags w → (found : PositionsRead) (place : ℕ) (rest : List ℕ)
    → decoder_values_at (profile_numbered 3) (Some w) found (bare_decoder (shape_decoder textured)) (length w.corners) 0
    (record { place = place; rest = decoder_values_bytes plain (Some w) found (shape_decoder textured).heads (shape_positions textured ∷ shape_values textured ∷ []) ++ rest })
    ≡ Ok (
      (values_placed plain (Some w) found place (shape_decoder textured).heads (shape_positions textured ∷ shape_values textured ∷ []), shape_decoder textured),
      record { place = place + length (decoder_values_bytes plain (Some w) found (shape_decoder textured).heads (shape_positions textured ∷ shape_values textured ∷ [])); rest = rest },
    )
shape-again plain textured w four entries few found place rest =
    decoder_values_read plain (Some w) found (shape_decoder textured) (shape_positions textured ∷ shape_values textured ∷ []) (shape-values-pass textured w four entries)
    (shape-fits textured) few 3 found (length w.corners) 0 place rest
    (record { least = lit≤ tt; since = λ is. lit≤ tt; same = λ is. refl }) (rw four (shape-counts textured)) (shape-within textured)
