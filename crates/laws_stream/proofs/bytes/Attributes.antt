-- What is written of attributes is bytes: their heads, their values and what stands at the end of their decoders.
use Rattle.std.proofs.Common.{◌≡◌, ℕ, ◌<◌, ◌≤◌, Bool, true, false, leb, nat_lt, All, List, [], ◌∷◌, ◌++◌, length, map, get_or, Option, None, Some, inl, inr, arith}
use Rattle.std.specs.Prelude.{ℤ, ◌-◌, ◌^◌, ◌==◌, unsigned_abs, Result, Ok, Err, if◌then◌else◌}
use Rattle.std.specs.List.{flat_map}
use Rattle.drc_base.specs.declared.kinds.Kind.{Kind}
use Rattle.rans_binary.specs.Blocks.{block}
use Rattle.texture_prediction.specs.Orientations.{bits_of}
use Rattle.attr_heads.specs.declared.octahedra.TheConstants.{MIN_OCTAHEDRAL_BITS, MAX_OCTAHEDRAL_BITS}
use Rattle.attr_heads.specs.Octahedra.{has_square_bits}
use Rattle.std.proofs.lemmas.Bool.{cases_Bool, cond-true, cond-false, leb-true, and_parts}
use Rattle.std.proofs.lemmas.List.Elements.{All-map, All-weaker}
use Rattle.drc_bits.specs.Bits.{low_bytes}
use Rattle.drc_bits.specs.Varint.{spelling}
use Rattle.symbol_coding.specs.Block.{block_bytes}
use Rattle.attr_heads.specs.declared.heads.Head.{Head}
use Rattle.attr_heads.specs.declared.quants.Quant.{Quant}
use Rattle.attr_heads.specs.Quants.{has_bits}
use Rattle.attr_heads.specs.Head.{has_type}
use Rattle.attr_heads.proofs.Passing.{HeadSays}
use Rattle.predict.specs.declared.schemes.Behind.{Behind}
use Rattle.predict.specs.declared.schemes.Behind.TheVariants as behind
use Rattle.predict.specs.declared.schemes.Prediction.{Prediction}
use Rattle.predict.specs.declared.schemes.Prediction.TheVariants as prediction
use Rattle.predict.specs.declared.transforms.Transform.TheVariants as transform
use Rattle.predict.specs.Foretold.{foretold, marks_of}
use Rattle.predict.specs.Restored.{corrections}
use Rattle.predict.specs.Schemes.{facts, byte_of, prediction_coded}
use Rattle.predict.specs.Surfaces.{surface_or}
use Rattle.predict.specs.Symbols.{zigzag_of}
use Rattle.predict.specs.Transforms.{transform_byte}
use Rattle.predict.specs.Wrap.{Range}
use Rattle.corner_table.specs.Ordered.{Ordered}
use Rattle.attr_section.specs.declared.decoder_heads.DecoderHead.{DecoderHead}
use Rattle.attr_section.specs.declared.values.Values.{Values}
use Rattle.attr_heads.specs.declared.codings.Coding.{Coding}
use Rattle.attr_heads.specs.Codings.{coding_facts, coded_under, coded_comps, head_coding, coding_byte}
use Rattle.attr_heads.specs.declared.codings.Coding.TheVariants.{Generic, Integer, Quantised, Octahedral}
use Rattle.attr_heads.proofs.Types.{type_few, type_passes}
use Rattle.attr_heads.specs.HeadItems.{head_bytes}
use Rattle.attr_section.specs.Heads.{id_byte, link_bytes, decoder_bytes, links_bytes, heads_bytes}
use Rattle.attr_section.specs.WrittenParts.{greatest_symbol, byte_width, plain_bytes, symbols_bytes, integers_bytes, range_of, range_bytes, signed_bytes, flag_bits_bytes, flags_bytes, behind_bytes, flagged_bytes, predicted_bytes, prediction_bytes}
use Rattle.attr_section.specs.declared.square_predictions.SquarePrediction.{SquarePrediction}
use Rattle.attr_section.specs.declared.square_predictions.SquarePrediction.TheVariants as square
use Rattle.attr_section.specs.declared.textured.TheConstants.{TEXTURE_PREDICTION}
use Rattle.attr_section.specs.Positions.{Positions, PositionsRead, usable}
use Rattle.attr_section.specs.Squared.{square_facts, centre_of}
use Rattle.attr_section.specs.WrittenSquares.{square_bytes, flips_bytes, square_flips, square_corrections, square_corrected_bytes, square_predicted_bytes, square_prediction_bytes, settled_square_coded}
use Rattle.attr_section.specs.WrittenTexture.{is_texture, projected_on, orientations_bytes, texture_corrected_bytes, texture_bytes}
use Rattle.attr_section.specs.Written.{unsquared_bytes, values_bytes_under, values_bytes, found_behind, quant_bytes, end_bytes_under, end_bytes, ends_bytes, attributes_bytes, decoder_values_bytes}
use Rattle.laws_stream.specs.Laws.{IsByte}
use Rattle.laws_stream.proofs.bytes.Lists.{AreBytes, no-bytes, byte-then, joined, joined-each, each-of, low, spelled}
use Rattle.laws_stream.proofs.bytes.Blocks.{block-bytes, symbols-bytes}

-- ---- heads

-- a truth as a byte
pub bit-small : (b : Bool) → (if b then 1 else 0) < 256
bit-small true = omega arith
bit-small false = omega arith

type-small : (dtype : ℕ) (o : Option Quant) (octa : Option ℕ) → has_type dtype o octa ≡ true → dtype < 256
type-small dtype o octa is = omega (arith, type_few dtype (type_passes dtype o octa is))

coding-small : (h : Head) → coding_byte h < 256
coding-small h = every (head_coding h)
  where
    every : (q : Coding) → (coding_facts q).byte < 256
    every Generic = omega arith
    every Integer = omega arith
    every Quantised = omega arith
    every Octahedral = omega arith

-- the components that a stream says for a head
comps-small : (h : Head) → h.comps ≤ 8 → coded_comps h < 256
comps-small h few = every (head_coding h)
  where
    every : (q : Coding) → coded_under (coding_facts q).fixed h.comps < 256
    every Generic = omega (arith, few)
    every Integer = omega (arith, few)
    every Quantised = omega (arith, few)
    every Octahedral = omega arith

-- a head that passes, and whose flag is a byte
pub record IsSpelled (h : Head) : Type 0 where
  pub says : HeadSays h
  pub flag : IsByte h.normalized

head-bytes : (h : Head) → IsSpelled h → AreBytes (head_bytes h)
head-bytes h is =
    let usage = is.says.usage in
    let comps = is.says.few in
    byte-then h.usage (h.dtype ∷ coded_comps h ∷ h.normalized ∷ spelling 5 h.id) (omega (arith, usage))
    (byte-then h.dtype (coded_comps h ∷ h.normalized ∷ spelling 5 h.id) (type-small h.dtype h.quant h.octa is.says.typed)
    (byte-then (coded_comps h) (h.normalized ∷ spelling 5 h.id) (comps-small h comps)
    (byte-then h.normalized (spelling 5 h.id) is.flag (spelled 5 h.id))))

-- a decoder
pub decoder-bytes : (d : DecoderHead) → All IsSpelled d.heads → AreBytes (decoder_bytes d)
decoder-bytes d are =
    joined (spelling 5 (length d.heads)) (flat_map head_bytes d.heads ++ map coding_byte d.heads) (spelled 5 (length d.heads))
    (joined (flat_map head_bytes d.heads) (map coding_byte d.heads)
    (joined-each head_bytes d.heads (All-weaker IsSpelled (λ h. AreBytes (head_bytes h)) head-bytes d.heads are))
    (All-map IsByte coding_byte d.heads (λ k e below. coding-small (get_or d.heads k e))))

-- and its link
pub link-bytes : (d : DecoderHead) → IsByte (id_byte d.data_id) → AreBytes (link_bytes d)
link-bytes d small =
    let corner = if d.corner then 1 else 0 in
    let walk = if d.degree then 1 else 0 in
    byte-then (id_byte d.data_id) (corner ∷ walk ∷ []) small (byte-then corner (walk ∷ []) (bit-small d.corner) (byte-then walk [] (bit-small d.degree) no-bytes))

links-bytes : (eb : Bool) (decoders : List DecoderHead) → All (λ d. AreBytes (link_bytes d)) decoders → AreBytes (links_bytes eb decoders)
links-bytes true decoders are = joined-each link_bytes decoders are
links-bytes false decoders are = no-bytes

-- the heads of decoders
pub heads-bytes : (eb : Bool) (decoders : List DecoderHead) → IsByte (length decoders) → All (λ d. AreBytes (link_bytes d)) decoders → All (λ d. All IsSpelled d.heads) decoders
    → AreBytes (heads_bytes eb decoders)
unfolding heads_bytes
heads-bytes eb decoders few links heads =
    byte-then (length decoders) (links_bytes eb decoders ++ flat_map decoder_bytes decoders) few
    (joined (links_bytes eb decoders) (flat_map decoder_bytes decoders) (links-bytes eb decoders links)
    (joined-each decoder_bytes decoders (All-weaker (λ d. All IsSpelled d.heads) (λ d. AreBytes (decoder_bytes d)) decoder-bytes decoders heads)))

-- ---- values

width-small : (symbol : ℕ) → byte_width symbol < 256
width-small symbol = elim (cases_Bool (nat_lt symbol 256)) [
  | inl t ↦ rw (cond-true _ _ _ t) (omega arith)
  | inr f ↦ rw (cond-false _ _ _ f) (elim (cases_Bool (nat_lt symbol 65536)) [
    | inl t ↦ rw (cond-true _ _ _ t) (omega arith)
    | inr f ↦ rw (cond-false _ _ _ f) (elim (cases_Bool (nat_lt symbol 16777216)) [
      | inl t ↦ rw (cond-true _ _ _ t) (omega arith)
      | inr f ↦ rw (cond-false _ _ _ f) (omega arith)
    ])
  ])
]

plain-bytes : (symbols : List ℕ) → AreBytes (plain_bytes symbols)
unfolding plain_bytes
plain-bytes symbols =
    let width = byte_width (greatest_symbol symbols) in
    byte-then width (flat_map (low_bytes width) symbols) (width-small (greatest_symbol symbols)) (each-of (low_bytes width) (low width) symbols)

either-bytes : (plain : Bool) (comps : ℕ) (symbols : List ℕ) → AreBytes (symbols_bytes plain comps symbols)
either-bytes true comps symbols = byte-then 0 (plain_bytes symbols) (omega arith) (plain-bytes symbols)
either-bytes false comps symbols = byte-then 1 (block_bytes symbols comps) (omega arith) (symbols-bytes symbols comps)

integers-bytes : (plain : Bool) (comps : ℕ) (values : List ℤ) → AreBytes (integers_bytes plain comps values)
unfolding integers_bytes
integers-bytes plain comps values = either-bytes plain comps (map zigzag_of values)

flag_bits-bytes : (flags : List Bool) → AreBytes (flag_bits_bytes flags)
flag_bits-bytes flags = elim (cases_Bool (length flags == 0)) [
  | inl t ↦ rw (cond-true _ _ _ t) no-bytes
  | inr f ↦ rw (cond-false _ _ _ f) (block-bytes flags)
]

flags-bytes : (flags : List Bool) → AreBytes (flags_bytes flags)
unfolding flags_bytes
flags-bytes flags = joined (spelling 5 (length flags)) (flag_bits_bytes flags) (spelled 5 (length flags)) (flag_bits-bytes flags)

behind-bytes : (b : Behind) (lists : List (List Bool)) (r : Range) → AreBytes (behind_bytes b lists r)
behind-bytes behind.Nothing lists r = joined (signed_bytes r.low) (signed_bytes r.high) (low 4 _) (low 4 _)
behind-bytes (behind.FlagLists count) lists r =
    joined (flat_map flags_bytes lists) (range_bytes r) (each-of flags_bytes flags-bytes lists)
    (joined (signed_bytes r.low) (signed_bytes r.high) (low 4 _) (low 4 _))

flagged-bytes : (plain : Bool) (w : Ordered) (q : Prediction) (comps : ℕ) (lists : List (List Bool)) (values : List ℤ) → AreBytes (flagged_bytes plain w q comps lists values)
unfolding flagged_bytes
flagged-bytes plain w q comps lists values =
    let r = range_of values in
    let integers = integers_bytes plain comps (corrections (foretold q w comps lists) r values) in
    let back = behind_bytes (facts q).behind lists r in
    byte-then (transform_byte transform.Wrap) (integers ++ back) (omega arith)
    (joined integers back (integers-bytes plain comps (corrections (foretold q w comps lists) r values)) (behind-bytes (facts q).behind lists r))

predicted-bytes : (plain : Bool) (w : Option Ordered) (q : Prediction) (comps : ℕ) (values : List ℤ) → AreBytes (predicted_bytes plain w q comps values)
unfolding predicted_bytes
predicted-bytes plain w q comps values = elim (cases_Bool (facts q).corrects) [
  | inl t ↦ rw (cond-true _ _ _ t) (flagged-bytes plain (surface_or w) q comps (marks_of q (surface_or w) comps values) values)
  | inr f ↦ rw (cond-false _ _ _ f) (integers-bytes plain comps values)
]

byte-of : (q : Prediction) → byte_of q < 256
byte-of prediction.Off = omega arith
byte-of _ = omega arith

prediction-bytes : (plain : Bool) (w : Option Ordered) (o : Option Prediction) (comps : ℕ) (values : List ℤ) → AreBytes (prediction_bytes plain w o comps values)
prediction-bytes plain w None comps values = no-bytes
prediction-bytes plain w (Some q) comps values = byte-then (byte_of q) (predicted_bytes plain w q comps values) (byte-of q) (predicted-bytes plain w q comps values)

-- ---- values in a square

square_bytes-bytes : (bits : ℕ) → AreBytes (square_bytes bits)
unfolding square_bytes
square_bytes-bytes bits = joined (low_bytes 4 (2 ^ bits - 1)) (low_bytes 4 (2 ^ (bits - 1) - 1)) (low 4 (2 ^ bits - 1)) (low 4 (2 ^ (bits - 1) - 1))

flips-bytes : (q : SquarePrediction) (flips : List Bool) → AreBytes (flips_bytes q flips)
flips-bytes square.Off flips = no-bytes
flips-bytes square.Difference flips = no-bytes
flips-bytes square.Normals flips = block-bytes flips

square_corrected-bytes : (plain : Bool) (q : SquarePrediction) (bits : ℕ) (flips : List Bool) (corrections : List ℤ) → AreBytes (square_corrected_bytes plain q bits flips corrections)
unfolding square_corrected_bytes
square_corrected-bytes plain q bits flips corrections =
    let symbols = symbols_bytes plain 2 (map unsigned_abs corrections) in
    let back = square_bytes bits ++ flips_bytes q flips in
    byte-then (coding_facts Octahedral).transform (symbols ++ back) (omega arith)
    (joined symbols back (either-bytes plain 2 (map unsigned_abs corrections)) (joined (square_bytes bits) (flips_bytes q flips) (square_bytes-bytes bits) (flips-bytes q flips)))

square_predicted-bytes : (plain : Bool) (q : SquarePrediction) (w : Option Ordered) (ps : Option Positions) (bits : ℕ) (values : List ℤ)
    → AreBytes (square_predicted_bytes plain q w ps bits values)
unfolding square_predicted_bytes
square_predicted-bytes plain q w ps bits values =
    let flips = square_flips q w ps (centre_of bits) values in
    elim (cases_Bool (square_facts q).corrects) [
      | inl t ↦ rw (cond-true _ _ _ t) (square_corrected-bytes plain q bits flips (square_corrections q w ps (centre_of bits) flips values))
      | inr f ↦ rw (cond-false _ _ _ f) (integers-bytes plain 2 values)
    ]

square_byte : (q : SquarePrediction) → (square_facts q).byte < 256
square_byte square.Off = omega arith
square_byte square.Difference = omega arith
square_byte square.Normals = omega arith

square-bytes : (plain : Bool) (o : Option SquarePrediction) (w : Option Ordered) (ps : Option Positions) (bits : ℕ) (values : List ℤ)
    → AreBytes (square_prediction_bytes plain o w ps bits values)
square-bytes plain None w ps bits values = no-bytes
square-bytes plain (Some q) w ps bits values = byte-then (square_facts q).byte (square_predicted_bytes plain q w ps bits values) (square_byte q) (square_predicted-bytes plain q w ps bits values)

-- ---- texture coordinates

orientations-bytes : (orientations : List Bool) → AreBytes (orientations_bytes orientations)
unfolding orientations_bytes
orientations-bytes orientations = joined (low_bytes 4 (length orientations)) (block (bits_of orientations)) (low 4 (length orientations)) (block-bytes (bits_of orientations))

texture_corrected-bytes : (plain : Bool) (r : Range) (orientations : List Bool) (corrections : List ℤ) → AreBytes (texture_corrected_bytes plain r orientations corrections)
unfolding texture_corrected_bytes
texture_corrected-bytes plain r orientations corrections =
    let integers = integers_bytes plain 2 corrections in
    let back = orientations_bytes orientations ++ range_bytes r in
    byte-then (transform_byte transform.Wrap) (integers ++ back) (omega arith)
    (joined integers back (integers-bytes plain 2 corrections)
    (joined (orientations_bytes orientations) (range_bytes r) (orientations-bytes orientations) (joined (signed_bytes r.low) (signed_bytes r.high) (low 4 _) (low 4 _))))

texture-bytes : (plain : Bool) (w : Option Ordered) (values : List ℤ) (x : Result (List Bool × List ℤ) Kind) → AreBytes (texture_bytes plain w values x)
texture-bytes plain w values (Ok x) =
    byte-then TEXTURE_PREDICTION (texture_corrected_bytes plain (range_of values) x.0 x.1) (omega arith) (texture_corrected-bytes plain (range_of values) x.0 x.1)
texture-bytes plain w values (Err k) = prediction-bytes plain w (Some prediction.Parallelogram) 2 values

-- ---- values of an attribute, and of several

unsquared-bytes : (plain : Bool) (w : Option Ordered) (ps : Option Positions) (comps : ℕ) (v : Values) → AreBytes (unsquared_bytes plain w ps comps v)
unsquared-bytes plain w ps comps v = elim (cases_Bool (is_texture comps v.predict)) [
  | inl t ↦ rw (cond-true _ _ _ t) (texture-bytes plain w v.values (projected_on w ps v.values))
  | inr f ↦ rw (cond-false _ _ _ f) (prediction-bytes plain w (prediction_coded v.predict) comps v.values)
]

under-bytes : (plain : Bool) (w : Option Ordered) (ps : Option Positions) (octa : Option ℕ) (comps : ℕ) (v : Values) → AreBytes (values_bytes_under plain w ps octa comps v)
under-bytes plain w ps None comps v = unsquared-bytes plain w ps comps v
under-bytes plain w ps (Some bits) comps v = square-bytes plain (settled_square_coded w ps bits v) w ps bits v.values

attribute-bytes : (plain : Bool) (w : Option Ordered) (found : PositionsRead) (h : Head) (v : Values) → AreBytes (values_bytes plain w found h v)
unfolding values_bytes
attribute-bytes plain w found h v = under-bytes plain w (usable found) h.octa h.comps v

attributes-bytes : (plain : Bool) (w : Option Ordered) (found : PositionsRead) (heads : List Head) (attributes : List Values) → AreBytes (attributes_bytes plain w found heads attributes)
attributes-bytes plain w found [] attributes = no-bytes
attributes-bytes plain w found (h ∷ heads) [] = no-bytes
attributes-bytes plain w found (h ∷ heads) (v ∷ attributes) =
    joined (values_bytes plain w found h v) (attributes_bytes plain w (found_behind w found h v) heads attributes) (attribute-bytes plain w found h v)
    (attributes-bytes plain w (found_behind w found h v) heads attributes)

-- ---- quantisations

quant-bytes : (o : Option Quant) → has_bits o ≡ true → AreBytes (quant_bytes o)
quant-bytes None is = no-bytes
quant-bytes (Some q) is =
    let p = and_parts (leb 1 q.bits) (leb q.bits 30) is in
    let high = leb-true q.bits 30 p.1 in
    joined (flat_map (low_bytes 4) q.min) (low_bytes 4 q.range ++ q.bits ∷ []) (each-of (low_bytes 4) (low 4) q.min)
    (joined (low_bytes 4 q.range) (q.bits ∷ []) (low 4 q.range) (byte-then q.bits [] (omega (arith, high)) no-bytes))

-- ---- what stands for a head at the end of its decoder

end-bytes : (quant : Option Quant) (octa : Option ℕ) → has_bits quant ≡ true → has_square_bits octa ≡ true → AreBytes (end_bytes_under quant octa)
end-bytes quant None is square = quant-bytes quant is
end-bytes quant (Some bits) is square =
    let p = and_parts (leb MIN_OCTAHEDRAL_BITS bits) (leb bits MAX_OCTAHEDRAL_BITS) square in
    let high = leb-true bits MAX_OCTAHEDRAL_BITS p.1 in
    byte-then bits [] (omega (arith, high)) no-bytes

-- ---- a decoder's values, and what stands at its end

pub values-bytes : (plain : Bool) (w : Option Ordered) (found : PositionsRead) (heads : List Head) (attributes : List Values) → All HeadSays heads
    → AreBytes (decoder_values_bytes plain w found heads attributes)
unfolding decoder_values_bytes
values-bytes plain w found heads attributes say =
    joined (attributes_bytes plain w found heads attributes) (ends_bytes heads)
    (attributes-bytes plain w found heads attributes)
    (joined-each end_bytes heads
    (All-weaker HeadSays (λ (h : Head). AreBytes (end_bytes h)) (λ h says. end-bytes h.quant h.octa says.bits says.square) heads say))
