-- What is left behind the attributes of a stream is bytes, where a stream is; and the fields of their heads are those of bytes.
use Rattle.drc_base.specs.Profile.{Profile}
use Rattle.std.proofs.Common.{ℕ, ◌+◌, ◌*◌, ◌/◌, ◌^◌, ◌<◌, ◌==◌, ◌&&◌, Bool, not, ℤ, List, [], length, get_or, map, Option, None, Some, is_some, Result, Ok, Err, arith}
use Rattle.std.specs.Prelude.{nat_lt, nat_le, is_none, IfSome}
use Rattle.std.specs.List.{All, list_all, range_with_len}
use Rattle.std.proofs.lemmas.List.Elements.{All-nil, recursion_from_All}
use Rattle.drc_base.specs.declared.kinds.Kind.{Kind}
use Rattle.drc_base.specs.declared.kinds.Kind.TheVariants as kind
use Rattle.drc_base.specs.declared.limits.TheConstants.{MAX_ATTRIBUTES, MAX_COMPONENTS}
use Rattle.drc_base.specs.Steps.{◌>>=◌}
use Rattle.drc_bits.specs.Reading.{Reading, Item, must, many_at}
use Rattle.drc_bits.proofs.Results.{err≢ok}
use Rattle.drc_bits.specs.Numbers.{number_at, signed_at}
use Rattle.drc_bits.specs.Varint.{var32_at}
use Rattle.rans_binary.specs.Blocks.{bit_block_at}
use Rattle.symbol_coding.specs.Block.{block_at}
use Rattle.attr_heads.specs.declared.heads.Head.{Head}
use Rattle.attr_heads.specs.declared.quants.Quant.{Quant}
use Rattle.attr_heads.specs.Bounds.{in_bounds, type_bounds}
use Rattle.attr_heads.specs.Octahedra.{are_octahedral_bits, square_bounds}
use Rattle.ply_mesh.specs.Fields.{QuantFields, HasFields}
use Rattle.predict.specs.declared.schemes.Behind.{Behind}
use Rattle.predict.specs.declared.schemes.Behind.TheVariants as behind
use Rattle.predict.specs.declared.schemes.Prediction.{Prediction}
use Rattle.predict.specs.declared.transforms.Transform.{Transform}
use Rattle.predict.specs.Foretold.{restored_with}
use Rattle.predict.specs.Schemes.{facts, prediction_of}
use Rattle.predict.specs.Transforms.{transform_of}
use Rattle.predict.specs.Surfaces.{surface_or, lacks_surface}
use Rattle.corner_table.specs.Ordered.{Ordered}
use Rattle.predict.specs.Wrap.{Range}
use Rattle.attr_section.specs.declared.decoder_heads.DecoderHead.{DecoderHead}
use Rattle.attr_section.specs.declared.links.Link.{Link}
use Rattle.attr_section.specs.declared.values.Values.{Values}
use Rattle.attr_heads.specs.DataTypes.{is_type, is_float}
use Rattle.attr_heads.specs.HeadItems.{head_at}
use Rattle.attr_heads.specs.declared.codings.Coding.{Coding}
use Rattle.attr_heads.specs.declared.codings.Coding.TheVariants.{Octahedral}
use Rattle.attr_heads.specs.Codings.{coding_facts, coding_of, goes_with, coded}
use Rattle.attr_section.specs.Heads.{is_known_id, is_used_id, most_element, most_walk, decoder_count_at, link_at, linked_at, links_at, tested_coding, known_coding_at, coding_at, coded_at, codings_at, attributes_of, attribute_count_at, decoder_at, decoders_at, heads_at}
use Rattle.attr_heads.specs.HeadItems.{quant_bits_at, square_bits_at}
use Rattle.attr_section.specs.Values.{tested_prediction, prediction_at, signed_of, plain_value_at, byte_width_at, plain_values_at, can_wrap, range_at, tested_transform, transform_at, compressed_values_at, integers_at, flag_bits_at, flag_count_at, flags_at, flag_lists_at, behind_at, restored_at, corrected_at, predicted_at}
use Rattle.attr_section.specs.Attributes.{plain_typed_at, textured_typed_at, squared_typed_at, typed_values_at, values_at, attribute_at, quant_at, quant_of_at, quantised_at, squared_at, next_completed_at, no_values, completed_at, values_in, attributes_at as columns_at, quants_at, decoder_values_at}
use Rattle.attr_section.specs.declared.square_predictions.SquarePrediction.{SquarePrediction}
use Rattle.attr_section.specs.Positions.{Positions, PositionsRead, with_attributes, usable, places_on}
use Rattle.attr_section.specs.Textured.{is_textured, orientations_at, texture_corrected_at, texture_from, textured_at}
use Rattle.attr_section.specs.Squared.{square_facts, square_prediction_of, is_square_prediction, tested_square_prediction, square_prediction_at, is_square, square_at, flips_at, square_transform_at, squared, square_corrected_at, square_predicted_at}
use Rattle.texture_values.specs.Restored.{restored_texture}
use Rattle.drc_container.proofs.lemmas.reading.Parted.{given, parts, either}
use Rattle.laws_stream.proofs.reading.Bytes.{BytesAhead, Leaves, LeavesBytes, ok-leaves, fault-leaves, then-leaves, either-leaves, must-leaves, many-leaves, many-bytes, each-leaves, each-bytes, number-leaves, signed-leaves, var32-leaves, number-below, var32-below}
use Rattle.laws_stream.proofs.reading.BytesOfBlocks.{bit_block-leaves, block-leaves}

-- ---- heads

-- the fields of a head that stand before its quantisation
pub record BareFields (h : Head) : Type 0 where
  pub normalized : h.normalized < 256
  pub id : h.id < 2 ^ 32

head-fields : (c : Reading) → BytesAhead c → Leaves BareFields (head_at c)
unfolding head_at
head-fields c here y is =
    let has_comps : ℕ → Bool = λ n. nat_le 1 n && nat_le n MAX_COMPONENTS in
    let p = parts (must kind.AttrType (λ n. nat_le n 4) (number_at 1) c) _ y is in
    let q = parts (must kind.DataType is_type (number_at 1) p.0.1) _ y p.2 in
    let r = parts (must kind.Components has_comps (number_at 1) q.0.1) _ y q.2 in
    let s = parts (number_at 1 r.0.1) _ y r.2 in
    let last : ℕ × Reading → Item Head =
    λ x. Ok (record { usage = p.0.0; dtype = q.0.0; comps = r.0.0; normalized = s.0.0; id = x.0; quant = None; octa = None }, x.1) in
    let t = parts (var32_at s.0.1) last y s.2 in
    let hp = must-leaves kind.AttrType (λ n. nat_le n 4) (number_at 1) c (number-leaves 1 c here) p.0 p.1 in
    let hq = must-leaves kind.DataType is_type (number_at 1) p.0.1 (number-leaves 1 p.0.1 hp) q.0 q.1 in
    let hr = must-leaves kind.Components has_comps (number_at 1) q.0.1 (number-leaves 1 q.0.1 hq) r.0 r.1 in
    let flag = number-below 1 r.0.1 hr s.0 s.1 in
    let id = var32-below s.0.1 t.0 t.1 in
    let h : Head = record { usage = p.0.0; dtype = q.0.0; comps = r.0.0; normalized = s.0.0; id = t.0.0; quant = None; octa = None } in
    given (λ (z : Head × Reading). BareFields z.0 × BytesAhead z.1) (h, t.0.1) y t.2
    (record { normalized = omega (arith, flag.0); id = id }, var32-leaves s.0.1 flag.1 t.0 t.1)

known-leaves : (p : Profile) (c : Reading) → BytesAhead c → LeavesBytes (known_coding_at p c)
unfolding known_coding_at
known-leaves p c here = then-leaves (number_at 1 c) _ (number-leaves 1 c here) (λ k hk. tested (coding_of k.0) k.1 hk)
  where
    tested : (q : Option Coding) (after : Reading) → BytesAhead after → LeavesBytes (tested_coding p c q after)
    tested None after ahead = fault-leaves kind.Coding c
    tested (Some q) after ahead = either-leaves (nat_le (coding_facts q).since p.number) _ _ (ok-leaves q after ahead) (fault-leaves (coding_facts q).refused_as c)

coding-leaves : (p : Profile) (h : Head) (c : Reading) → BytesAhead c → LeavesBytes (coding_at p h c)
unfolding coding_at
coding-leaves p h c here = must-leaves kind.Coding (λ q. goes_with q h) (known_coding_at p) c (known-leaves p c here)

coded-fields : (p : Profile) (h : Head) → BareFields h → (c : Reading) → BytesAhead c → Leaves BareFields (coded_at p h c)
unfolding coded_at
coded-fields p h bare c here y is =
    let k = parts (coding_at p h c) _ y is in
    given (λ (z : Head × Reading). BareFields z.0 × BytesAhead z.1) (coded k.0.0 h, k.0.1) y k.2
    (record { normalized = bare.normalized; id = bare.id }, coding-leaves p h c here k.0 k.1)

attribute-count-leaves : (before : ℕ) (c : Reading) → BytesAhead c → LeavesBytes (attribute_count_at before c)
attribute-count-leaves before c here =
    must-leaves kind.AttrLimit (λ n. nat_le (before + n) MAX_ATTRIBUTES) (must kind.NoAttribute (λ n. nat_lt 0 n) var32_at) c
    (must-leaves kind.NoAttribute (λ n. nat_lt 0 n) var32_at c (var32-leaves c here))

-- each head of a decoder has the fields of bytes
abbrev pub HeadsHaveBareFields : DecoderHead → Type 0
HeadsHaveBareFields d = All BareFields d.heads

decoder-fields : (p : Profile) (before : ℕ) (link : Link) (c : Reading) → BytesAhead c → Leaves HeadsHaveBareFields (decoder_at p before link c)
unfolding decoder_at
decoder-fields profile before link c here y is =
    let p = parts (attribute_count_at before c) _ y is in
    let q = parts (many_at head_at p.0.0 p.0.1) _ y p.2 in
    let r = parts (codings_at profile q.0.0 q.0.1) _ y q.2 in
    let hp = attribute-count-leaves before c here p.0 p.1 in
    let hq = many-leaves BareFields head_at head-fields p.0.0 p.0.1 hp q.0 q.1 in
    let hr = each-leaves BareFields BareFields (λ _ (h : Head). coded_at profile h) (λ _ h. coded-fields profile h) q.0.0 hq.0 [] (All-nil BareFields) q.0.1 hq.1 r.0 r.1 in
    let d : DecoderHead = record { data_id = link.data_id; corner = link.corner; degree = link.degree; heads = r.0.0 } in
    given (λ (z : DecoderHead × Reading). HeadsHaveBareFields z.0 × BytesAhead z.1) (d, r.0.1) y r.2 hr

link-leaves : (blocks : ℕ) (before : List Link) (c : Reading) → BytesAhead c → LeavesBytes (link_at blocks before c)
unfolding link_at
link-leaves blocks before c here =
    let is_id : ℕ → Bool = λ id. is_known_id blocks id && not (is_used_id before id) in
    then-leaves (must kind.DataId is_id (number_at 1) c) _ (must-leaves kind.DataId is_id (number_at 1) c (number-leaves 1 c here)) (λ a ha.
    let is_element : ℕ → Bool = λ e. nat_le e (most_element a.0) in
    then-leaves (must kind.Element is_element (number_at 1) a.1) _ (must-leaves kind.Element is_element (number_at 1) a.1 (number-leaves 1 a.1 ha)) (λ b hb.
    let is_walk : ℕ → Bool = λ w. nat_le w (most_walk b.0) in
    then-leaves (must kind.Walk is_walk (number_at 1) b.1) _ (must-leaves kind.Walk is_walk (number_at 1) b.1 (number-leaves 1 b.1 hb)) (λ d hd.
    ok-leaves _ d.1 hd)))

links-leave : (a : Option ℕ) (n : ℕ) (c : Reading) → BytesAhead c → LeavesBytes (links_at a n c)
unfolding links_at linked_at
links-leave None n c here = ok-leaves _ c here
links-leave (Some blocks) n c here = each-bytes (λ before (_ : ℕ). link_at blocks before) (λ before _. link-leaves blocks before) (range_with_len 0 n) [] c here

-- the heads of all decoders
pub heads-fields : (p : Profile) (a : Option ℕ) (c : Reading) → BytesAhead c → Leaves (All HeadsHaveBareFields) (heads_at p a c)
unfolding heads_at decoder_count_at decoders_at
heads-fields profile a c here y is =
    let few : ℕ → Bool = λ n. nat_le n MAX_ATTRIBUTES in
    let some : ℕ → Bool = λ n. nat_lt 0 n in
    let p = parts (must kind.AttrLimit few (must kind.NoAttribute some (number_at 1)) c) _ y is in
    let q = parts (links_at a p.0.0 p.0.1) _ y p.2 in
    let hp = must-leaves kind.AttrLimit few (must kind.NoAttribute some (number_at 1)) c (must-leaves kind.NoAttribute some (number_at 1) c (number-leaves 1 c here)) p.0 p.1 in
    let hq = links-leave a p.0.0 p.0.1 hp q.0 q.1 in
    each-leaves HeadsHaveBareFields (λ (_ : Link). Unit {0}) (λ before link. decoder_at profile (attributes_of before) link)
    (λ front link _. decoder-fields profile (attributes_of front) link) q.0.0 (λ _ _ _. tt) [] (All-nil HeadsHaveBareFields) q.0.1 hq y q.2

-- ---- values

tested-leaves : (p : Profile) (c : Reading) (o : Option Prediction) (after : Reading) → BytesAhead after → LeavesBytes (tested_prediction p c o after)
tested-leaves p c None after here = fault-leaves kind.Prediction c
tested-leaves p c (Some q) after here = either-leaves (nat_le (facts q).since p.number) _ _ (ok-leaves q after here) (fault-leaves kind.Prediction c)

prediction-leaves : (p : Profile) (c : Reading) → BytesAhead c → LeavesBytes (prediction_at p c)
unfolding prediction_at
prediction-leaves p c here = then-leaves (number_at 1 c) _ (number-leaves 1 c here) (λ b hb. tested-leaves p c (prediction_of b.0) b.1 hb)

plain_value-leaves : (width : ℕ) (c : Reading) → BytesAhead c → LeavesBytes (plain_value_at width c)
unfolding plain_value_at
plain_value-leaves width c here = then-leaves (number_at width c) _ (number-leaves width c here) (λ x hx. ok-leaves (signed_of x.0) x.1 hx)

integers-leave : (comps n : ℕ) (c : Reading) → BytesAhead c → LeavesBytes (integers_at comps n c)
unfolding integers_at plain_values_at byte_width_at compressed_values_at
integers-leave comps n c here =
    then-leaves (number_at 1 c) _ (number-leaves 1 c here) (λ a ha.
    let few : ℕ → Bool = λ w. nat_le 1 w && nat_le w 4 in
    either-leaves (a.0 == 0) _ _
    (then-leaves (must kind.ByteWidth few (number_at 1) a.1) _ (must-leaves kind.ByteWidth few (number_at 1) a.1 (number-leaves 1 a.1 ha)) (λ b hb.
    many-bytes (plain_value_at b.0) (plain_value-leaves b.0) n b.1 hb))
    (then-leaves (block_at n comps a.1) _ (block-leaves n comps a.1 ha) (λ b hb. ok-leaves (map signed_of b.0) b.1 hb)))

flags-leave : (corners : ℕ) (c : Reading) → BytesAhead c → LeavesBytes (flags_at corners c)
unfolding flags_at flag_bits_at
flags-leave corners c here =
    then-leaves (flag_count_at corners c) _ (must-leaves kind.FlagCount (λ n. nat_le n corners) var32_at c (var32-leaves c here)) (λ a ha.
    either-leaves (a.0 == 0) _ _ (ok-leaves [] a.1 ha) (then-leaves (bit_block_at a.1) _ (bit_block-leaves a.1 ha) (λ b hb. ok-leaves _ b.1 hb)))

range-leaves : (c : Reading) → BytesAhead c → LeavesBytes (range_at c)
unfolding range_at
range-leaves c here =
    then-leaves (signed_at c) _ (signed-leaves c here) (λ a ha.
    then-leaves (signed_at a.1) _ (signed-leaves a.1 ha) (λ b hb.
    let r : Range = record { low = a.0; high = b.0 } in
    either-leaves (can_wrap r) _ _ (ok-leaves r b.1 hb) (fault-leaves kind.WrapRange c)))

transform-leaves : (c : Reading) → BytesAhead c → LeavesBytes (transform_at c)
unfolding transform_at
transform-leaves c here = then-leaves (number_at 1 c) _ (number-leaves 1 c here) (λ b hb. tested (transform_of b.0) b.1 hb)
  where
    tested : (t : Option Transform) (after : Reading) → BytesAhead after → LeavesBytes (tested_transform c t after)
    tested None after ahead = fault-leaves kind.Transform c
    tested (Some t) after ahead = ok-leaves t after ahead

behind-leaves : (b : Behind) (w : Ordered) (c : Reading) → BytesAhead c → LeavesBytes (behind_at b w c)
unfolding behind_at flag_lists_at
behind-leaves behind.Nothing w c here = then-leaves (range_at c) _ (range-leaves c here) (λ r hr. ok-leaves _ r.1 hr)
behind-leaves (behind.FlagLists count) w c here =
    then-leaves (flag_lists_at count w c) _ (many-bytes (flags_at (length w.entries)) (flags-leave (length w.entries)) count c here) (λ d hd.
    then-leaves (range_at d.1) _ (range-leaves d.1 hd) (λ r hr. ok-leaves _ r.1 hr))

restored-leaves : (at : ℕ) (due : Result (List ℤ) Kind) (after : Reading) → BytesAhead after → LeavesBytes (restored_at at due after)
restored-leaves at (Ok vs) after here = ok-leaves vs after here
restored-leaves at (Err k) after here = λ y is. absurd (err≢ok is)

corrected-leaves : (at : ℕ) (w : Ordered) (q : Prediction) (comps n : ℕ) (c : Reading) → BytesAhead c → LeavesBytes (corrected_at at w q comps n c)
unfolding corrected_at
corrected-leaves at w q comps n c here =
    then-leaves (transform_at c) _ (transform-leaves c here) (λ a ha.
    then-leaves (integers_at comps n a.1) _ (integers-leave comps n a.1 ha) (λ b hb.
    then-leaves (behind_at (facts q).behind w b.1) _ (behind-leaves (facts q).behind w b.1 hb) (λ d hd.
    restored-leaves at (restored_with a.0 q w comps d.0.0 d.0.1 b.0) d.1 hd)))

plain-leaves : (p : Profile) (w : Option Ordered) (h : Head) (n : ℕ) (c : Reading) → BytesAhead c → LeavesBytes (plain_typed_at p w h n c)
unfolding plain_typed_at predicted_at
plain-leaves p w h n c here =
    then-leaves (prediction_at p c) _ (prediction-leaves p c here) (λ a ha.
    then-leaves (predicted_at c.place w a.0 h.comps n a.1) _
    (either-leaves (facts a.0).corrects _ _
    (either-leaves (lacks_surface a.0 w) _ _ (λ y is. absurd (err≢ok is)) (corrected-leaves c.place (surface_or w) a.0 h.comps n a.1 ha))
    (integers-leave h.comps n a.1 ha))
    (λ b hb. either-leaves (list_all (in_bounds (type_bounds h.dtype)) b.0) _ _ (ok-leaves _ b.1 hb) (λ y is. absurd (err≢ok is))))

orientations-leave : (entries : ℕ) (c : Reading) → BytesAhead c → LeavesBytes (orientations_at entries c)
unfolding orientations_at
orientations-leave entries c here =
    let few : ℕ → Bool = λ n. nat_le n entries in
    then-leaves (must kind.FlagCount few (number_at 4) c) _ (must-leaves kind.FlagCount few (number_at 4) c (number-leaves 4 c here)) (λ a ha.
    then-leaves (bit_block_at a.1) _ (bit_block-leaves a.1 ha) (λ b hb. ok-leaves _ b.1 hb))

texture_corrected-leaves : (at : ℕ) (w : Ordered) (ps : Positions) (n : ℕ) (c : Reading) → BytesAhead c → LeavesBytes (texture_corrected_at at w ps n c)
unfolding texture_corrected_at
texture_corrected-leaves at w ps n c here =
    then-leaves (transform_at c) _ (transform-leaves c here) (λ a ha.
    then-leaves (integers_at 2 n a.1) _ (integers-leave 2 n a.1 ha) (λ b hb.
    then-leaves (orientations_at (n / 2) b.1) _ (orientations-leave (n / 2) b.1 hb) (λ d hd.
    then-leaves (range_at d.1) _ (range-leaves d.1 hd) (λ r hr.
    restored-leaves at (restored_texture w (places_on ps w) r.0 d.0 b.0) r.1 hr))))

textured-leaves : (w : Option Ordered) (found : PositionsRead) (h : Head) (n : ℕ) (c : Reading) → BytesAhead c → LeavesBytes (textured_typed_at w found h n c)
unfolding textured_typed_at textured_at
textured-leaves w found h n c here =
    then-leaves (textured_at w found n c) _
    (then-leaves (number_at 1 c) _ (number-leaves 1 c here) (λ b hb. from w (usable found) b.1 hb))
    (λ b hb. either-leaves (list_all (in_bounds (type_bounds h.dtype)) b.0) _ _ (ok-leaves _ b.1 hb) (λ y is. absurd (err≢ok is)))
  where
    from : (w : Option Ordered) (ps : Option Positions) (after : Reading) → BytesAhead after → LeavesBytes (texture_from c.place w ps n after)
    from None ps after ahead = λ y is. absurd (err≢ok is)
    from (Some w) None after ahead = λ y is. absurd (err≢ok is)
    from (Some w) (Some ps) after ahead = texture_corrected-leaves c.place w ps n after ahead

square_prediction-leaves : (p : Profile) (w : Option Ordered) (c : Reading) → BytesAhead c → LeavesBytes (square_prediction_at p w c)
unfolding square_prediction_at
square_prediction-leaves p w c here = then-leaves (number_at 1 c) _ (number-leaves 1 c here) (λ b hb. tested (square_prediction_of b.0) b.1 hb)
  where
    tested : (q : Option SquarePrediction) (after : Reading) → BytesAhead after → LeavesBytes (tested_square_prediction p w c q after)
    tested None after ahead = fault-leaves kind.Prediction c
    tested (Some q) after ahead = either-leaves (is_square_prediction p w q) _ _ (ok-leaves q after ahead) (fault-leaves kind.Prediction c)

square-leaves : (c : Reading) → BytesAhead c → LeavesBytes (square_at c)
unfolding square_at
square-leaves c here =
    then-leaves (must kind.QuantBits is_square (number_at 4) c) _ (must-leaves kind.QuantBits is_square (number_at 4) c (number-leaves 4 c here)) (λ a ha.
    then-leaves (number_at 4 a.1) _ (number-leaves 4 a.1 ha) (λ b hb. ok-leaves _ b.1 hb))

flips-leave : (q : SquarePrediction) (n : ℕ) (c : Reading) → BytesAhead c → LeavesBytes (flips_at q n c)
unfolding flips_at
flips-leave q n c here =
    either-leaves (square_facts q).takes_positions _ _ (then-leaves (bit_block_at c) _ (bit_block-leaves c here) (λ b hb. ok-leaves _ b.1 hb)) (ok-leaves [] c here)

square_corrected-leaves : (at : ℕ) (q : SquarePrediction) (w : Option Ordered) (ps : Option Positions) (n : ℕ) (c : Reading) → BytesAhead c
    → LeavesBytes (square_corrected_at at q w ps n c)
unfolding square_corrected_at square_transform_at
square_corrected-leaves at q w ps n c here =
    let is_it : ℕ → Bool = λ b. b == (coding_facts Octahedral).transform in
    then-leaves (must kind.Transform is_it (number_at 1) c) _ (must-leaves kind.Transform is_it (number_at 1) c (number-leaves 1 c here)) (λ a ha.
    then-leaves (integers_at 2 n a.1) _ (integers-leave 2 n a.1 ha) (λ b hb.
    then-leaves (square_at b.1) _ (square-leaves b.1 hb) (λ d hd.
    then-leaves (flips_at q (n / 2) d.1) _ (flips-leave q (n / 2) d.1 hd) (λ f hf.
    restored-leaves at (squared q w ps d.0 f.0 b.0) f.1 hf))))

squared-leaves : (p : Profile) (w : Option Ordered) (found : PositionsRead) (n : ℕ) (c : Reading) → BytesAhead c → LeavesBytes (squared_typed_at p w found n c)
unfolding squared_typed_at square_predicted_at
squared-leaves p w found n c here =
    then-leaves (square_prediction_at p w c) _ (square_prediction-leaves p w c here) (λ a ha.
    then-leaves (square_predicted_at c.place a.0 w found n a.1) _
    (either-leaves ((square_facts a.0).takes_positions && is_none (usable found)) _ _ (λ y is. absurd (err≢ok is))
    (either-leaves (square_facts a.0).corrects _ _ (square_corrected-leaves c.place a.0 w (usable found) n a.1 ha) (integers-leave 2 n a.1 ha)))
    (λ b hb. ok-leaves _ b.1 hb))

typed-leaves : (p : Profile) (w : Option Ordered) (found : PositionsRead) (h : Head) (n : ℕ) (c : Reading) → BytesAhead c → LeavesBytes (typed_values_at p w found h n c)
unfolding typed_values_at
typed-leaves p w found h n c here =
    either-leaves (is_some h.octa) _ _ (squared-leaves p w found n c here)
    (either-leaves (is_textured p w h.comps c) _ _ (textured-leaves w found h n c here) (plain-leaves p w h n c here))

values-leave : (p : Profile) (w : Option Ordered) (found : PositionsRead) (h : Head) (entries spent : ℕ) (c : Reading) → BytesAhead c → LeavesBytes (values_at p w found h entries spent c)
unfolding values_at
values-leave p w found h entries spent c here =
    either-leaves (nat_le (spent + entries * h.comps) p.values) _ _ (typed-leaves p w found h (entries * h.comps) c here) (fault-leaves kind.ValueLimit c)

-- ---- quantisations

quant-fields : (comps : ℕ) (c : Reading) → BytesAhead c → Leaves QuantFields (quant_at comps c)
unfolding quant_at
quant-fields comps c here y is =
    let word : ℕ → Type 0 = λ v. v < 2 ^ 32 in
    let p = parts (many_at (number_at 4) comps c) _ y is in
    let q = parts (number_at 4 p.0.1) _ y p.2 in
    let r = parts (quant_bits_at q.0.1) _ y q.2 in
    let few : ℕ → Bool = λ b. nat_le 1 b && nat_le b 30 in
    let minima = many-leaves word (number_at 4) (number-below 4) comps c here p.0 p.1 in
    let range = number-below 4 p.0.1 minima.1 q.0 q.1 in
    let behind = must-leaves kind.QuantBits few (number_at 1) q.0.1 (number-leaves 1 q.0.1 range.1) r.0 r.1 in
    let quant : Quant = record { bits = r.0.0; range = q.0.0; min = p.0.0 } in
    given (λ (z : Quant × Reading). QuantFields z.0 × BytesAhead z.1) (quant, r.0.1) y r.2
    (record { range = range.0; min = recursion_from_All word p.0.0 minima.0 }, behind)

quant_of-fields : (h : Head) (c : Reading) → BytesAhead c → Leaves (λ q. IfSome q QuantFields) (quant_of_at h c)
unfolding quant_of_at
quant_of-fields h c here y is =
    either (IfSome y.0 QuantFields × BytesAhead y.1) (is_float h.dtype) (quant_at h.comps c >>= λ q. Ok (Some q.0, q.1)) (Ok (None, c)) y is
    (λ _ read.
    let p = parts (quant_at h.comps c) _ y read in
    let fields = quant-fields h.comps c here p.0 p.1 in
    given (λ (z : Option Quant × Reading). IfSome z.0 QuantFields × BytesAhead z.1) (Some p.0.0, p.0.1) y p.2 fields)
    (λ _ read. given (λ (z : Option Quant × Reading). IfSome z.0 QuantFields × BytesAhead z.1) (None, c) y read (tt, here))

quantised-fields : (h : Head) → BareFields h → (c : Reading) → BytesAhead c → Leaves HasFields (quantised_at h c)
unfolding quantised_at
quantised-fields h bare c here y is =
    let p = parts (quant_of_at h c) _ y is in
    let fields = quant_of-fields h c here p.0 p.1 in
    let o : Head = record h { quant = p.0.0 } in
    given (λ (z : Head × Reading). HasFields z.0 × BytesAhead z.1) (o, p.0.1) y p.2
    (record { normalized = bare.normalized; id = bare.id; quant = fields.0 }, fields.1)

squared-fields : (h : Head) (v : Values) → BareFields h → (c : Reading) → BytesAhead c → Leaves HasFields (squared_at h v c)
unfolding squared_at
squared-fields h v bare c here y is =
    let p = parts (square_bits_at c) _ y is in
    let behind = must-leaves kind.QuantBits are_octahedral_bits (number_at 1) c (number-leaves 1 c here) p.0 p.1 in
    let o : Head = record h { quant = None; octa = Some p.0.0 } in
    either (HasFields y.0 × BytesAhead y.1) (list_all (in_bounds (square_bounds p.0.0)) v.values) (Ok (o, p.0.1)) _ y p.2
    (λ _ read. given (λ (z : Head × Reading). HasFields z.0 × BytesAhead z.1) (o, p.0.1) y read
    (record { normalized = bare.normalized; id = bare.id; quant = tt }, behind))
    (λ _ read. absurd (err≢ok read))

completed-fields : (h : Head) (v : Values) → BareFields h → (c : Reading) → BytesAhead c → Leaves HasFields (completed_at h v c)
unfolding completed_at
completed-fields h v bare c here y is =
    either (HasFields y.0 × BytesAhead y.1) (is_some h.octa) (squared_at h v c) (quantised_at h c) y is
    (λ _ read. squared-fields h v bare c here y read) (λ _ read. quantised-fields h bare c here y read)

-- a decoder's values, and its heads with what stands at its end
pub decoder_values-fields : (p : Profile) (w : Option Ordered) (found : PositionsRead) (d : DecoderHead) (entries spent : ℕ) → HeadsHaveBareFields d → (c : Reading) → BytesAhead c
    → Leaves (λ x. All HasFields x.1.heads) (decoder_values_at p w found d entries spent c)
unfolding decoder_values_at columns_at quants_at
decoder_values-fields p w found d entries spent bare c here y is =
    let a = parts (columns_at p w found d.heads entries spent c) _ y is in
    let b = parts (quants_at d.heads a.0.0 a.0.1) _ y a.2 in
    let ha = each-bytes (attribute_at p w found d.heads entries spent) (λ before h. values-leave p w (with_attributes w found d.heads before) h entries (spent + values_in before)) d.heads [] c here a.0 a.1 in
    let hb = each-leaves HasFields BareFields (next_completed_at a.0.0) (λ front h. completed-fields h (get_or a.0.0 (length front) no_values)) d.heads bare [] (All-nil HasFields) a.0.1 ha b.0 b.1 in
    given (λ (z : (List Values × DecoderHead) × Reading). All HasFields z.0.1.heads × BytesAhead z.1) ((a.0.0, record d { heads = b.0.0 }), b.0.1) y b.2 hb
