-- A written stream is coded as chosen.
use Rattle.drc_base.specs.Profile.{Profile, profile_numbered}
use Rattle.std.proofs.Common.{◌≡◌, ℕ, ◌+◌, ◌≤◌, true, false, Bool, List, [], ◌∷◌, ◌++◌, ◌-◌, map, length, drop, replicate, append-nil, get_or, Option, None, Some, Result, Ok, Err, ◌==◌, refl, sym, ◌∙◌, ap, subst, inl, inr, arith, append_assoc, length-append, nat_le, if◌then◌else◌}
use Rattle.std.specs.Prelude.{ℤ, slice_index, unsigned_abs}
use Rattle.std.specs.List.{All, zip}
use Rattle.std.proofs.lemmas.Bool.{cases_Bool}
use Rattle.std.proofs.lemmas.List.{get_or-append-add, length-map}
use Rattle.std.proofs.lemmas.List.Elements.{All-head, All-tail, All-weaker}
use Rattle.std.proofs.Math.Seq.{drop-append_seam}
use Rattle.drc_base.specs.declared.kinds.Kind.{Kind}
use Rattle.drc_base.specs.declared.kinds.Kind.TheVariants as kind
use Rattle.drc_base.specs.declared.limits.TheConstants.{MAX_FACES, MAX_POINTS}
use Rattle.drc_base.specs.Steps.{◌>>=◌}
use Rattle.drc_bits.specs.Reading.{must}
use Rattle.drc_bits.specs.Numbers.{number_at}
use Rattle.drc_bits.specs.Varint.{var32_at, spelling}
use Rattle.drc_bits.specs.Spells.{Spells}
use Rattle.drc_bits.proofs.Spelled.{Spells-then, Spells-must, Spells-byte, Spells-var32}
use Rattle.attr_heads.specs.declared.heads.Head.{Head}
use Rattle.attr_heads.specs.declared.usages.TheConstants.{POSITION}
use Rattle.mesh_model.specs.declared.geometries.Geometry.{Geometry}
use Rattle.mesh_model.specs.declared.geometries.Geometry.TheVariants.{Mesh, Cloud}
use Rattle.mesh_model.specs.Parts.{MeshParts, IsMesh}
use Rattle.mesh_model.specs.IsGeometry.{IsGeometry}
use Rattle.mesh_model.specs.Contents.{is_mesh, heads_in, points_in}
use Rattle.seq_section.specs.declared.reading.Opening.{Opening}
use Rattle.seq_section.specs.Indices.{method_at, indices_opening_at, indices_opening_bytes, faces_bytes, indices_bytes}
use Rattle.predict.specs.declared.schemes.Prediction.{Prediction}
use Rattle.predict.specs.declared.schemes.Prediction.TheVariants as prediction
use Rattle.predict.specs.Schemes.{facts, code_of}
use Rattle.predict.specs.Restored.{corrections}
use Rattle.corner_table.specs.Ordered.{Ordered}
use Rattle.predict.specs.Surfaces.{surface_or}
use Rattle.predict.specs.Foretold.{foretold, marks_of}
use Rattle.predict.proofs.Named.{by_number}
use Rattle.attr_section.specs.declared.values.Values.{Values}
use Rattle.attr_heads.specs.HeadItems.{bare_head}
use Rattle.attr_section.specs.Heads.{bare_decoder, heads_at}
use Rattle.attr_section.specs.declared.square_predictions.SquarePrediction.{SquarePrediction}
use Rattle.attr_section.specs.declared.square_predictions.SquarePrediction.TheVariants as square
use Rattle.attr_section.specs.Positions.{Positions, PositionsRead, with_attribute, usable}
use Rattle.attr_section.specs.Squared.{square_facts, centre_of}
use Rattle.attr_section.specs.WrittenParts.{range_of, symbols_bytes, integers_bytes, range_bytes, behind_bytes, flagged_bytes, predicted_bytes, prediction_bytes}
use Rattle.attr_section.specs.WrittenSquares.{square_code, square_prediction_coded, settled_square, square_flips, square_corrections, square_bytes, flips_bytes, square_corrected_bytes, square_predicted_bytes, square_prediction_bytes}
use Rattle.attr_section.specs.WrittenTexture.{is_texture, projected_on, orientations_bytes, texture_corrected_bytes, texture_bytes, texture_settled}
use Rattle.attr_section.specs.Written.{values_bytes_under, values_bytes, settled_under, settled, found_behind, attributes_bytes as columns_bytes, ends_bytes, decoder_values_bytes, plain_code, CanAsk, ValuesPass, values_placed}
use Rattle.drc_container.specs.declared.choice.methods.Method.TheVariants as method
use Rattle.drc_container.specs.declared.choice.choices.Choice.{Choice}
use Rattle.drc_container.specs.choice.Choice.{method_of, predict_chosen, written_number, index_of, is_packed}
use Rattle.drc_container.specs.reading.Meaning.{attr_infos}
use Rattle.drc_container.specs.writing.Written.{header_bytes, sequential_connectivity_bytes, decoder_of, attribute_heads_bytes, sequential_attributes_bytes, values_of, stream_bytes}
use Rattle.drc_container.specs.writing.Encoded.{CanCodeInOrder, ConnectivitySpelled, AttributesSpelled}
use Rattle.drc_container.specs.writing.Layout.{compressed_behind, AttrLayout, Layout, attr_layouts, links_of, attr_data_of, links_layout, traversal_layout, traversal_of, index_layout, opening_method, layout_by, method_byte, attributes_chosen, layout_chosen, IsLaidOut}
use Rattle.drc_container.proofs.lemmas.writing.Codable.{ColumnsPass}
use Rattle.drc_container.proofs.lemmas.writing.Meanings.{profile_written, connectivity_place, attributes_place, info_written, stream-written}

-- whether values are compressed, as a byte
abbrev pub compressed_byte : Bool → ℕ
compressed_byte plain = if plain then 0 else 1

-- integers begin with that byte
integers-first : (plain : Bool) (comps : ℕ) (values : List ℤ) (rest : List ℕ) → get_or (integers_bytes plain comps values ++ rest) 0 0 ≡ compressed_byte plain
unfolding integers_bytes
integers-first true comps values rest = refl
integers-first false comps values rest = refl

-- symbols begin with that byte
symbols-first : (plain : Bool) (comps : ℕ) (symbols rest : List ℕ) → get_or (symbols_bytes plain comps symbols ++ rest) 0 0 ≡ compressed_byte plain
symbols-first true comps symbols rest = refl
symbols-first false comps symbols rest = refl

-- corrections begin with it behind the byte of their transform
corrected-first : (plain : Bool) (w : Ordered) (q : Prediction) (comps : ℕ) (lists : List (List Bool)) (values : List ℤ) (rest : List ℕ)
    → get_or (flagged_bytes plain w q comps lists values ++ rest) 1 0 ≡ compressed_byte plain
unfolding flagged_bytes
corrected-first plain w q comps lists values rest =
    let cs = corrections (foretold q w comps lists) (range_of values) values in
    let back = behind_bytes (facts q).behind lists (range_of values) in
    ap (λ bytes. get_or bytes 0 0) (append_assoc (integers_bytes plain comps cs) back rest) ∙ integers-first plain comps cs (back ++ rest)

-- values by single components begin with it behind the byte of their prediction, and behind that of the transform where they are corrected
behind-plain : (q : Prediction) → compressed_behind (code_of q) ≡ (if (facts q).corrects then 2 else 1)
behind-plain prediction.Off = refl
behind-plain prediction.Difference = refl
behind-plain prediction.Parallelogram = refl
behind-plain prediction.Multi = refl

predicted-first : (plain : Bool) (w : Option Ordered) (comps : ℕ) (values : List ℤ) (q : Prediction) (rest : List ℕ)
    → get_or (prediction_bytes plain w (Some q) comps values ++ rest) (compressed_behind (code_of q)) 0 ≡ compressed_byte plain
unfolding predicted_bytes
predicted-first plain w comps values q rest =
    ap (λ k. get_or (prediction_bytes plain w (Some q) comps values ++ rest) k 0) (behind-plain q)
    ∙ elim (cases_Bool (facts q).corrects) [
      | inl on ↦ rw on (corrected-first plain (surface_or w) q comps (marks_of q (surface_or w) comps values) values rest)
      | inr off ↦ rw off (integers-first plain comps values rest)
    ]

-- so do texture coordinates
texture-first : (plain : Bool) (w : Option Ordered) (values : List ℤ) (x : Result (List Bool × List ℤ) Kind) (rest : List ℕ)
    → get_or (texture_bytes plain w values x ++ rest) (compressed_behind (texture_settled x)) 0 ≡ compressed_byte plain
unfolding texture_corrected_bytes
texture-first plain w values (Ok x) rest =
    let back = orientations_bytes x.0 ++ range_bytes (range_of values) in
    ap (λ bytes. get_or bytes 0 0) (append_assoc (integers_bytes plain 2 x.1) back rest) ∙ integers-first plain 2 x.1 (back ++ rest)
texture-first plain w values (Err k) rest = predicted-first plain w 2 values prediction.Parallelogram rest

-- and octahedral values
square_by_number : (q : SquarePrediction) → square_prediction_coded (square_code q) ≡ Some q
square_by_number square.Off = refl
square_by_number square.Difference = refl
square_by_number square.Normals = refl

behind-square : (q : SquarePrediction) → compressed_behind (square_code q) ≡ (if (square_facts q).corrects then 2 else 1)
behind-square square.Off = refl
behind-square square.Difference = refl
behind-square square.Normals = refl

square-corrected-first : (plain : Bool) (q : SquarePrediction) (bits : ℕ) (flips : List Bool) (corrections : List ℤ) (rest : List ℕ)
    → get_or (square_corrected_bytes plain q bits flips corrections ++ rest) 1 0 ≡ compressed_byte plain
unfolding square_corrected_bytes
square-corrected-first plain q bits flips corrections rest =
    let symbols = map unsigned_abs corrections in
    let back = square_bytes bits ++ flips_bytes q flips in
    ap (λ bytes. get_or bytes 0 0) (append_assoc (symbols_bytes plain 2 symbols) back rest) ∙ symbols-first plain 2 symbols (back ++ rest)

square-first : (plain : Bool) (q : SquarePrediction) (w : Option Ordered) (ps : Option Positions) (bits : ℕ) (values : List ℤ) (rest : List ℕ)
    → get_or (square_prediction_bytes plain (Some q) w ps bits values ++ rest) (compressed_behind (square_code q)) 0 ≡ compressed_byte plain
unfolding square_predicted_bytes
square-first plain q w ps bits values rest =
    let c = centre_of bits in
    let flips = square_flips q w ps c values in
    ap (λ k. get_or (square_prediction_bytes plain (Some q) w ps bits values ++ rest) k 0) (behind-square q)
    ∙ elim (cases_Bool (square_facts q).corrects) [
      | inl on ↦ rw on (square-corrected-first plain q bits flips (square_corrections q w ps c flips values) rest)
      | inr off ↦ rw off (integers-first plain 2 values rest)
    ]

-- where it stands in the values of an attribute, by the number of the prediction that is settled
pub values-first : (plain : Bool) (w : Option Ordered) (found : PositionsRead) (h : Head) (v : Values) (rest : List ℕ) → CanAsk w h.octa h.comps v.predict v.values
    → get_or (values_bytes plain w found h v ++ rest) (compressed_behind (settled w found h v)) 0 ≡ compressed_byte plain
unfolding values_bytes settled
values-first plain w found h v rest asks = by h.octa asks
  where
    unsquared : (texture : Bool) (q : Prediction) → is_texture h.comps v.predict ≡ texture → plain_code h.comps v.predict ≡ code_of q
        → get_or (values_bytes_under plain w (usable found) None h.comps v ++ rest) (compressed_behind (settled_under w (usable found) None h.comps v)) 0 ≡ compressed_byte plain
    unsquared true q is asks = rw is (texture-first plain w v.values (projected_on w (usable found) v.values) rest)
    unsquared false q is asks =
        let code : v.predict ≡ code_of q = sym (rw is refl) ∙ asks in
        rw (is, code, by_number q) (predicted-first plain w h.comps v.values q rest)

    by : (octa : Option ℕ) → CanAsk w octa h.comps v.predict v.values
        → get_or (values_bytes_under plain w (usable found) octa h.comps v ++ rest) (compressed_behind (settled_under w (usable found) octa h.comps v)) 0 ≡ compressed_byte plain
    by None asks = unsquared (is_texture h.comps v.predict) asks.0 refl asks.1
    by (Some bits) asks = rw (asks.1, square_by_number asks.0) (square-first plain (settled_square w (usable found) bits v.values asks.0) w (usable found) bits v.values rest)

-- the element type and the walk of a sequential stream
abbrev unlinked : ℕ × ℕ
unlinked = (0, 0)

-- how an attribute of a sequential stream is coded
abbrev coded : ℤ → ℕ → AttrLayout
coded predict compressed = record { element = 0; walk = 0; predict = predict; compressed = compressed }

-- ---- without a surface no positions can be used

found-more : (found : PositionsRead) (h : Head) (values : List ℤ) → usable found ≡ None → usable (with_attribute found h values None) ≡ None
found-more PositionsRead.NotYet h values none = either (h.usage == POSITION)
  where
    either : (b : Bool) → usable (if b then PositionsRead.Unusable else PositionsRead.NotYet) ≡ None
    either true = refl
    either false = refl
found-more PositionsRead.Unusable h values none = none
found-more (PositionsRead.Usable ps) h values none = none

-- so the prediction that is settled doesn't depend on those before
settled-alone : (found : PositionsRead) (h : Head) (v : Values) → usable found ≡ None → settled None found h v ≡ settled None PositionsRead.NotYet h v
unfolding settled
settled-alone found h v none = ap (λ (ps : Option Positions). settled_under None ps h.octa h.comps v) none

-- values of which this is asked
abbrev AsksAlone : Head × Values → Type 0
AsksAlone (h, v) = CanAsk None h.octa h.comps v.predict v.values

-- how an attribute is coded by the sequential method
abbrev coded_alone : Bool → Head × Values → AttrLayout
coded_alone plain (h, v) = coded (settled None PositionsRead.NotYet h v) (compressed_byte plain)

-- the attributes that stand in these bytes are coded so
layouts : (plain : Bool) (n : ℕ) (bytes front rest : List ℕ) (place : ℕ) (found : PositionsRead) (heads : List Head) (values : List Values)
    → length values ≡ length heads → place ≡ length front → usable found ≡ None → All AsksAlone (zip heads values)
    → bytes ≡ front ++ (columns_bytes plain None found heads values ++ rest)
    → attr_layouts bytes (replicate (length heads) unlinked) (attr_infos n heads (values_placed plain None found place heads values))
    ≡ map (coded_alone plain) (zip heads values)
layouts plain n bytes front rest place found [] values same at none asks is = refl
layouts plain n bytes front rest place found (h ∷ heads) [] same at none asks is = absurd (omega (arith, same))
layouts plain n bytes front rest place found (h ∷ heads) (v ∷ values) same at none asks is =
    let this = values_bytes plain None found h v in
    let next = found_behind None found h v in
    let others = columns_bytes plain None next heads values in
    let predict : ℤ = settled None found h v in
    let skip : ℕ = compressed_behind predict in
    let parted : bytes ≡ front ++ (this ++ (others ++ rest)) = is ∙ ap (λ l. front ++ l) (append_assoc this others rest) in
    let byte : get_or bytes (place + skip) 0 ≡ compressed_byte plain =
    ap (λ l. get_or l (place + skip) 0) parted
    ∙ ap (λ p. get_or (front ++ (this ++ (others ++ rest))) (p + skip) 0) at
    ∙ get_or-append-add front (this ++ (others ++ rest)) skip 0
    ∙ values-first plain None found h v (others ++ rest) (All-head AsksAlone (h, v) (zip heads values) asks) in
    let again = layouts plain n bytes (front ++ this) rest (place + length this) next heads values (omega (arith, same))
    (omega (arith, at, length-append front this)) (found-more found h v.values none) (All-tail AsksAlone (h, v) (zip heads values) asks)
    (parted ∙ sym (append_assoc front this (others ++ rest))) in
    ap (λ c. coded predict c ∷ attr_layouts bytes (replicate (length heads) unlinked) (attr_infos n heads (values_placed plain None next (place + length this) heads values))) byte
    ∙ ap (λ (code : ℤ). coded code (compressed_byte plain) ∷ attr_layouts bytes (replicate (length heads) unlinked) (attr_infos n heads (values_placed plain None next (place + length this) heads values))) (settled-alone found h v none)
    ∙ ap (λ l. coded_alone plain (h, v) ∷ l) again

-- the opening of indices
opening-spelled : (n faces points method : ℕ) → faces ≤ MAX_FACES → points ≤ MAX_POINTS → method ≤ 1
    → Spells (indices_opening_at (profile_numbered n)) (indices_opening_bytes faces points method) (record { faces = faces; points = points; method = method })
unfolding indices_opening_at
opening-spelled n faces points method few_faces few_points known =
    let opening : Opening = record { faces = faces; points = points; method = method } in
    let f : nat_le faces MAX_FACES ≡ true = grind (arith, few_faces) in
    let p : nat_le points MAX_POINTS ≡ true = grind (arith, few_points) in
    let m : nat_le method 1 ≡ true = grind (arith, known) in
    subst (λ bytes. Spells (indices_opening_at (profile_numbered n)) bytes opening) (sym (append_assoc (spelling 5 faces) (spelling 5 points) (method ∷ [])))
    (Spells-then (must kind.FaceLimit (λ n. nat_le n MAX_FACES) var32_at) (λ f c. must kind.PointLimit (λ n. nat_le n MAX_POINTS) var32_at c >>= λ p. method_at p.1 >>= λ m. Ok (record { faces = f; points = p.0; method = m.0 }, m.1))
    (spelling 5 faces) (spelling 5 points ++ (method ∷ [])) faces opening
    (Spells-must kind.FaceLimit (λ n. nat_le n MAX_FACES) var32_at (spelling 5 faces) faces f (Spells-var32 faces (omega (arith, few_faces))))
    (Spells-then (must kind.PointLimit (λ n. nat_le n MAX_POINTS) var32_at) (λ p c. method_at c >>= λ m. Ok (record { faces = faces; points = p; method = m.0 }, m.1))
    (spelling 5 points) (method ∷ []) points opening
    (Spells-must kind.PointLimit (λ n. nat_le n MAX_POINTS) var32_at (spelling 5 points) points p (Spells-var32 points (omega (arith, few_points))))
    (record { reads = λ place rest. rw ((Spells-must kind.IndexMethod (λ n. nat_le n 1) (number_at 1) (method ∷ []) method m (Spells-byte method)).reads place rest) refl })))

-- the method of the indices of a written mesh
index-mesh : (n : ℕ) (m : MeshParts) (packed : Bool) (place : ℕ) (rest : List ℕ) → IsMesh m
    → opening_method (indices_opening_at (profile_numbered n) (record { place = place; rest = sequential_connectivity_bytes packed (Mesh m) ++ rest })) ≡ Some (if packed then 0 else 1)
unfolding indices_bytes
index-mesh n m packed place rest is =
    let code = if packed then 0 else 1 in
    let known : code ≤ 1 = code_known packed in
    let back = faces_bytes packed m.faces (length m.points) in
    ap (λ bytes. opening_method (indices_opening_at (profile_numbered n) (record { place = place; rest = bytes }))) (append_assoc (indices_opening_bytes (length m.faces) (length m.points) code) back rest)
    ∙ ap opening_method ((opening-spelled n (length m.faces) (length m.points) code is.few_faces is.points.few_points known).reads place (back ++ rest))
  where
    code_known : (packed : Bool) → (if packed then 0 else 1) ≤ 1
    code_known true = omega arith
    code_known false = omega arith

-- the parts of the bytes of a written stream
parts : (g : Geometry) (choice : Choice)
    → stream_bytes g choice ≡ (header_bytes 0 g ++ (sequential_connectivity_bytes (is_packed (index_of choice)) g ++ attribute_heads_bytes g))
    ++ (columns_bytes choice.plain_values None PositionsRead.NotYet (heads_in g) (values_of g (predict_chosen g choice)) ++ ends_bytes (heads_in g))
unfolding stream_bytes sequential_attributes_bytes decoder_values_bytes
parts g choice =
    let h = header_bytes 0 g in
    let c = sequential_connectivity_bytes (is_packed (index_of choice)) g in
    let a = attribute_heads_bytes g in
    let v = columns_bytes choice.plain_values None PositionsRead.NotYet (heads_in g) (values_of g (predict_chosen g choice)) ++ ends_bytes (heads_in g) in
    ap (λ l. h ++ l) (sym (append_assoc c a v)) ∙ sym (append_assoc h (c ++ a) v)

method-written : (g : Geometry) (choice : Choice) → slice_index (stream_bytes g choice) 8 ≡ 0
unfolding stream_bytes header_bytes
method-written g choice = refl

index-written : (g : Geometry) (choice : Choice) → IsGeometry g
    → index_layout (profile_written g choice) (stream_bytes g choice) (connectivity_place g) ≡ (if is_mesh g then Some (if is_packed (index_of choice) then 0 else 1) else None)
unfolding stream_bytes header_bytes
index-written (Mesh m) choice is =
    index-mesh (written_number (Mesh m) choice) m (is_packed (index_of choice)) (connectivity_place (Mesh m)) (sequential_attributes_bytes choice.plain_values (Mesh m) (predict_chosen (Mesh m) choice)) is
index-written (Cloud c) choice is = refl

index-chosen : (g : Geometry) (choice : Choice) → method_of g choice ≡ method.Seq
    → (layout_chosen g choice).index ≡ (if is_mesh g then Some (if is_packed (index_of choice) then 0 else 1) else None)
index-chosen (Mesh m) choice sequential = rw sequential refl
index-chosen (Cloud c) choice sequential = refl

-- how the attributes are coded by the sequential method
attributes-in_order : (g : Geometry) (choice : Choice) → method_of g choice ≡ method.Seq
    → attributes_chosen g choice ≡ map (coded_alone choice.plain_values) (zip (heads_in g) (values_of g (predict_chosen g choice)))
attributes-in_order g choice sequential = rw sequential refl

attributes-written : (g : Geometry) (choice : Choice) → CanCodeInOrder g choice → ColumnsPass (length (points_in g)) (heads_in g) (values_of g (predict_chosen g choice))
    → attr_layouts (stream_bytes g choice) (replicate (length (heads_in g)) unlinked) (info_written g choice).attrs ≡ (layout_chosen g choice).attributes
attributes-written g choice can pass =
    let h = header_bytes 0 g in
    let c = sequential_connectivity_bytes (is_packed (index_of choice)) g in
    let a = attribute_heads_bytes g in
    let values = values_of g (predict_chosen g choice) in
    let Passes : Head × Values → Type 0 = λ (x, v). ValuesPass None x v in
    layouts choice.plain_values (length (points_in g)) (stream_bytes g choice) (h ++ (c ++ a)) (ends_bytes (heads_in g)) (attributes_place g choice + length a)
    PositionsRead.NotYet (heads_in g) values pass.each_head
    (omega (arith, length-append h (c ++ a), length-append c a)) refl (All-weaker Passes AsksAlone (λ x passes. passes.asked) (zip (heads_in g) values) pass.each) (parts g choice)
    ∙ sym (attributes-in_order g choice can.sequential)

traversal-written : (g : Geometry) (choice : Choice) (place : ℕ) → traversal_layout (stream_bytes g choice) place ≡ None
unfolding stream_bytes header_bytes
traversal-written (Mesh m) choice place = refl
traversal-written (Cloud c) choice place = refl

-- the heads of the one decoder behind other bytes have neither element types nor walks
links-there : (p : Profile) (g : Geometry) (front back : List ℕ) (place : ℕ) → Spells (heads_at p None) (attribute_heads_bytes g) (bare_decoder (decoder_of g) ∷ [])
    → place ≡ length front
    → links_of (heads_at p None (record { place = place; rest = drop place (front ++ (attribute_heads_bytes g ++ back)) })) ≡ replicate (length (heads_in g)) unlinked
links-there p g front back place spells at =
    let a = attribute_heads_bytes g in
    ap (λ l. links_of (heads_at p None (record { place = place; rest = l }))) (ap (λ n. drop n (front ++ (a ++ back))) at ∙ drop-append_seam front (a ++ back))
    ∙ ap links_of (spells.reads place back)
    ∙ append-nil (replicate (length (map bare_head (heads_in g))) unlinked)
    ∙ ap (λ n. replicate n unlinked) (length-map (heads_in g) bare_head)

no-data : (g : Geometry) (choice : Choice) → attr_data_of (stream_bytes g choice) ≡ None
unfolding stream_bytes header_bytes
no-data g choice = refl

links-written : (g : Geometry) (choice : Choice) → AttributesSpelled choice.plain_values g (predict_chosen g choice)
    → links_layout (profile_written g choice) (stream_bytes g choice) (connectivity_place g + (attributes_place g choice - connectivity_place g)) ≡ replicate (length (heads_in g)) unlinked
links-written g choice attributes =
    let h = header_bytes 0 g in
    let c = sequential_connectivity_bytes (is_packed (index_of choice)) g in
    let a = attribute_heads_bytes g in
    let v = columns_bytes choice.plain_values None PositionsRead.NotYet (heads_in g) (values_of g (predict_chosen g choice)) ++ ends_bytes (heads_in g) in
    let place = connectivity_place g + (attributes_place g choice - connectivity_place g) in
    let at : place ≡ length (h ++ c) = omega (arith, length-append h c) in
    let joined : stream_bytes g choice ≡ (h ++ c) ++ (a ++ v) = parts g choice ∙ ap (λ l. l ++ v) (sym (append_assoc h c a)) ∙ append_assoc (h ++ c) a v in
    ap (λ beside. links_of (heads_at (profile_written g choice) beside (record { place = place; rest = drop place (stream_bytes g choice) }))) (no-data g choice)
    ∙ ap (λ l. links_of (heads_at (profile_written g choice) None (record { place = place; rest = drop place l }))) joined
    ∙ links-there (profile_written g choice) g (h ++ c) v place attributes.heads at

-- a written stream is coded as chosen
pub layout-written : (g : Geometry) (choice : Choice) → CanCodeInOrder g choice → IsGeometry g → ConnectivitySpelled (is_packed (index_of choice)) g
    → AttributesSpelled choice.plain_values g (predict_chosen g choice) → ColumnsPass (length (points_in g)) (heads_in g) (values_of g (predict_chosen g choice))
    → IsLaidOut g choice (stream_bytes g choice)
layout-written g choice can is connectivity attributes pass =
    let p = profile_written g choice in
    let bytes = stream_bytes g choice in
    let info = info_written g choice in
    let made : ℕ → Option ℕ → Option ℕ → List AttrLayout → Layout = λ m i t a. record { method = m; index = i; traversal = t; attributes = a } in
    let heads = info.connectivity.0 + info.connectivity.1 in
    let m : slice_index bytes 8 ≡ (layout_chosen g choice).method = method-written g choice ∙ sym (ap method_byte can.sequential) in
    let i : index_layout p bytes info.connectivity.0 ≡ (layout_chosen g choice).index = index-written g choice is ∙ sym (index-chosen g choice can.sequential) in
    let t : traversal_layout bytes info.connectivity.0 ≡ (layout_chosen g choice).traversal =
    traversal-written g choice info.connectivity.0 ∙ sym (ap traversal_of can.sequential) in
    let a : attr_layouts bytes (links_layout p bytes heads) info.attrs ≡ (layout_chosen g choice).attributes =
    ap (λ links. attr_layouts bytes links info.attrs) (links-written g choice attributes) ∙ attributes-written g choice can pass in
    let info_attrs = attr_layouts bytes (links_layout p bytes heads) info.attrs in
    let chosen = layout_chosen g choice in
    ap (λ r. r >>= λ d. Ok (layout_by p bytes d.info)) (stream-written g choice is connectivity attributes pass.each_head)
    ∙ ap Ok (
    ap (λ m. made m (index_layout p bytes info.connectivity.0) (traversal_layout bytes info.connectivity.0) info_attrs) m
    ∙ ap (λ i. made chosen.method i (traversal_layout bytes info.connectivity.0) info_attrs) i
    ∙ ap (λ t. made chosen.method chosen.index t info_attrs) t
    ∙ ap (λ a. made chosen.method chosen.index chosen.traversal a) a)
