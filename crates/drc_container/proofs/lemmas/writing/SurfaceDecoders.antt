-- The attributes of a mesh that is written by Edgebreaker, as they are read, one decoder after another.
use Rattle.drc_base.specs.Profile.{profile_numbered}
use Rattle.std.proofs.Common.{◌≡◌, ℕ, zero, suc, take, drop, ◌+◌, ◌-◌, ◌<◌, ◌≤◌, List, [], ◌∷◌, ◌++◌, map, flat_map, length, get_or, Some, Ok, refl, sym, ◌∙◌, ap, subst, arith, append_assoc, append-nil, length-append}
use Rattle.std.specs.Prelude.{sum_by}
use Rattle.std.specs.List.{All, enumerate_from, range_with_len}
use Rattle.std.proofs.lemmas.List.Elements.{All-head, All-tail}
use Rattle.std.proofs.lemmas.List.{take_more}
use Rattle.std.proofs.lemmas.List.FromFn.{length-enumerate_from, get_or-enumerate_from, length-map-range_with_len, map-range_with_len_more}
use Rattle.std.proofs.lemmas.List.Sums.{sum_by-cons, sum_by_push}
use Rattle.drc_base.specs.declared.limits.TheConstants.{MAX_VALUES}
use Rattle.drc_base.specs.Steps.{◌>>=◌}
use Rattle.drc_bits.specs.Reading.{Reading}
use Rattle.attr_heads.specs.declared.heads.Head.{Head}
use Rattle.mesh_model.specs.Groups.{AttrTable}
use Rattle.mesh_model.specs.Parts.{MeshParts, IsMesh}
use Rattle.attr_section.specs.declared.decoder_heads.DecoderHead.{DecoderHead}
use Rattle.attr_section.specs.declared.values.Values.{Values}
use Rattle.attr_section.specs.Heads.{bare_decoder, heads_at}
use Rattle.attr_section.specs.Positions.{PositionsRead}
use Rattle.attr_section.specs.Attributes.{values_in}
use Rattle.eb_section.specs.Connectivity.{Connectivity}
use Rattle.drc_container.specs.declared.choice.codings.Coding.{Coding}
use Rattle.drc_container.specs.declared.reading.info.AttrInfo.{AttrInfo}
use Rattle.drc_container.specs.reading.OnSurface.{SurfaceAttributes, ordered_for, no_attributes, decoder_attributes, attributes_joined, values_on, positions_from, positions_among, decoder_on, surface_decoders_at, attributes_on}
use Rattle.drc_container.specs.writing.WrittenOnSurface.{GluedMesh, decoded, surface_order, table_by, positions_before, coded_by, coded_values, decoder_for, decoders_for, seam_bits_of, seam_lists, attribute_bytes, values_bytes_on, decoder_heads_bytes}
use Rattle.drc_container.specs.choice.Predicts.{needed_number}
use Rattle.drc_container.specs.writing.Encoded.{CanCodeSurface, AttributeSpelled, SurfaceSpelled}
use Rattle.drc_container.proofs.lemmas.writing.SurfaceWritten.{attrs_written}
use Rattle.drc_container.proofs.lemmas.surface.Traced.{decoded-heads}
use Rattle.drc_container.proofs.lemmas.writing.SurfaceConnectivity.{connectivity_written}
use Rattle.drc_container.proofs.lemmas.surface.Seams.{ordered-read}

-- the attributes that are read of these, the first of which begins at this place
abbrev pub attributes_written : Coding → GluedMesh → ℕ → List (ℕ × Head) → SurfaceAttributes
attributes_written coding d place xs = record {
  heads = map (λ (k, h). h) xs;
  tables = map (λ (k, _). table_by coding d k) xs;
  info = attrs_written coding d place xs;
}

-- ---- one decoder

decoder-read : (n : ℕ) (coding : Coding) (d : GluedMesh) (k : ℕ) (h : Head) (spent place : ℕ) (rest : List ℕ) → AttributeSpelled n coding d k h
    → spent + length (coded_by coding d k).values ≤ MAX_VALUES
    → decoder_on (profile_numbered n) (surface_order coding d k) (positions_before coding d k) (bare_decoder (decoder_for coding d k h)) spent (record { place = place; rest = attribute_bytes coding d k h ++ rest })
    ≡ Ok (attributes_written coding d place ((k, h) ∷ []), record { place = place + length (attribute_bytes coding d k h); rest = rest })
unfolding decoder_on
decoder-read n coding d k h spent place rest spelled few =
    ap (λ x. x >>= λ x. Ok (decoder_attributes (surface_order coding d k) x.0.1 x.0.0, x.1))
    (spelled.reads spent place rest (omega (arith, few, sum_by-cons (λ (v : Values). length v.values) (coded_by coding d k) [])))

-- ---- several

joined-none : (before : SurfaceAttributes) → attributes_joined before no_attributes ≡ before
joined-none before =
    ap (λ (heads : List Head). record { heads = heads; tables = before.tables ++ []; info = before.info ++ [] }) (append-nil before.heads)
    ∙ ap (λ (tables : List AttrTable). record { heads = before.heads; tables = tables; info = before.info ++ [] }) (append-nil before.tables)
    ∙ ap (λ (info : List AttrInfo). record { heads = before.heads; tables = before.tables; info = info }) (append-nil before.info)

joined-assoc : (a b c : SurfaceAttributes) → attributes_joined (attributes_joined a b) c ≡ attributes_joined a (attributes_joined b c)
joined-assoc a b c =
    ap (λ (heads : List Head). record { heads = heads; tables = (a.tables ++ b.tables) ++ c.tables; info = (a.info ++ b.info) ++ c.info }) (append_assoc a.heads b.heads c.heads)
    ∙ ap (λ (tables : List AttrTable). record { heads = a.heads ++ (b.heads ++ c.heads); tables = tables; info = (a.info ++ b.info) ++ c.info }) (append_assoc a.tables b.tables c.tables)
    ∙ ap (λ (info : List AttrInfo). record { heads = a.heads ++ (b.heads ++ c.heads); tables = a.tables ++ (b.tables ++ c.tables); info = info }) (append_assoc a.info b.info c.info)

-- an attribute is spelled, and its decoder walks the surface as it was written
abbrev IsSpelled : ℕ → Coding → GluedMesh → Connectivity → ℕ × Head → Type 0
IsSpelled n coding d s x = AttributeSpelled n coding d x.0 x.1 × (ordered_for s (bare_decoder (decoder_for coding d x.0 x.1)) ≡ surface_order coding d x.0)

-- how many values an attribute has
abbrev count_written : Coding → GluedMesh → ℕ × Head → ℕ
count_written coding d x = length (coded_by coding d x.0).values

-- the bytes of these attributes
abbrev bytes_written : Coding → GluedMesh → List (ℕ × Head) → List ℕ
bytes_written coding d xs = flat_map (λ (k, h). attribute_bytes coding d k h) xs

-- their decoders
abbrev decoders_written : Coding → GluedMesh → List (ℕ × Head) → List DecoderHead
decoders_written coding d xs = map bare_decoder (map (λ (k, h). decoder_for coding d k h) xs)

-- the head of attribute k, where these are the heads from there on
record IsFirst (all : List Head) (k : ℕ) (h : Head) (heads : List Head) : Type 0 where
  pub has : k < length all
  pub is : h ≡ get_or all k h
  pub rest : heads ≡ drop (k + 1) all

drop-first : (all : List Head) (k : ℕ) (h : Head) (heads : List Head) → (h ∷ heads) ≡ drop k all → IsFirst all k h heads
drop-first [] zero h heads is = cc
drop-first [] (suc k) h heads is = cc
drop-first (g ∷ all) zero h heads is = record { has = omega arith; is = ap (λ (l : List Head). get_or l 0 h) is; rest = ap (λ (l : List Head). drop 1 l) is }
drop-first (g ∷ all) (suc k) h heads is =
    let next = drop-first all k h heads is in
    let more : suc k + 1 ≡ suc (k + 1) = omega arith in
    record { has = omega (arith, next.has); is = next.is; rest = rw more next.rest }

-- the first k attributes stand before, as they were written
pub record AreBefore (coding : Coding) (d : GluedMesh) (k : ℕ) (before : SurfaceAttributes) : Type 0 where
  pub heads : before.heads ≡ take k d.mesh.heads
  pub tables : before.tables ≡ map (table_by coding d) (range_with_len 0 k)

-- behind them stands what is found of the positions
before-positions : (coding : Coding) (d : GluedMesh) (k : ℕ) (before : SurfaceAttributes) → AreBefore coding d k before → positions_among before ≡ positions_before coding d k
unfolding positions_before
before-positions coding d k before are =
    ap (λ (heads : List Head). positions_from PositionsRead.NotYet heads before.tables) are.heads
    ∙ ap (λ (tables : List AttrTable). positions_from PositionsRead.NotYet (take k d.mesh.heads) tables) are.tables

-- one attribute more
before-more : (coding : Coding) (d : GluedMesh) (k place : ℕ) (h : Head) (before : SurfaceAttributes) → k < length d.mesh.heads → h ≡ get_or d.mesh.heads k h
    → AreBefore coding d k before → AreBefore coding d (k + 1) (attributes_joined before (attributes_written coding d place ((k, h) ∷ [])))
before-more coding d k place h before has is are = record {
  heads = ap (λ (heads : List Head). heads ++ h ∷ []) are.heads ∙ ap (λ (x : Head). take k d.mesh.heads ++ x ∷ []) is ∙ sym (take_more d.mesh.heads k h has);
  tables = ap (λ (tables : List AttrTable). tables ++ table_by coding d k ∷ []) are.tables ∙ sym (map-range_with_len_more (table_by coding d) 0 k k (omega arith));
}

decoders-read : (n : ℕ) (coding : Coding) (d : GluedMesh) (s : Connectivity) (k : ℕ) (heads : List Head) (before : SurfaceAttributes) (place : ℕ) (rest : List ℕ)
    → heads ≡ drop k d.mesh.heads → AreBefore coding d k before
    → All (IsSpelled n coding d s) (enumerate_from k heads) → values_on before.tables + sum_by (count_written coding d) (enumerate_from k heads) ≤ MAX_VALUES
    → surface_decoders_at (profile_numbered n) s before (decoders_written coding d (enumerate_from k heads)) (record { place = place; rest = bytes_written coding d (enumerate_from k heads) ++ rest })
    ≡ Ok (attributes_joined before (attributes_written coding d place (enumerate_from k heads)), record { place = place + length (bytes_written coding d (enumerate_from k heads)); rest = rest })
unfolding surface_decoders_at
decoders-read n coding d s k [] before place rest here are spelled few =
    ap (λ (a : SurfaceAttributes). Ok (a, record { place = place; rest = rest })) (sym (joined-none before))
    ∙ ap (λ (m : ℕ). Ok (attributes_joined before no_attributes, record { place = m; rest = rest })) (let e : place ≡ place + 0 = omega arith in e)
decoders-read n coding d s k (h ∷ heads) before place rest here are spelled few =
    let p = profile_numbered n in
    let x : ℕ × Head = (k, h) in
    let xs : List (ℕ × Head) = enumerate_from (k + 1) heads in
    let bytes : List ℕ = attribute_bytes coding d k h in
    let others : List ℕ = bytes_written coding d xs in
    let one : SurfaceAttributes = attributes_written coding d place (x ∷ []) in
    let this : IsSpelled n coding d s x = All-head (IsSpelled n coding d s) x xs spelled in
    let next : SurfaceAttributes × Reading → _ = λ y. surface_decoders_at p s (attributes_joined before y.0) (decoders_written coding d xs) y.1 in
    let counted = sum_by-cons (count_written coding d) x xs in
    let more : values_on (attributes_joined before one).tables ≡ values_on before.tables + count_written coding d x = sum_by_push (λ (t : AttrTable). length t.values) before.tables (table_by coding d k) in
    let end : place + length bytes + length others ≡ place + length (bytes ++ others) = omega (arith, length-append bytes others) in
    let named = drop-first d.mesh.heads k h heads here in
    ap (λ after. decoder_on p (ordered_for s (bare_decoder (decoder_for coding d k h))) (positions_among before) (bare_decoder (decoder_for coding d k h)) (values_on before.tables) (record { place = place; rest = after }) >>= next)
    (append_assoc bytes others rest)
    ∙ ap (λ w. decoder_on p w (positions_among before) (bare_decoder (decoder_for coding d k h)) (values_on before.tables) (record { place = place; rest = bytes ++ (others ++ rest) }) >>= next) this.1
    ∙ ap (λ (found : PositionsRead). decoder_on p (surface_order coding d k) found (bare_decoder (decoder_for coding d k h)) (values_on before.tables) (record { place = place; rest = bytes ++ (others ++ rest) }) >>= next) (before-positions coding d k before are)
    ∙ ap (λ y. y >>= next) (decoder-read n coding d k h (values_on before.tables) place (others ++ rest) this.0 (omega (arith, few, counted)))
    ∙ decoders-read n coding d s (k + 1) heads (attributes_joined before one) (place + length bytes) rest named.rest (before-more coding d k place h before named.has named.is are)
    (All-tail (IsSpelled n coding d s) x xs spelled) (omega (arith, few, counted, more))
    ∙ ap (λ (a : SurfaceAttributes). Ok (a, record { place = place + length bytes + length others; rest = rest })) (joined-assoc before one (attributes_written coding d (place + length bytes) xs))
    ∙ ap (λ (m : ℕ). Ok (attributes_joined before (attributes_written coding d place (x ∷ xs)), record { place = m; rest = rest })) end

-- ---- all

-- numbered items, by their numbers
sum-numbered : {A B : Type 0} (count : B → ℕ) (f : ℕ → B) (j : ℕ) (xs : List A)
    → sum_by (λ x. count (f x.0)) (enumerate_from j xs) ≡ sum_by count (map f (range_with_len j (length xs)))
sum-numbered count f j [] = refl
sum-numbered count f j (x ∷ xs) =
    sum_by-cons (λ y. count (f y.0)) (j, x) (enumerate_from (j + 1) xs)
    ∙ ap (λ n. count (f j) + n) (sum-numbered count f (j + 1) xs)
    ∙ sym (sum_by-cons count (f j) (map f (range_with_len (j + 1) (length xs))))

-- what holds of each numbered item
numbered-all : {A : Type 0} (P : ℕ × A → Type 0) (xs : List A) → ((k : ℕ) (h : A) → k < length xs → P (k, h)) → All P (enumerate_from 0 xs)
numbered-all P xs each i y below =
    let long = length-enumerate_from 0 xs in
    subst P (sym (get_or-enumerate_from 0 xs i y (omega arith))) (each (0 + i) (get_or xs i y.1) (omega arith))

pub numbered-each : {A : Type 0} (P : ℕ × A → Type 0) (xs : List A) → ((k : ℕ) (e : A) → k < length xs → P (k, get_or xs k e)) → All P (enumerate_from 0 xs)
numbered-each P xs each i y below =
    let long = length-enumerate_from 0 xs in
    let within : i < length xs = omega arith in
    let here : 0 + i ≡ i = omega arith in
    subst P (sym (get_or-enumerate_from 0 xs i y within ∙ ap (λ (k : ℕ). (k, get_or xs i y.1)) here)) (each i y.1 within)

-- the values of all attributes are within the limit
few-written : (coding : Coding) (d : GluedMesh) → values_in (coded_values coding d) ≤ MAX_VALUES → sum_by (count_written coding d) (enumerate_from 0 d.mesh.heads) ≤ MAX_VALUES
unfolding coded_values
few-written coding d few =
    let same = sum-numbered (λ (v : Values). length v.values) (coded_by coding d) 0 d.mesh.heads in
    omega (arith, few, same)

-- all attributes
pub attributes-read : (coding : Coding) (m : MeshParts) → IsMesh m → CanCodeSurface coding m → (parts : SurfaceSpelled coding m) (place : ℕ) (rest : List ℕ)
    → attributes_on (profile_numbered (needed_number coding.predict m.heads)) (connectivity_written coding m parts.connectivity.blocks)
    (record { place = place; rest = decoder_heads_bytes coding (decoded m) ++ (values_bytes_on coding (decoded m) ++ rest) })
    ≡ Ok (
      attributes_written coding (decoded m) (place + length (decoder_heads_bytes coding (decoded m))) (enumerate_from 0 m.heads),
      record { place = place + length (decoder_heads_bytes coding (decoded m)) + length (values_bytes_on coding (decoded m)); rest = rest },
    )
unfolding attributes_on decoders_for
attributes-read coding m is can parts place rest =
    let d : GluedMesh = decoded m in
    let n = needed_number coding.predict m.heads in
    let p = profile_numbered n in
    let s : Connectivity = connectivity_written coding m parts.connectivity.blocks in
    let xs : List (ℕ × Head) = enumerate_from 0 d.mesh.heads in
    let same = decoded-heads m in
    let count : length (seam_lists d) ≡ length m.heads - 1 =
    length-map-range_with_len (seam_bits_of d) 1 (length d.mesh.heads - 1) ∙ ap (λ (heads : List Head). length heads - 1) same in
    let heads : List ℕ = decoder_heads_bytes coding d in
    let values : List ℕ = values_bytes_on coding d in
    let spelled : All (IsSpelled n coding d s) xs = λ i y below. (
      subst (λ (l : List Head). All (λ (k, h). AttributeSpelled n coding d k h) (enumerate_from 0 l)) (sym same) parts.values i y below,
      numbered-all (λ x. ordered_for s (bare_decoder (decoder_for coding d x.0 x.1)) ≡ surface_order coding d x.0) d.mesh.heads
          (λ k h inside. ordered-read coding m parts.connectivity.blocks k h is can.proper parts.connectivity.seam_bits (subst (λ (l : List Head). k < length l) same inside)) i y below,
    ) in
    ap (λ k. heads_at p (Some k) (record { place = place; rest = heads ++ (values ++ rest) }) >>= λ decoders. surface_decoders_at p s no_attributes decoders.0 decoders.1) count
    ∙ ap (λ y. y >>= λ decoders. surface_decoders_at p s no_attributes decoders.0 decoders.1) (parts.heads.reads place (values ++ rest))
    ∙ decoders-read n coding d s 0 d.mesh.heads no_attributes (place + length heads) rest refl (record { heads = refl; tables = refl }) spelled (omega (arith, few-written coding d can.values.few))
    ∙ ap (λ (l : List Head). Ok (attributes_written coding d (place + length heads) (enumerate_from 0 l), record { place = place + length heads + length values; rest = rest })) same
