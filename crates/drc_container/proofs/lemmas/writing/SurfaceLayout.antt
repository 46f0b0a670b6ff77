-- A stream that is written by Edgebreaker is coded as chosen.
use Rattle.std.proofs.Common.{◌≡◌, ℕ, ◌+◌, ◌-◌, false, Bool, List, [], ◌∷◌, ◌++◌, map, length, drop, get_or, Option, None, Some, Ok, refl, sym, ◌∙◌, ap, arith, append_assoc, append-nil, length-append, subst, if◌then◌else◌}
use Rattle.std.specs.Prelude.{slice_index}
use Rattle.std.specs.List.{All, flat_map, range_with_len, enumerate_from, zip}
use Rattle.std.proofs.lemmas.List.Elements.{All-head, All-tail}
use Rattle.std.proofs.lemmas.List.{get_or-append-add}
use Rattle.std.proofs.Math.Seq.{drop-append_seam}
use Rattle.drc_base.specs.Steps.{◌>>=◌}
use Rattle.drc_bits.specs.Reading.{Reading}
use Rattle.attr_heads.specs.declared.heads.Head.{Head}
use Rattle.mesh_model.specs.declared.geometries.Geometry.TheVariants.{Mesh}
use Rattle.mesh_model.specs.Parts.{MeshParts, IsMesh}
use Rattle.attr_heads.proofs.Passing.{heads_say}
use Rattle.eb_section.specs.Written.{connectivity_bytes, opening_bytes}
use Rattle.attr_section.specs.Heads.{position_id, bare_decoder, heads_at}
use Rattle.attr_section.specs.Written.{values_bytes, ends_bytes, decoder_values_bytes, CanAsk}
use Rattle.drc_container.specs.declared.choice.codings.Coding.{Coding}
use Rattle.drc_container.specs.declared.choice.methods.Method.{Method}
use Rattle.drc_container.specs.declared.choice.methods.Method.TheVariants as method
use Rattle.drc_container.specs.declared.choice.choices.Choice.{Choice}
use Rattle.drc_container.specs.choice.Choice.{method_of, is_sequential, is_valence, predict_chosen}
use Rattle.drc_container.specs.choice.CanCode.{CanCode}
use Rattle.drc_container.specs.reading.Stream.{stream_in}
use Rattle.drc_container.specs.writing.Written.{header_bytes, values_of}
use Rattle.drc_container.specs.writing.WrittenOnSurface.{GluedMesh, decoded, is_cornered, is_by_degree, surface_order, coded_by, coded_values, positions_before, decoder_for, decoders_for, attribute_bytes, values_bytes_on, decoder_heads_bytes, connectivity_of, edgebreaker_bytes}
use Rattle.drc_container.specs.writing.Chosen.{coding_of}
use Rattle.drc_container.specs.writing.Encoded.{CanCodeSurface, SurfaceSpelled}
use Rattle.drc_container.specs.writing.Layout.{compressed_behind, AttrLayout, Layout, attr_layouts, links_of, attr_data_of, links_layout, traversal_layout, traversal_of, index_layout, layout_by, method_byte, bit_byte, attr_in_order, attr_on_surface, layout_chosen, IsLaidOut}
use Rattle.drc_container.proofs.lemmas.reading.HeadsBeside.{heads-more}
use Rattle.drc_container.proofs.lemmas.writing.Layouts.{compressed_byte, values-first}
use Rattle.drc_container.proofs.lemmas.surface.Decoded.{decoded-keeps}
use Rattle.drc_container.proofs.lemmas.writing.SurfaceParts.{attribute-asks}
use Rattle.drc_container.proofs.lemmas.writing.SurfaceDecoders.{numbered-each}
use Rattle.drc_container.proofs.lemmas.writing.SurfaceRead.{profile_for}
use Rattle.drc_container.proofs.lemmas.writing.SurfaceWritten.{settled_on, surface_place, heads_place, values_place, attrs_written, info_written, meaning_written}

-- values of attribute k, which has this head, may have what is asked of them
abbrev pub Asks : Coding → GluedMesh → ℕ × Head → Type 0
Asks coding d (k, h) = CanAsk (Some (surface_order coding d k)) h.octa h.comps (coded_by coding d k).predict (coded_by coding d k).values

-- where the byte stands that says whether they are compressed, in the values of an attribute
attribute-first : (coding : Coding) (d : GluedMesh) (k : ℕ) (h : Head) (rest : List ℕ) → Asks coding d (k, h)
    → get_or (attribute_bytes coding d k h ++ rest) (compressed_behind (settled_on coding d k h)) 0 ≡ compressed_byte coding.plain
unfolding decoder_values_bytes
attribute-first coding d k h rest asks =
    let w = Some (surface_order coding d k) in
    let found = positions_before coding d k in
    let v = coded_by coding d k in
    let skip = compressed_behind (settled_on coding d k h) in
    let this = values_bytes coding.plain w found h v in
    let ends = ends_bytes (h ∷ []) in
    let parted : ((this ++ []) ++ ends) ++ rest ≡ this ++ (ends ++ rest) =
    ap (λ l. (l ++ ends) ++ rest) (append-nil this) ∙ append_assoc this ends rest in
    ap (λ l. get_or l skip 0) parted ∙ values-first coding.plain w found h v (ends ++ rest) asks

-- the element type and the walk of attribute k
abbrev linked : Coding → GluedMesh → ℕ → ℕ × ℕ
linked coding d k = (bit_byte (is_cornered d k), bit_byte (is_by_degree coding d k))

-- how attribute k, which has this head, is coded, with this byte
abbrev coded_with : Coding → GluedMesh → ℕ → Head → ℕ → AttrLayout
coded_with coding d k h compressed =
    record { element = bit_byte (is_cornered d k); walk = bit_byte (is_by_degree coding d k); predict = settled_on coding d k h; compressed = compressed }

abbrev coded : Coding → GluedMesh → ℕ × Head → AttrLayout
coded coding d (k, h) = coded_with coding d k h (compressed_byte coding.plain)

-- the values of attributes from attribute k on
abbrev values_from : Coding → GluedMesh → ℕ → List Head → List ℕ
values_from coding d k heads = flat_map (λ (j, h). attribute_bytes coding d j h) (enumerate_from k heads)

-- the attributes that stand in these bytes are coded so
layouts : (coding : Coding) (d : GluedMesh) (bytes front : List ℕ) (place k : ℕ) (heads : List Head) → place ≡ length front → All (Asks coding d) (enumerate_from k heads)
    → bytes ≡ front ++ values_from coding d k heads
    → attr_layouts bytes (map (linked coding d) (range_with_len k (length heads))) (attrs_written coding d place (enumerate_from k heads))
    ≡ map (coded coding d) (enumerate_from k heads)
layouts coding d bytes front place k [] at asks is = refl
layouts coding d bytes front place k (h ∷ heads) at asks is =
    let this = attribute_bytes coding d k h in
    let others = values_from coding d (k + 1) heads in
    let links = map (linked coding d) (range_with_len (k + 1) (length heads)) in
    let skip = compressed_behind (settled_on coding d k h) in
    let byte : get_or bytes (place + skip) 0 ≡ compressed_byte coding.plain =
    ap (λ l. get_or l (place + skip) 0) is
    ∙ ap (λ p. get_or (front ++ (this ++ others)) (p + skip) 0) at
    ∙ get_or-append-add front (this ++ others) skip 0
    ∙ attribute-first coding d k h others (All-head (Asks coding d) (k, h) (enumerate_from (k + 1) heads) asks) in
    let again = layouts coding d bytes (front ++ this) (place + length this) (k + 1) heads
    (omega (arith, at, length-append front this)) (All-tail (Asks coding d) (k, h) (enumerate_from (k + 1) heads) asks) (is ∙ sym (append_assoc front this others)) in
    ap (λ b. coded_with coding d k h b ∷ attr_layouts bytes links (attrs_written coding d (place + length this) (enumerate_from (k + 1) heads))) byte
    ∙ ap (λ l. coded coding d (k, h) ∷ l) again

-- each decoder has the links of its attribute
links-each : (coding : Coding) (d : GluedMesh) (c : Reading) (k : ℕ) (heads : List Head)
    → links_of (Ok (map bare_decoder (map (λ (j, h). decoder_for coding d j h) (enumerate_from k heads)), c)) ≡ map (linked coding d) (range_with_len k (length heads))
links-each coding d c k [] = refl
links-each coding d c k (h ∷ heads) = ap (λ l. linked coding d k ∷ l) (links-each coding d c (k + 1) heads)

links-of : (coding : Coding) (m : MeshParts) (c : Reading)
    → links_of (Ok (map bare_decoder (decoders_for coding (decoded m)), c)) ≡ map (linked coding (decoded m)) (range_with_len 0 (length m.heads))
unfolding decoders_for decoded
links-of coding m c = links-each coding (decoded m) c 0 m.heads

values-of : (coding : Coding) (m : MeshParts) → values_bytes_on coding (decoded m) ≡ values_from coding (decoded m) 0 m.heads
unfolding decoded
values-of coding m = refl

-- the parts of the bytes
stream-parts : (coding : Coding) (m : MeshParts)
    → edgebreaker_bytes coding m
    ≡ (header_bytes 1 (Mesh m) ++ connectivity_of coding.valence m) ++ (decoder_heads_bytes coding (decoded m) ++ values_bytes_on coding (decoded m))
unfolding edgebreaker_bytes
stream-parts coding m =
    sym (append_assoc (header_bytes 1 (Mesh m)) (connectivity_of coding.valence m) (decoder_heads_bytes coding (decoded m) ++ values_bytes_on coding (decoded m)))

header-length : (m : MeshParts) → length (header_bytes 1 (Mesh m)) ≡ 11
unfolding header_bytes
header-length m = refl

method-there : (coding : Coding) (m : MeshParts) → slice_index (edgebreaker_bytes coding m) 8 ≡ 1
unfolding edgebreaker_bytes header_bytes
method-there coding m = refl

data-there : (coding : Coding) (m : MeshParts) → attr_data_of (edgebreaker_bytes coding m) ≡ Some position_id
unfolding edgebreaker_bytes header_bytes
data-there coding m = refl

index-there : (coding : Coding) (m : MeshParts) (place : ℕ) → index_layout (profile_for coding m) (edgebreaker_bytes coding m) place ≡ None
unfolding edgebreaker_bytes header_bytes
index-there coding m place = refl

traversal-there : (coding : Coding) (m : MeshParts) → traversal_layout (edgebreaker_bytes coding m) surface_place ≡ Some (if coding.valence then 2 else 0)
unfolding edgebreaker_bytes header_bytes connectivity_bytes opening_bytes
traversal-there coding m = refl

links-there : (coding : Coding) (m : MeshParts) → IsMesh m → SurfaceSpelled coding m
    → links_layout (profile_for coding m) (edgebreaker_bytes coding m) (heads_place coding m) ≡ map (linked coding (decoded m)) (range_with_len 0 (length m.heads))
links-there coding m is spelled =
    let front = header_bytes 1 (Mesh m) ++ connectivity_of coding.valence m in
    let heads = decoder_heads_bytes coding (decoded m) in
    let values = values_bytes_on coding (decoded m) in
    let place = heads_place coding m in
    let at : place ≡ length front = omega (arith, length-append (header_bytes 1 (Mesh m)) (connectivity_of coding.valence m), header-length m) in
    let few = (heads_say m.heads is.points.heads_pass).few in
    let behind : Reading = record { place = place + length heads; rest = values } in
    let p = profile_for coding m in
    let read = heads-more p (length m.heads - 1) position_id (omega (arith, few)) (record { place = place; rest = heads ++ values })
    (map bare_decoder (decoders_for coding (decoded m)), behind) (spelled.heads.reads place values) in
    ap (λ beside. links_of (heads_at p beside (record { place = place; rest = drop place (edgebreaker_bytes coding m) }))) (data-there coding m)
    ∙ ap (λ l. links_of (heads_at p (Some position_id) (record { place = place; rest = drop place l }))) (stream-parts coding m)
    ∙ ap (λ n. links_of (heads_at p (Some position_id) (record { place = place; rest = drop n (front ++ (heads ++ values)) }))) at
    ∙ ap (λ l. links_of (heads_at p (Some position_id) (record { place = place; rest = l }))) (drop-append_seam front (heads ++ values))
    ∙ ap links_of read
    ∙ links-of coding m behind

attributes-ask : (coding : Coding) (m : MeshParts) → IsMesh m → CanCodeSurface coding m → All (Asks coding (decoded m)) (enumerate_from 0 m.heads)
attributes-ask coding m is can =
    let d = decoded m in
    let D = decoded-keeps m is can.proper in
    let coded : CanCode d.mesh.heads (coded_values coding d) = subst (λ (heads : List Head). CanCode heads (coded_values coding d)) (sym D.heads) can.values in
    subst (λ (heads : List Head). All (Asks coding d) (enumerate_from 0 heads)) D.heads
    (numbered-each (Asks coding d) d.mesh.heads (λ k h has. attribute-asks coding d D.mesh D.gluing coded k h has))

attributes-there : (coding : Coding) (m : MeshParts) → IsMesh m → CanCodeSurface coding m
    → attr_layouts (edgebreaker_bytes coding m) (map (linked coding (decoded m)) (range_with_len 0 (length m.heads))) (info_written coding m).attrs
    ≡ map (coded coding (decoded m)) (enumerate_from 0 m.heads)
attributes-there coding m is can =
    let h = header_bytes 1 (Mesh m) in
    let s = connectivity_of coding.valence m in
    let heads = decoder_heads_bytes coding (decoded m) in
    let front = (h ++ s) ++ heads in
    layouts coding (decoded m) (edgebreaker_bytes coding m) front (values_place coding m) 0 m.heads
    (omega (arith, header-length m, length-append h s, length-append (h ++ s) heads)) (attributes-ask coding m is can)
    (stream-parts coding m ∙ ap (λ values. (h ++ s) ++ (heads ++ values)) (values-of coding m) ∙ sym (append_assoc (h ++ s) heads (values_from coding (decoded m) 0 m.heads)))

-- what a choice says of a method that isn't sequential
method-chosen : (x : Method) → is_sequential x ≡ false → 1 ≡ method_byte x
method-chosen method.Seq eb = absurd (cc)
method-chosen method.Eb eb = refl
method-chosen method.Valence eb = refl

traversal-chosen : (x : Method) → is_sequential x ≡ false → Some (if is_valence x then 2 else 0) ≡ traversal_of x
traversal-chosen method.Seq eb = absurd (cc)
traversal-chosen method.Eb eb = refl
traversal-chosen method.Valence eb = refl

otherwise : {A : Type 0} (b : Bool) (x y : A) → b ≡ false → y ≡ (if b then x else y)
otherwise b x y is = rw is refl

index-chosen : (m : MeshParts) (choice : Choice) → is_sequential (method_of (Mesh m) choice) ≡ false → None ≡ (layout_chosen (Mesh m) choice).index
index-chosen m choice eb = rw eb refl

attributes-chosen : (m : MeshParts) (choice : Choice) → is_sequential (method_of (Mesh m) choice) ≡ false
    → map (coded (coding_of (Mesh m) choice) (decoded m)) (enumerate_from 0 m.heads) ≡ (layout_chosen (Mesh m) choice).attributes
attributes-chosen m choice eb =
    let g = Mesh m in
    otherwise (is_sequential (method_of g choice)) (map (λ (h, v). attr_in_order choice h v) (zip m.heads (values_of g (predict_chosen g choice))))
    (map (λ (k, h). attr_on_surface g choice k h) (enumerate_from 0 m.heads)) eb

-- a stream that is written by Edgebreaker is coded as chosen
pub layout-on-surface : (m : MeshParts) (choice : Choice) → is_sequential (method_of (Mesh m) choice) ≡ false → IsMesh m
    → CanCodeSurface (coding_of (Mesh m) choice) m → SurfaceSpelled (coding_of (Mesh m) choice) m
    → stream_in (profile_for (coding_of (Mesh m) choice) m) (edgebreaker_bytes (coding_of (Mesh m) choice) m) ≡ Ok (meaning_written (coding_of (Mesh m) choice) m)
    → IsLaidOut (Mesh m) choice (edgebreaker_bytes (coding_of (Mesh m) choice) m)
layout-on-surface m choice eb is can spelled means =
    let coding = coding_of (Mesh m) choice in
    let p = profile_for coding m in
    let bytes = edgebreaker_bytes coding m in
    let info = info_written coding m in
    let chosen = layout_chosen (Mesh m) choice in
    let place = heads_place coding m in
    let info_attrs = attr_layouts bytes (links_layout p bytes place) info.attrs in
    let made : ℕ → Option ℕ → Option ℕ → List AttrLayout → Layout = λ m i t a. record { method = m; index = i; traversal = t; attributes = a } in
    let x : slice_index bytes 8 ≡ chosen.method = method-there coding m ∙ method-chosen (method_of (Mesh m) choice) eb in
    let i : index_layout p bytes surface_place ≡ chosen.index = index-there coding m surface_place ∙ index-chosen m choice eb in
    let t : traversal_layout bytes surface_place ≡ chosen.traversal = traversal-there coding m ∙ traversal-chosen (method_of (Mesh m) choice) eb in
    let a : info_attrs ≡ chosen.attributes =
    ap (λ links. attr_layouts bytes links info.attrs) (links-there coding m is spelled) ∙ attributes-there coding m is can ∙ attributes-chosen m choice eb in
    ap (λ r. r >>= λ d. Ok (layout_by p bytes d.info)) means
    ∙ ap Ok (
    ap (λ x. made x (index_layout p bytes surface_place) (traversal_layout bytes surface_place) info_attrs) x
    ∙ ap (λ i. made chosen.method i (traversal_layout bytes surface_place) info_attrs) i
    ∙ ap (λ t. made chosen.method chosen.index t info_attrs) t
    ∙ ap (λ a. made chosen.method chosen.index chosen.traversal a) a)
