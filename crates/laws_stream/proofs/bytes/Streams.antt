-- What is written of a geometry is bytes, by any choice.
use Rattle.std.proofs.Common.{◌≡◌, ℕ, zero, suc, ◌+◌, ◌-◌, ◌<◌, ◌≤◌, Bool, true, false, All, List, [], ◌∷◌, ◌++◌, length, map, None, Some, inl, inr, refl, sym, subst, arith}
use Rattle.std.specs.Prelude.{ℤ}
use Rattle.drc_container.specs.declared.choice.predicts.Predict.{Predict}
use Rattle.attr_section.specs.Positions.{PositionsRead}
use Rattle.std.specs.List.{flat_map, enumerate_from}
use Rattle.std.proofs.lemmas.Bool.{cases_Bool, ne_eqb}
use Rattle.std.proofs.lemmas.List.Elements.{All-nil, All-cons, All-head, All-tail}
use Rattle.std.proofs.lemmas.List.FromFn.{length-map-range_with_len}
use Rattle.drc_base.specs.declared.limits.TheConstants.{MAX_ATTRIBUTES}
use Rattle.attr_heads.specs.declared.heads.Head.{Head}
use Rattle.mesh_model.specs.declared.geometries.Geometry.{Geometry}
use Rattle.mesh_model.specs.declared.geometries.Geometry.TheVariants.{Mesh, Cloud}
use Rattle.mesh_model.specs.Contents.{heads_in, points_in}
use Rattle.mesh_model.specs.Parts.{MeshParts, ArePoints}
use Rattle.mesh_model.specs.Same.{Rows}
use Rattle.attr_heads.proofs.Passing.{HeadSays, heads_say}
use Rattle.attr_section.specs.declared.decoder_heads.DecoderHead.{DecoderHead}
use Rattle.attr_section.specs.Heads.{link_bytes}
use Rattle.attr_section.specs.Written.{decoder_values_bytes}
use Rattle.drc_container.specs.declared.choice.codings.Coding.{Coding}
use Rattle.drc_container.specs.declared.choice.choices.Choice.{Choice}
use Rattle.drc_container.specs.choice.Choice.{method_of, is_sequential, index_of, is_packed, predict_chosen}
use Rattle.drc_container.specs.Header.{magic}
use Rattle.drc_container.specs.writing.Written.{header_bytes, sequential_connectivity_bytes, decoder_of, values_of, attribute_heads_bytes, sequential_attributes_bytes, stream_bytes}
use Rattle.drc_container.specs.writing.WrittenOnSurface.{traced, GluedMesh, decoded, seam_bits_of, surface_order, coded_by, positions_before, data_id_of, decoder_for, decoders_for, seam_lists, attribute_bytes, values_bytes_on, decoder_heads_bytes, connectivity_of, edgebreaker_bytes}
use Rattle.drc_container.specs.writing.Chosen.{mesh_in, coding_of}
use Rattle.drc_container.proofs.lemmas.surface.Traced.{decoded-heads}
use Rattle.drc_container.proofs.lemmas.writing.SurfaceParts.{decoders-each}
use Rattle.laws_stream.specs.Laws.{IsByte, WrittenIsBytes}
use Rattle.laws_stream.proofs.InOrder.{points-are}
use Rattle.laws_stream.proofs.Whole.{written-by}
use Rattle.laws_stream.proofs.bytes.Lists.{AreBytes, no-bytes, byte-then, joined, low}
use Rattle.laws_stream.proofs.bytes.Attributes.{IsSpelled, link-bytes, heads-bytes, values-bytes}
use Rattle.laws_stream.proofs.bytes.Connectivity.{indices-bytes, connectivity-bytes}

-- heads that pass, as many as there may be, whose flags are bytes
record AreSpelled (heads : List Head) : Type 0 where
  pub few : length heads ≤ MAX_ATTRIBUTES
  pub each : All IsSpelled heads

are-spelled : (heads : List Head) (points : List (List ℤ)) → ArePoints heads points → All (λ h. IsByte h.normalized) heads → AreSpelled heads
are-spelled heads points are flags =
    let say = heads_say heads are.heads_pass in
    record { few = say.few; each = λ k d below. record { says = say.each k d below; flag = flags k d below } }

-- ---- the header

magic-bytes : AreBytes magic
magic-bytes =
    byte-then 68 (82 ∷ 65 ∷ 67 ∷ 79 ∷ []) (omega arith)
    (byte-then 82 (65 ∷ 67 ∷ 79 ∷ []) (omega arith) (byte-then 65 (67 ∷ 79 ∷ []) (omega arith) (byte-then 67 (79 ∷ []) (omega arith) (byte-then 79 [] (omega arith) no-bytes))))

type-bytes : (minor type method : ℕ) → minor < 256 → type < 256 → method < 256 → AreBytes (2 ∷ minor ∷ type ∷ method ∷ 0 ∷ 0 ∷ [])
type-bytes minor type method a b c =
    byte-then 2 (minor ∷ type ∷ method ∷ 0 ∷ 0 ∷ []) (omega arith)
    (byte-then minor (type ∷ method ∷ 0 ∷ 0 ∷ []) a
    (byte-then type (method ∷ 0 ∷ 0 ∷ []) b
    (byte-then method (0 ∷ 0 ∷ []) c (byte-then 0 (0 ∷ []) (omega arith) (byte-then 0 [] (omega arith) no-bytes)))))

header-bytes : (method : ℕ) (g : Geometry) → method < 256 → AreBytes (header_bytes method g)
unfolding header_bytes
header-bytes method (Mesh m) small = joined magic (2 ∷ 2 ∷ 1 ∷ method ∷ 0 ∷ 0 ∷ []) magic-bytes (type-bytes 2 1 method (omega arith) (omega arith) small)
header-bytes method (Cloud c) small = joined magic (2 ∷ 3 ∷ 0 ∷ method ∷ 0 ∷ 0 ∷ []) magic-bytes (type-bytes 3 0 method (omega arith) (omega arith) small)

-- ---- by the sequential method

connectivity-in_order : (packed : Bool) (g : Geometry) → AreBytes (sequential_connectivity_bytes packed g)
connectivity-in_order packed (Mesh m) = indices-bytes packed m.faces (length m.points)
connectivity-in_order packed (Cloud c) = low 4 (length c.points)

attributes-in_order : (plain : Bool) (g : Geometry) (predict : Predict) → AreSpelled (heads_in g) → AreBytes (sequential_attributes_bytes plain g predict)
unfolding sequential_attributes_bytes
attributes-in_order plain g predict are =
    let d = decoder_of g in
    let heads = heads-bytes false (d ∷ []) (omega arith)
    (All-cons (λ (x : DecoderHead). AreBytes (link_bytes x)) d [] (link-bytes d (omega arith)) (All-nil (λ (x : DecoderHead). AreBytes (link_bytes x))))
    (All-cons (λ (x : DecoderHead). All IsSpelled x.heads) d [] are.each (All-nil (λ (x : DecoderHead). All IsSpelled x.heads))) in
    joined (attribute_heads_bytes g) (decoder_values_bytes plain None PositionsRead.NotYet (heads_in g) (values_of g predict)) heads
    (values-bytes plain None PositionsRead.NotYet (heads_in g) (values_of g predict) (λ k e below. let one = are.each k e below in one.says))

in-order : (g : Geometry) (choice : Choice) → AreSpelled (heads_in g) → AreBytes (stream_bytes g choice)
unfolding stream_bytes
in-order g choice are =
    let packed = is_packed (index_of choice) in
    let predict = predict_chosen g choice in
    joined (header_bytes 0 g) (sequential_connectivity_bytes packed g ++ sequential_attributes_bytes choice.plain_values g predict) (header-bytes 0 g (omega arith))
    (joined (sequential_connectivity_bytes packed g) (sequential_attributes_bytes choice.plain_values g predict) (connectivity-in_order packed g)
    (attributes-in_order choice.plain_values g predict are))

-- ---- by Edgebreaker

id-small : (k : ℕ) → k ≤ MAX_ATTRIBUTES → data_id_of k < 256
id-small zero few = omega arith
id-small (suc k) few = rw (ne_eqb (suc k) 0 (λ e. omega arith)) (omega (arith, few))

links-are : (coding : Coding) (d : GluedMesh) (k : ℕ) (heads : List Head) → k + length heads ≤ MAX_ATTRIBUTES
    → All (λ (x : DecoderHead). AreBytes (link_bytes x)) (map (λ (j, h). decoder_for coding d j h) (enumerate_from k heads))
links-are coding d k [] few = All-nil (λ (x : DecoderHead). AreBytes (link_bytes x))
links-are coding d k (h ∷ heads) few =
    let x = decoder_for coding d k h in
    All-cons (λ (y : DecoderHead). AreBytes (link_bytes y)) x (map (λ (j, e). decoder_for coding d j e) (enumerate_from (k + 1) heads))
    (link-bytes x (id-small k (omega (arith, few)))) (links-are coding d (k + 1) heads (omega (arith, few)))

heads-are : (coding : Coding) (d : GluedMesh) (k : ℕ) (heads : List Head) → All IsSpelled heads
    → All (λ (x : DecoderHead). All IsSpelled x.heads) (map (λ (j, h). decoder_for coding d j h) (enumerate_from k heads))
heads-are coding d k [] are = All-nil (λ (x : DecoderHead). All IsSpelled x.heads)
heads-are coding d k (h ∷ heads) are =
    All-cons (λ (x : DecoderHead). All IsSpelled x.heads) (decoder_for coding d k h) (map (λ (j, e). decoder_for coding d j e) (enumerate_from (k + 1) heads))
    (All-cons IsSpelled h [] (All-head IsSpelled h heads are) (All-nil IsSpelled)) (heads-are coding d (k + 1) heads (All-tail IsSpelled h heads are))

heads-on_surface : (coding : Coding) (d : GluedMesh) → AreSpelled d.mesh.heads → AreBytes (decoder_heads_bytes coding d)
unfolding decoders_for
heads-on_surface coding d are =
    let few = are.few in
    heads-bytes true (decoders_for coding d) (omega (arith, few, decoders-each coding d)) (links-are coding d 0 d.mesh.heads (omega (arith, few))) (heads-are coding d 0 d.mesh.heads are.each)

values-from : (coding : Coding) (d : GluedMesh) (k : ℕ) (heads : List Head) → All IsSpelled heads
    → AreBytes (flat_map (λ (j, h). attribute_bytes coding d j h) (enumerate_from k heads))
values-from coding d k [] are = no-bytes
values-from coding d k (h ∷ heads) are =
    let one : IsSpelled h = All-head IsSpelled h heads are in
    joined (attribute_bytes coding d k h) (flat_map (λ (j, e). attribute_bytes coding d j e) (enumerate_from (k + 1) heads))
    (values-bytes coding.plain (Some (surface_order coding d k)) (positions_before coding d k) (h ∷ []) (coded_by coding d k ∷ []) (All-cons HeadSays h [] one.says (All-nil HeadSays)))
    (values-from coding d (k + 1) heads (All-tail IsSpelled h heads are))

lists-few : (d : GluedMesh) → AreSpelled d.mesh.heads → length (seam_lists d) < 256
lists-few d are = let few = are.few in omega (arith, few, length-map-range_with_len (seam_bits_of d) 1 (length d.mesh.heads - 1))

on-surface : (coding : Coding) (m : MeshParts) → AreSpelled m.heads → AreBytes (edgebreaker_bytes coding m)
unfolding edgebreaker_bytes
on-surface coding m are =
    let d = decoded m in
    let own : AreSpelled d.mesh.heads = subst AreSpelled (sym (decoded-heads m)) are in
    let connectivity = connectivity_of coding.valence m in
    let heads = decoder_heads_bytes coding d in
    let values = values_bytes_on coding d in
    joined (header_bytes 1 (Mesh m)) (connectivity ++ (heads ++ values)) (header-bytes 1 (Mesh m) (omega arith))
    (joined connectivity (heads ++ values) (connectivity-bytes coding.valence (length m.faces) (traced m) (seam_lists d) (lists-few d own))
    (joined heads values (heads-on_surface coding d own) (values-from coding d 0 d.mesh.heads own.each)))

-- ---- by either

mesh-heads : (g : Geometry) → heads_in g ≡ (mesh_in g).heads
mesh-heads (Mesh m) = refl
mesh-heads (Cloud c) = refl

pub written-bytes : WrittenIsBytes
written-bytes g choice is flags =
    let are : AreSpelled (heads_in g) = are-spelled (heads_in g) (points_in g) (points-are g is) flags in
    elim (cases_Bool (is_sequential (method_of g choice))) [
      | inl on ↦ subst (λ (w : List ℕ × Rows). AreBytes w.0) (sym (written-by g choice true on)) (in-order g choice are)
      | inr off ↦ subst (λ (w : List ℕ × Rows). AreBytes w.0) (sym (written-by g choice false off)) (on-surface (coding_of g choice) (mesh_in g) (subst AreSpelled (mesh-heads g) are))
    ]
