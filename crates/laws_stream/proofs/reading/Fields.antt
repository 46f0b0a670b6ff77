-- The heads of every meaning have fields of their widths.
use Rattle.drc_base.specs.Profile.{profile_numbered}
use Rattle.std.proofs.Common.{◌≡◌, ℕ, ◌<◌, List, [], ◌∷◌, ◌++◌, length, None, Some, Ok, sym, ◌∙◌, ap, subst}
use Rattle.std.specs.Prelude.{nat_le}
use Rattle.std.specs.List.{All, AllByRecursion}
use Rattle.std.proofs.lemmas.List.Elements.{All-nil, All-head, All-tail, All-append, recursion_from_All}
use Rattle.drc_base.specs.declared.kinds.Kind.TheVariants as kind
use Rattle.drc_bits.specs.Reading.{Reading, bytes_at}
use Rattle.drc_bits.specs.Numbers.{number_at}
use Rattle.attr_heads.specs.declared.heads.Head.{Head}
use Rattle.mesh_model.specs.declared.geometries.Geometry.TheVariants as geometry
use Rattle.mesh_model.specs.Groups.{AttrTable}
use Rattle.mesh_model.specs.Contents.{heads_in}
use Rattle.mesh_model.specs.Parts.{MeshParts, CloudParts, mesh_fault, cloud_fault, mesh_of, cloud_of}
use Rattle.mesh_model.specs.Assembled.{assembled_parts, assembled}
use Rattle.ply_mesh.specs.Fields.{HasFields}
use Rattle.seq_section.specs.Indices.{indices_at}
use Rattle.attr_section.specs.declared.decoder_heads.DecoderHead.{DecoderHead}
use Rattle.attr_section.specs.Heads.{heads_at}
use Rattle.attr_section.specs.Positions.{PositionsRead}
use Rattle.attr_section.specs.Attributes.{decoder_values_at, values_in}
use Rattle.eb_section.specs.Connectivity.{Connectivity, connectivity_at}
use Rattle.drc_container.specs.Header.{form_said, magic_at, header_at, cloud_points_at}
use Rattle.drc_container.specs.reading.Meaning.{Meaning}
use Rattle.drc_container.specs.reading.OnSurface.{ordered_for, decoder_attributes, attributes_joined, values_on, positions_among, decoder_on, no_attributes, surface_decoders_at, attributes_on, assembled_in, assembled_at}
use Rattle.drc_container.specs.reading.Stream.{decoders_values_at, sequential_attributes_at, points_behind, mesh_behind, mesh_at, cloud_behind, cloud_at, surface_behind, edgebreaker_at, stream_in}
use Rattle.drc_container.proofs.lemmas.reading.Parted.{given, parts}
use Rattle.drc_container.proofs.lemmas.reading.ProfileCounts.{assembled-all}
use Rattle.laws_stream.proofs.reading.Bytes.{BytesAhead, LeavesBytes, ok-leaves, then-leaves, value-leaves, must-leaves, bytes-leave, number-leaves}
use Rattle.laws_stream.proofs.reading.BytesOfBlocks.{indices-leave, connectivity-leaves}
use Rattle.laws_stream.proofs.reading.BytesOfAttributes.{HeadsHaveBareFields, heads-fields, decoder_values-fields}
use Rattle.laws_stream.proofs.reading.Forms.{given-of, of-each-form}
use Rattle.laws_stream.proofs.reading.Meshes.{value-is}
use Rattle.laws_stream.proofs.reading.Geometries.{before_end}

-- ---- a header

header-leaves : (c : Reading) → BytesAhead c → LeavesBytes (header_at c)
unfolding header_at
header-leaves c here =
    then-leaves (magic_at c) _ (must-leaves kind.Magic _ (bytes_at 5) c (bytes-leave 5 c here)) (λ a ha.
    then-leaves (number_at 1 a.1) _ (number-leaves 1 a.1 ha) (λ b hb.
    then-leaves (number_at 1 b.1) _ (number-leaves 1 b.1 hb) (λ d hd.
    then-leaves (number_at 1 d.1) _ (number-leaves 1 d.1 hd) (λ e he.
    then-leaves (number_at 1 e.1) _ (number-leaves 1 e.1 he) (λ f hf.
    then-leaves (number_at 2 f.1) _ (number-leaves 2 f.1 hf) (λ g hg.
    value-leaves (form_said b.0 d.0 e.0 f.0 g.0) _ (λ said. ok-leaves said g.1 hg)))))))

-- ---- points

decoders-fields : (k n : ℕ) (ds : List DecoderHead) → All HeadsHaveBareFields ds → (before : _) (c : Reading) (y : _ × Reading)
    → decoders_values_at (profile_numbered k) n before ds c ≡ Ok y → BytesAhead c → All HasFields before.heads → All HasFields y.0.heads
unfolding decoders_values_at
decoders-fields k n [] bare before c y is here have = given-of (before, c) y is (λ z. All HasFields z.0.heads) have
decoders-fields k n (d ∷ ds) bare before c y is here have =
    let spent = values_in before.values in
    let p = parts (decoder_values_at (profile_numbered k) None PositionsRead.NotYet d n spent c) _ y is in
    let one = decoder_values-fields (profile_numbered k) None PositionsRead.NotYet d n spent (All-head HeadsHaveBareFields d ds bare) c here p.0 p.1 in
    decoders-fields k n ds (All-tail HeadsHaveBareFields d ds bare) (record { heads = before.heads ++ p.0.0.1.heads; values = before.values ++ p.0.0.0 }) p.0.1 y p.2
    one.1 (All-append HasFields before.heads p.0.0.1.heads have one.0)

points-fields : (k from n : ℕ) (c : Reading) → BytesAhead c → (r : _) → points_behind (profile_numbered k) from n c ≡ Ok r → All HasFields r.heads
unfolding points_behind sequential_attributes_at
points-fields k from n c here r is =
    let p = parts (sequential_attributes_at (profile_numbered k) n c) _ r is in
    let q = parts (heads_at (profile_numbered k) None c) _ p.0 p.1 in
    let heads = heads-fields (profile_numbered k) None c here q.0 q.1 in
    given-of _ r p.2 (λ z. All HasFields z.heads) (decoders-fields k n q.0.0 heads.0 (record { heads = []; values = [] }) q.0.1 p.0 q.2 heads.1 (All-nil HasFields))

-- ---- a surface

surface-fields : (k : ℕ) (s : Connectivity) (ds : List DecoderHead) → All HeadsHaveBareFields ds → (before : _) (c : Reading) (y : _ × Reading)
    → surface_decoders_at (profile_numbered k) s before ds c ≡ Ok y → BytesAhead c → All HasFields before.heads → All HasFields y.0.heads
unfolding surface_decoders_at decoder_on
surface-fields k s [] bare before c y is here have = given-of (before, c) y is (λ z. All HasFields z.0.heads) have
surface-fields k s (d ∷ ds) bare before c y is here have =
    let w = ordered_for s d in
    let n = length w.corners in
    let spent = values_on before.tables in
    let found = positions_among before in
    let p = parts (decoder_on (profile_numbered k) w found d spent c) _ y is in
    let q = parts (decoder_values_at (profile_numbered k) (Some w) found d n spent c) _ p.0 p.1 in
    let one = decoder_values-fields (profile_numbered k) (Some w) found d n spent (All-head HeadsHaveBareFields d ds bare) c here q.0 q.1 in
    let more = given-of (decoder_attributes w q.0.0.1 q.0.0.0, q.0.1) p.0 q.2 (λ z. BytesAhead z.1 × All HasFields (before.heads ++ z.0.heads))
    (one.1, All-append HasFields before.heads q.0.0.1.heads have one.0) in
    surface-fields k s ds (All-tail HeadsHaveBareFields d ds bare) (attributes_joined before p.0.0) p.0.1 y p.2 more.0 more.1

attributes-fields : (k : ℕ) (s : Connectivity) (c : Reading) → BytesAhead c → (y : _ × Reading) → attributes_on (profile_numbered k) s c ≡ Ok y → All HasFields y.0.heads
unfolding attributes_on
attributes-fields k s c here y is =
    let p = parts (heads_at (profile_numbered k) (Some s.attr_data) c) _ y is in
    let heads = heads-fields (profile_numbered k) (Some s.attr_data) c here p.0 p.1 in
    surface-fields k s p.0.0 heads.0 no_attributes p.0.1 y p.2 heads.1 (All-nil HasFields)

-- an assembled mesh has the heads of its tables
assembled-heads : (heads : List Head) (tables : List AttrTable) (faces : ℕ) (m : MeshParts) → assembled heads tables faces ≡ Ok m → heads ≡ m.heads
unfolding assembled
assembled-heads heads tables faces m is = ap (λ (n : MeshParts). n.heads) (value-is _ (assembled_parts heads tables faces) m is)

-- ---- each form

-- the heads of what is meant have fields of their widths
abbrev HaveFields : Meaning → Type 0
HaveFields d = All HasFields (heads_in d.geometry)

mesh-fields : (k : ℕ) (c : Reading) → BytesAhead c → (d : Meaning) → mesh_at (profile_numbered k) c ≡ Ok d → HaveFields d
unfolding mesh_at mesh_behind
mesh-fields k c here d is =
    let p = parts (indices_at (profile_numbered k) c) _ d is in
    let q = parts (points_behind (profile_numbered k) c.place p.0.0.points p.0.1) _ d p.2 in
    let r = parts (mesh_of q.0.heads q.0.cells p.0.0.faces) _ d q.2 in
    let heads : q.0.heads ≡ r.0.heads = ap (λ (m : MeshParts). m.heads) (value-is (mesh_fault q.0.heads q.0.cells p.0.0.faces) _ r.0 r.1) in
    let have = points-fields k c.place p.0.0.points p.0.1 (indices-leave (profile_numbered k) c here p.0 p.1) q.0 q.1 in
    given HaveFields (record { geometry = geometry.Mesh r.0; surface = None; info = q.0.info }) d r.2 (subst (All HasFields) heads have)

cloud-fields : (k : ℕ) (c : Reading) → BytesAhead c → (d : Meaning) → cloud_at (profile_numbered k) c ≡ Ok d → HaveFields d
unfolding cloud_at cloud_behind
cloud-fields k c here d is =
    let p = parts (cloud_points_at (profile_numbered k) c) _ d is in
    let q = parts (points_behind (profile_numbered k) c.place p.0.0 p.0.1) _ d p.2 in
    let r = parts (cloud_of q.0.heads q.0.cells) _ d q.2 in
    let heads : q.0.heads ≡ r.0.heads = ap (λ (m : CloudParts). m.heads) (value-is (cloud_fault q.0.heads q.0.cells) _ r.0 r.1) in
    let behind = must-leaves kind.PointLimit (λ n. nat_le n (profile_numbered k).points) (number_at 4) c (number-leaves 4 c here) p.0 p.1 in
    let have = points-fields k c.place p.0.0 p.0.1 behind q.0 q.1 in
    given HaveFields (record { geometry = geometry.Cloud r.0; surface = None; info = q.0.info }) d r.2 (subst (All HasFields) heads have)

edgebreaker-fields : (k : ℕ) (c : Reading) → BytesAhead c → (d : Meaning) → edgebreaker_at (profile_numbered k) c ≡ Ok d → HaveFields d
unfolding edgebreaker_at surface_behind
edgebreaker-fields k c here d is =
    let s = parts (connectivity_at (profile_numbered k) c) _ d is in
    let faces = s.0.0.faces in
    let p = parts (attributes_on (profile_numbered k) s.0.0 s.0.1) _ d s.2 in
    let q = parts (assembled_at (profile_numbered k) p.0.1.place faces p.0.0) _ d p.2 in
    let whole = sym (assembled-all k p.0.0.heads p.0.0.tables faces) ∙ before_end p.0.1.place (assembled_in (profile_numbered k) p.0.0.heads p.0.0.tables faces) q.0 q.1 in
    let have = attributes-fields k s.0.0 s.0.1 (connectivity-leaves (profile_numbered k) c here s.0 s.1) p.0 p.1 in
    given HaveFields _ d q.2 (subst (All HasFields) (assembled-heads p.0.0.heads p.0.0.tables faces q.0 whole) have)

meaning-heads : (k : ℕ) (bytes : List ℕ) (d : Meaning) → All (λ (b : ℕ). b < 256) bytes → stream_in (profile_numbered k) bytes ≡ Ok d → HaveFields d
meaning-heads k bytes d are is = of-each-form k BytesAhead HaveFields header-leaves (mesh-fields k) (edgebreaker-fields k) (cloud-fields k) bytes (record { bytes = are }) d is

pub meaning-fields : (k : ℕ) (bytes : List ℕ) (d : Meaning) → All (λ (b : ℕ). b < 256) bytes → stream_in (profile_numbered k) bytes ≡ Ok d → AllByRecursion HasFields (heads_in d.geometry)
meaning-fields k bytes d are is =
    recursion_from_All HasFields (heads_in d.geometry) (meaning-heads k bytes d are is)
