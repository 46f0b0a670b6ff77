-- Every meaning is a geometry.
use Rattle.drc_base.specs.Profile.{profile_numbered}
use Rattle.std.proofs.Common.{◌≡◌, ℕ, ◌≤◌, List, [], ◌∷◌, ◌++◌, length, None, Some, Result, Ok, Err, sym, ◌∙◌, arith}
use Rattle.std.specs.List.{All}
use Rattle.std.proofs.lemmas.List.Elements.{All-head, All-tail, All-weaker}
use Rattle.drc_base.specs.declared.faults.Fault.{Fault}
use Rattle.drc_base.specs.declared.limits.TheConstants.{MAX_VALUES}
use Rattle.drc_bits.specs.Reading.{Reading}
use Rattle.drc_bits.proofs.Results.{err≢ok}
use Rattle.attr_heads.specs.declared.heads.Head.{Head}
use Rattle.mesh_model.specs.declared.geometries.Geometry.TheVariants as geometry
use Rattle.mesh_model.specs.IsGeometry.{IsGeometry}
use Rattle.mesh_model.specs.Parts.{mesh_of, cloud_of, AreRows, IsFaceOf}
use Rattle.mesh_model.specs.Assembled.{assembled}
use Rattle.seq_section.specs.Indices.{indices_at}
use Rattle.attr_section.specs.declared.decoder_heads.DecoderHead.{DecoderHead}
use Rattle.attr_section.specs.declared.values.Values.{Values}
use Rattle.attr_section.specs.Heads.{heads_at}
use Rattle.attr_section.specs.Positions.{PositionsRead}
use Rattle.attr_section.specs.Attributes.{values_in, decoder_values_at, AreColumns}
use Rattle.attr_section.proofs.Columned.{AreColumns-append}
use Rattle.eb_section.specs.Connectivity.{Connectivity, connectivity_at}
use Rattle.drc_container.specs.Header.{cloud_points_at}
use Rattle.drc_container.specs.reading.Meaning.{Meaning, edgebreaker_info}
use Rattle.drc_container.specs.reading.OnSurface.{attributes_on, at_end, assembled_in, assembled_at}
use Rattle.drc_container.specs.reading.Stream.{decoders_values_at, sequential_attributes_at, points_of, points_behind, mesh_behind, mesh_at, cloud_behind, cloud_at, surface_behind, edgebreaker_at, stream_in}
use Rattle.drc_container.proofs.lemmas.reading.Parted.{given, parts}
use Rattle.drc_container.proofs.lemmas.reading.Headed.{DecoderRead, heads-read}
use Rattle.drc_container.proofs.lemmas.reading.Whole.{AreTyped}
use Rattle.drc_container.proofs.lemmas.reading.Decoders.{values_in-append}
use Rattle.drc_container.proofs.lemmas.reading.Limited.{indices_alike}
use Rattle.drc_container.proofs.lemmas.reading.Lengths.{cells_at-whole}
use Rattle.drc_container.proofs.lemmas.reading.Faces.{indices-passed}
use Rattle.drc_container.proofs.lemmas.reading.ProfileCounts.{assembled-all}
use Rattle.laws_stream.proofs.reading.Forms.{given-of, of-each-form}
use Rattle.laws_stream.proofs.reading.Surfaces.{IsSurfaceRead, connectivity-surface}
use Rattle.laws_stream.proofs.reading.Tables.{decoder-columns, attributes-tables}
use Rattle.laws_stream.proofs.reading.Meshes.{assembled-mesh, made-mesh, made-cloud}

-- columns within the bounds of their heads are columns
typed-columns : (n : ℕ) (heads : List Head) (values : List Values) → AreTyped n heads values → AreColumns n heads values
typed-columns n [] [] are = tt
typed-columns n [] (v ∷ values) are = absurd are
typed-columns n (h ∷ heads) [] are = absurd are
typed-columns n (h ∷ heads) (v ∷ values) are = (are.0.long, typed-columns n heads values are.1)

-- heads and values that are columns of n entries, and few
record AreCounted (n : ℕ) (heads : List Head) (values : List Values) : Type 0 where
  columns : AreColumns n heads values
  few : values_in values ≤ MAX_VALUES

decoders-counted : (k n : ℕ) (ds : List DecoderHead) → All DecoderRead ds → (before : _) (c : Reading) (y : _ × Reading)
    → decoders_values_at (profile_numbered k) n before ds c ≡ Ok y → AreCounted n before.heads before.values → AreCounted n y.0.heads y.0.values
unfolding decoders_values_at
decoders-counted k n [] read before c y is are = given-of (before, c) y is (λ z. AreCounted n z.0.heads z.0.values) are
decoders-counted k n (d ∷ ds) read before c y is are =
    let spent = values_in before.values in
    let p = parts (decoder_values_at (profile_numbered k) None PositionsRead.NotYet d n spent c) _ y is in
    let here = decoder-columns k None PositionsRead.NotYet d n spent are.few (All-head DecoderRead d ds read).heads c p.0 p.1 in
    let more : AreCounted n (before.heads ++ p.0.0.1.heads) (before.values ++ p.0.0.0) = record {
      columns = AreColumns-append n before.heads p.0.0.1.heads before.values p.0.0.0 are.columns (typed-columns n p.0.0.1.heads p.0.0.0 here.typed);
      few = omega (arith, here.few, values_in-append before.values p.0.0.0);
    } in
    decoders-counted k n ds (All-tail DecoderRead d ds read) (record { heads = before.heads ++ p.0.0.1.heads; values = before.values ++ p.0.0.0 }) p.0.1 y p.2 more

-- the points of a sequential stream are whole rows
attributes-whole : (k n : ℕ) (c : Reading) (y : _ × Reading) → sequential_attributes_at (profile_numbered k) n c ≡ Ok y → AreRows y.0.heads (points_of n y.0)
unfolding sequential_attributes_at
attributes-whole k n c y is =
    let p = parts (heads_at (profile_numbered k) None c) _ y is in
    let read = heads-read (profile_numbered k) None c p.0 p.1 in
    let all = decoders-counted k n p.0.0 read.each (record { heads = []; values = [] }) p.0.1 y p.2 (record { columns = tt; few = omega arith }) in
    λ pass. cells_at-whole n y.0.heads y.0.values all.columns

points-whole : (k from n : ℕ) (c : Reading) (r : _) → points_behind (profile_numbered k) from n c ≡ Ok r → AreRows r.heads r.cells
unfolding points_behind
points-whole k from n c r is =
    let p = parts (sequential_attributes_at (profile_numbered k) n c) _ r is in
    given-of _ r p.2 (λ z. AreRows z.heads z.cells) (attributes-whole k n c p.0 p.1)

-- a sequential mesh
sequential-mesh : (k : ℕ) (c : Reading) (d : Meaning) → mesh_at (profile_numbered k) c ≡ Ok d → IsGeometry d.geometry
unfolding mesh_at mesh_behind
sequential-mesh k c d is =
    let p = parts (indices_at (profile_numbered k) c) _ d is in
    let q = parts (points_behind (profile_numbered k) c.place p.0.0.points p.0.1) _ d p.2 in
    let r = parts (mesh_of q.0.heads q.0.cells p.0.0.faces) _ d q.2 in
    let triples = All-weaker (IsFaceOf p.0.0.points) (λ face. length face ≡ 3) (λ face is. is.0) p.0.0.faces (indices-passed c p.0 (sym (indices_alike k c) ∙ p.1)).faces in
    let mesh = made-mesh q.0.heads q.0.cells p.0.0.faces r.0 (points-whole k c.place p.0.0.points p.0.1 q.0 q.1) triples r.1 in
    let made : Meaning = record { geometry = geometry.Mesh r.0; surface = None; info = q.0.info } in
    given (λ (z : Meaning). IsGeometry z.geometry) made d r.2 mesh

-- a cloud
cloud : (k : ℕ) (c : Reading) (d : Meaning) → cloud_at (profile_numbered k) c ≡ Ok d → IsGeometry d.geometry
unfolding cloud_at cloud_behind
cloud k c d is =
    let p = parts (cloud_points_at (profile_numbered k) c) _ d is in
    let q = parts (points_behind (profile_numbered k) c.place p.0.0 p.0.1) _ d p.2 in
    let r = parts (cloud_of q.0.heads q.0.cells) _ d q.2 in
    let points = made-cloud q.0.heads q.0.cells r.0 (points-whole k c.place p.0.0 p.0.1 q.0 q.1) r.1 in
    let made : Meaning = record { geometry = geometry.Cloud r.0; surface = None; info = q.0.info } in
    given (λ (z : Meaning). IsGeometry z.geometry) made d r.2 points

-- what has no fault at the end of a stream has none
pub before_end : {A : Type 0} (end : ℕ) (r : Result A Fault) (x : A) → at_end end r ≡ Ok x → r ≡ Ok x
before_end end (Ok y) x is = is
before_end end (Err f) x is = absurd (err≢ok is)

-- an Edgebreaker mesh behind its connectivity
surface-mesh : (k from : ℕ) (s : Connectivity) → IsSurfaceRead s → (c : Reading) (d : Meaning) → surface_behind (profile_numbered k) from s c ≡ Ok d → IsGeometry d.geometry
unfolding surface_behind
surface-mesh k from s read c d is =
    let p = parts (attributes_on (profile_numbered k) s c) _ d is in
    let q = parts (assembled_at (profile_numbered k) p.0.1.place s.faces p.0.0) _ d p.2 in
    let tables = attributes-tables k s read c p.0 p.1 in
    let whole : assembled p.0.0.heads p.0.0.tables s.faces ≡ Ok q.0 =
    sym (assembled-all k p.0.0.heads p.0.0.tables s.faces) ∙ before_end p.0.1.place (assembled_in (profile_numbered k) p.0.0.heads p.0.0.tables s.faces) q.0 q.1 in
    let made : Meaning = record {
      geometry = geometry.Mesh q.0;
      surface = Some (record { faces = s.faces; glued = s.glued });
      info = edgebreaker_info from c.place s p.0.0.info p.0.1;
    } in
    given (λ (z : Meaning). IsGeometry z.geometry) made d q.2 (assembled-mesh p.0.0.heads p.0.0.tables s.faces q.0 tables whole)

edgebreaker-mesh : (k : ℕ) (c : Reading) (d : Meaning) → edgebreaker_at (profile_numbered k) c ≡ Ok d → IsGeometry d.geometry
unfolding edgebreaker_at
edgebreaker-mesh k c d is =
    let p = parts (connectivity_at (profile_numbered k) c) _ d is in
    surface-mesh k c.place p.0.0 (connectivity-surface k c p.0 p.1) p.0.1 d p.2

pub meaning-geometry : (k : ℕ) (bytes : List ℕ) (d : Meaning) → stream_in (profile_numbered k) bytes ≡ Ok d → IsGeometry d.geometry
meaning-geometry k bytes d is =
    of-each-form k (λ (_ : Reading). Unit {0}) (λ (d : Meaning). IsGeometry d.geometry) (λ _ _ _ _. tt)
    (λ c _. sequential-mesh k c) (λ c _. edgebreaker-mesh k c) (λ c _. cloud k c) bytes tt d is
