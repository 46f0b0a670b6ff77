-- The surface that an Edgebreaker stream says is one of the faces of its mesh.
use Rattle.drc_base.specs.Profile.{profile_numbered}
use Rattle.std.proofs.Common.{◌≡◌, ℕ, List, length, None, Ok, sym, ◌∙◌, ap}
use Rattle.std.specs.Prelude.{IfSome}
use Rattle.std.proofs.lemmas.List.FromFn.{length-map-range_with_len}
use Rattle.drc_bits.specs.Reading.{Reading}
use Rattle.attr_heads.specs.declared.heads.Head.{Head}
use Rattle.mesh_model.specs.Groups.{AttrTable}
use Rattle.mesh_model.specs.declared.geometries.Geometry.TheVariants as geometry
use Rattle.mesh_model.specs.Contents.{faces_in}
use Rattle.mesh_model.specs.Parts.{MeshParts, mesh_of, cloud_of}
use Rattle.mesh_model.specs.Assembled.{triple, assembled_parts, assembled}
use Rattle.seq_section.specs.Indices.{indices_at}
use Rattle.eb_section.specs.Connectivity.{connectivity_at}
use Rattle.drc_container.specs.Header.{cloud_points_at}
use Rattle.drc_container.specs.reading.Meaning.{Meaning}
use Rattle.drc_container.specs.reading.OnSurface.{attributes_on, assembled_in, assembled_at}
use Rattle.drc_container.specs.reading.Stream.{points_behind, mesh_behind, mesh_at, cloud_behind, cloud_at, surface_behind, edgebreaker_at, stream_in}
use Rattle.drc_container.proofs.lemmas.reading.Parted.{given, parts}
use Rattle.drc_container.proofs.lemmas.reading.ProfileCounts.{assembled-all}
use Rattle.laws_stream.specs.Meanings.{IsSurfaceOf}
use Rattle.laws_stream.proofs.reading.Forms.{of-each-form}
use Rattle.laws_stream.proofs.reading.Surfaces.{connectivity-surface}
use Rattle.laws_stream.proofs.reading.Meshes.{value-is}
use Rattle.laws_stream.proofs.reading.Geometries.{before_end}

-- where there is a surface, it is one of the faces
abbrev HasSurface : Meaning → Type 0
HasSurface d = IfSome d.surface (IsSurfaceOf (faces_in d.geometry))

mesh-none : (k : ℕ) (c : Reading) (d : Meaning) → mesh_at (profile_numbered k) c ≡ Ok d → HasSurface d
unfolding mesh_at mesh_behind
mesh-none k c d is =
    let p = parts (indices_at (profile_numbered k) c) _ d is in
    let q = parts (points_behind (profile_numbered k) c.place p.0.0.points p.0.1) _ d p.2 in
    let r = parts (mesh_of q.0.heads q.0.cells p.0.0.faces) _ d q.2 in
    given HasSurface (record { geometry = geometry.Mesh r.0; surface = None; info = q.0.info }) d r.2 tt

cloud-none : (k : ℕ) (c : Reading) (d : Meaning) → cloud_at (profile_numbered k) c ≡ Ok d → HasSurface d
unfolding cloud_at cloud_behind
cloud-none k c d is =
    let p = parts (cloud_points_at (profile_numbered k) c) _ d is in
    let q = parts (points_behind (profile_numbered k) c.place p.0.0 p.0.1) _ d p.2 in
    let r = parts (cloud_of q.0.heads q.0.cells) _ d q.2 in
    given HasSurface (record { geometry = geometry.Cloud r.0; surface = None; info = q.0.info }) d r.2 tt

-- an assembled mesh has as many faces as were asked for
assembled-faces : (heads : List Head) (tables : List AttrTable) (faces : ℕ) (m : MeshParts) → assembled heads tables faces ≡ Ok m → faces ≡ length m.faces
unfolding assembled
assembled-faces heads tables faces m is =
    sym (length-map-range_with_len (triple _) 0 faces) ∙ ap (λ (n : MeshParts). length n.faces) (value-is _ (assembled_parts heads tables faces) m is)

edgebreaker-surface : (k : ℕ) (c : Reading) (d : Meaning) → edgebreaker_at (profile_numbered k) c ≡ Ok d → HasSurface d
unfolding edgebreaker_at surface_behind
edgebreaker-surface k c d is =
    let s = parts (connectivity_at (profile_numbered k) c) _ d is in
    let faces = s.0.0.faces in
    let read = connectivity-surface k c s.0 s.1 in
    let p = parts (attributes_on (profile_numbered k) s.0.0 s.0.1) _ d s.2 in
    let q = parts (assembled_at (profile_numbered k) p.0.1.place faces p.0.0) _ d p.2 in
    let whole = sym (assembled-all k p.0.0.heads p.0.0.tables faces) ∙ before_end p.0.1.place (assembled_in (profile_numbered k) p.0.0.heads p.0.0.tables faces) q.0 q.1 in
    given HasSurface _ d q.2
    (record { each_face = assembled-faces p.0.0.heads p.0.0.tables faces q.0 whole; gluing = read.gluing; three_fans = read.three_fans })

pub meaning-surface : (k : ℕ) (bytes : List ℕ) (d : Meaning) → stream_in (profile_numbered k) bytes ≡ Ok d → HasSurface d
meaning-surface k bytes d is =
    of-each-form k (λ (_ : Reading). Unit {0}) HasSurface (λ _ _ _ _. tt) (λ c _. mesh-none k c) (λ c _. edgebreaker-surface k c) (λ c _. cloud-none k c) bytes tt d is
