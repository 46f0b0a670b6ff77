-- The surface of a stream has the faces of its mesh.
use Rattle.std.proofs.Common.{◌≡◌, ℕ, ◌*◌, Option, None, Some, Result, Ok, Err, length, map, sym, ap, ◌∙◌, refl}
use Rattle.std.specs.List.{zip}
use Rattle.std.proofs.lemmas.List.FromFn.{length-map-range_with_len}
use Rattle.drc_base.specs.declared.faults.Fault.{Fault}
use Rattle.drc_base.specs.Profile.{Profile}
use Rattle.drc_bits.specs.Reading.{Reading, start_of}
use Rattle.drc_bits.proofs.Results.{Ok-injective, err≢ok}
use Rattle.attr_heads.specs.FirstFault.{value_unless}
use Rattle.mesh_model.specs.Parts.{MeshParts, mesh_of, cloud_of}
use Rattle.mesh_model.specs.Assembled.{assembled, assembled_parts, corner_rows, distinct, row_number, triple}
use Rattle.seq_section.specs.Indices.{indices_at}
use Rattle.eb_section.specs.Connectivity.{Connectivity, connectivity_at}
use Rattle.drc_container.specs.declared.headers.Form.{Form}
use Rattle.drc_container.specs.declared.headers.Form.TheVariants as form
use Rattle.drc_container.specs.Header.{header_at, cloud_points_at}
use Rattle.drc_container.specs.reading.Meaning.{Surface, Meaning}
use Rattle.drc_container.specs.reading.OnSurface.{SurfaceAttributes, at_end, counts_in, accepted, assembled_in, assembled_at, attributes_on}
use Rattle.drc_container.specs.reading.Stream.{points_behind, mesh_behind, mesh_at, cloud_behind, cloud_at, surface_behind, edgebreaker_at, body_at, stream_in}
use Rattle.drc_container.proofs.lemmas.reading.Parted.{parts, given}
use Rattle.drc_verify.specs.Checked.{HasFaces, SurfaceHasFaces}

-- what has no surface
none-has : (d : Meaning) → d.surface ≡ None → HasFaces d
none-has d none = record { faces = λ s is. let no : ◌≡◌ {A = Option Surface} None (Some s) = sym none ∙ is in absurd cc }

mesh-has : (p : Profile) (c : Reading) (d : Meaning) → mesh_at p c ≡ Ok d → HasFaces d
unfolding mesh_at mesh_behind
mesh-has p c d is =
    let a = parts (indices_at p c) _ d is in
    let b = parts (points_behind p c.place a.0.0.points a.0.1) _ d a.2 in
    let e = parts (mesh_of b.0.heads b.0.cells a.0.0.faces) _ d b.2 in
    given HasFaces _ d e.2 (none-has _ refl)

cloud-has : (p : Profile) (c : Reading) (d : Meaning) → cloud_at p c ≡ Ok d → HasFaces d
unfolding cloud_at cloud_behind
cloud-has p c d is =
    let a = parts (cloud_points_at p c) _ d is in
    let b = parts (points_behind p c.place a.0.0 a.0.1) _ d a.2 in
    let e = parts (cloud_of b.0.heads b.0.cells) _ d b.2 in
    given HasFaces _ d e.2 (none-has _ refl)

-- ---- an Edgebreaker mesh

value-is : {A : Type 0} (o : Option Fault) (x y : A) → value_unless o x ≡ Ok y → x ≡ y
value-is None x y is = Ok-injective is
value-is (Some f) x y is = absurd (err≢ok is)

before-end : {A : Type 0} (end : ℕ) (r : Result A Fault) (y : A) → at_end end r ≡ Ok y → r ≡ Ok y
before-end end (Ok x) y is = is
before-end end (Err f) y is = absurd (err≢ok is)

assembled-faces : (p : Profile) (end faces : ℕ) (a : SurfaceAttributes) (m : MeshParts) → assembled_at p end faces a ≡ Ok m → length m.faces ≡ faces
unfolding assembled_in assembled
assembled-faces p end faces a m is =
    let rows = corner_rows (zip a.heads a.tables) (3 * faces) in
    let b = parts (assembled a.heads a.tables faces) (accepted p) m (before-end end (assembled_in p a.heads a.tables faces) m is) in
    let first : assembled_parts a.heads a.tables faces ≡ b.0 = value-is _ (assembled_parts a.heads a.tables faces) b.0 b.1 in
    let second : b.0 ≡ m = value-is (counts_in p b.0) b.0 m b.2 in
    ap (λ (x : MeshParts). length x.faces) (sym (first ∙ second))
    ∙ length-map-range_with_len (triple (map (row_number (distinct rows)) rows)) 0 faces

some-is : (s t : Surface) → Some s ≡ Some t → s ≡ t
some-is s t e = cc

behind-has : (p : Profile) (from : ℕ) (s : Connectivity) (c : Reading) (d : Meaning) → surface_behind p from s c ≡ Ok d → HasFaces d
unfolding surface_behind
behind-has p from s c d is =
    let a = parts (attributes_on p s c) _ d is in
    let b = parts (assembled_at p a.0.1.place s.faces a.0.0) _ d a.2 in
    given HasFaces _ d b.2 (record {
      faces = λ t same.
          assembled-faces p a.0.1.place s.faces a.0.0 b.0 b.1
          ∙ ap (λ (x : Surface). x.faces) (some-is (record { faces = s.faces; glued = s.glued }) t same);
    })

edgebreaker-has : (p : Profile) (c : Reading) (d : Meaning) → edgebreaker_at p c ≡ Ok d → HasFaces d
unfolding edgebreaker_at
edgebreaker-has p c d is =
    let a = parts (connectivity_at p c) _ d is in
    behind-has p c.place a.0.0 a.0.1 d a.2

body-has : (p : Profile) (said : Form) (c : Reading) (d : Meaning) → body_at p said c ≡ Ok d → HasFaces d
body-has p form.SequentialMesh c d is = mesh-has p c d is
body-has p form.EdgebreakerMesh c d is = edgebreaker-has p c d is
body-has p form.Cloud c d is = cloud-has p c d is

pub surface-has-faces : SurfaceHasFaces
unfolding stream_in
surface-has-faces p bytes d is =
    let a = parts (header_at (start_of bytes)) _ d is in
    body-has p a.0.0 a.0.1 d a.2
