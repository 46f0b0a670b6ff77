-- What a profile reads has only heads that the profile has.
use Rattle.std.proofs.Common.{◌≡◌, ℕ, List, [], ◌∷◌, ◌++◌, length, Option, None, Some, Result, Ok, Err, IsTrue, subst}
use Rattle.std.specs.Prelude.{IfOk}
use Rattle.std.specs.List.{All}
use Rattle.std.proofs.lemmas.List.Elements.{All-nil, All-head, All-tail, All-append}
use Rattle.drc_base.specs.declared.faults.Fault.{Fault}
use Rattle.drc_base.specs.declared.faults.Refusal.{Refusal}
use Rattle.drc_base.specs.Profile.{Profile, profile_numbered}
use Rattle.drc_base.specs.Refusals.{Answers}
use Rattle.drc_bits.specs.Reading.{Reading, start_of}
use Rattle.drc_bits.proofs.Results.{Ok-injective, err≢ok}
use Rattle.attr_heads.specs.declared.heads.Head.{Head}
use Rattle.attr_heads.specs.FirstFault.{value_unless}
use Rattle.attr_heads.specs.ProfileHeads.{has_heads, IsUnsquared}
use Rattle.attr_heads.proofs.ProfileHeads.{heads-had}
use Rattle.mesh_model.specs.declared.geometries.Geometry.{Geometry}
use Rattle.mesh_model.specs.Assembled.{assembled}
use Rattle.mesh_model.specs.Contents.{heads_in}
use Rattle.mesh_model.specs.Groups.{AttrTable}
use Rattle.mesh_model.specs.Parts.{MeshParts, CloudParts, mesh_of, cloud_of}
use Rattle.corner_table.specs.Ordered.{Ordered}
use Rattle.seq_section.specs.Indices.{indices_at}
use Rattle.eb_section.specs.Connectivity.{Connectivity, connectivity_at}
use Rattle.attr_section.specs.declared.decoder_heads.DecoderHead.{DecoderHead}
use Rattle.attr_section.specs.Attributes.{decoder_values_at, values_in}
use Rattle.attr_section.specs.Heads.{heads_at}
use Rattle.attr_section.specs.Positions.{PositionsRead}
use Rattle.attr_section.proofs.ProfileHeads.{HasUnsquared, IsOld, heads-unsquared, values-unsquared}
use Rattle.drc_container.specs.declared.headers.Form.{Form}
use Rattle.drc_container.specs.declared.headers.Form.TheVariants as form
use Rattle.drc_container.specs.declared.reading.attributes.Attributes.{Attributes}
use Rattle.drc_container.specs.declared.reading.decoding.PointsRead.{PointsRead}
use Rattle.drc_container.specs.declared.reading.info.Decoded.{Decoded}
use Rattle.drc_container.specs.Header.{header_at, cloud_points_at}
use Rattle.drc_container.specs.reading.Meaning.{Meaning, told_by, geometry_due, geometry_read}
use Rattle.drc_container.specs.reading.OnSurface.{SurfaceAttributes, no_attributes, attributes_joined, decoder_attributes, positions_among, values_on, ordered_for, decoder_on, surface_decoders_at, attributes_on, at_end, accepted, counts_in, assembled_in, assembled_at}
use Rattle.drc_container.specs.reading.Stream.{decoders_values_at, sequential_attributes_at, points_behind, mesh_behind, mesh_at, cloud_behind, cloud_at, surface_behind, edgebreaker_at, body_at, stream_in, meaning_in}
use Rattle.drc_container.proofs.lemmas.reading.Parted.{given, parts}

-- what is made where there is no fault
made : {A : Type 0} (P : A → Type 0) (r : Option Fault) (a x : A) → value_unless r a ≡ Ok x → P a → P x
made P None a x is holds = subst P (Ok-injective is) holds
made P (Some f) a x is holds = absurd (err≢ok is)

-- what is made at the end of a stream
made-at-end : {A : Type 0} (end : ℕ) (r : Result A Fault) (x : A) → at_end end r ≡ Ok x → r ≡ Ok x
made-at-end end (Ok a) x is = is
made-at-end end (Err f) x is = absurd (err≢ok is)

-- the attributes of decoders whose heads have no square, behind others without one
decoders-unsquared : (p : Profile) (entries : ℕ) (before : Attributes) → All IsUnsquared before.heads → (ds : List DecoderHead) → All HasUnsquared ds
    → (c : Reading) (y : Attributes × Reading) → decoders_values_at p entries before ds c ≡ Ok y → All IsUnsquared y.0.heads
unfolding decoders_values_at
decoders-unsquared p entries before front [] none c y is = given (λ (z : Attributes × Reading). All IsUnsquared z.0.heads) (before, c) y is front
decoders-unsquared p entries before front (d ∷ ds) each c y is =
    let x = parts (decoder_values_at p None PositionsRead.NotYet d entries (values_in before.values) c) _ y is in
    let here = values-unsquared p None PositionsRead.NotYet d (All-head HasUnsquared d ds each) entries (values_in before.values) c x.0 x.1 in
    let more : Attributes = record { heads = before.heads ++ x.0.0.1.heads; values = before.values ++ x.0.0.0 } in
    decoders-unsquared p entries more (All-append IsUnsquared before.heads x.0.0.1.heads front here) ds (All-tail HasUnsquared d ds each) x.0.1 y x.2

-- all attributes of a sequential stream
sequential-unsquared : (p : Profile) → IsOld p → (entries : ℕ) (c : Reading) (y : Attributes × Reading) → sequential_attributes_at p entries c ≡ Ok y
    → All IsUnsquared y.0.heads
unfolding sequential_attributes_at
sequential-unsquared p old entries c y is =
    let d = parts (heads_at p None c) _ y is in
    decoders-unsquared p entries (record { heads = []; values = [] }) (All-nil IsUnsquared) d.0.0 (heads-unsquared p old None c d.0 d.1) d.0.1 y d.2

points-unsquared : (p : Profile) → IsOld p → (from points : ℕ) (c : Reading) (y : PointsRead) → points_behind p from points c ≡ Ok y → All IsUnsquared y.heads
unfolding points_behind
points-unsquared p old from points c y is =
    let a = parts (sequential_attributes_at p points c) _ y is in
    given (λ (z : PointsRead). All IsUnsquared z.heads) _ y a.2 (sequential-unsquared p old points c a.0 a.1)

-- a geometry whose heads have no square
abbrev IsPlain : Meaning → Type 0
IsPlain m = All IsUnsquared (heads_in m.geometry)

mesh-unsquared : (p : Profile) → IsOld p → (c : Reading) (y : Meaning) → mesh_at p c ≡ Ok y → IsPlain y
unfolding mesh_at mesh_behind
mesh-unsquared p old c y is =
    let i = parts (indices_at p c) _ y is in
    let r = parts (points_behind p c.place i.0.0.points i.0.1) _ y i.2 in
    let m = parts (mesh_of r.0.heads r.0.cells i.0.0.faces) _ y r.2 in
    let heads = points-unsquared p old c.place i.0.0.points i.0.1 r.0 r.1 in
    given IsPlain _ y m.2 (made (λ (m : MeshParts). All IsUnsquared m.heads) _ _ m.0 m.1 heads)

cloud-unsquared : (p : Profile) → IsOld p → (c : Reading) (y : Meaning) → cloud_at p c ≡ Ok y → IsPlain y
unfolding cloud_at cloud_behind
cloud-unsquared p old c y is =
    let n = parts (cloud_points_at p c) _ y is in
    let r = parts (points_behind p c.place n.0.0 n.0.1) _ y n.2 in
    let m = parts (cloud_of r.0.heads r.0.cells) _ y r.2 in
    let heads = points-unsquared p old c.place n.0.0 n.0.1 r.0 r.1 in
    given IsPlain _ y m.2 (made (λ (m : CloudParts). All IsUnsquared m.heads) _ _ m.0 m.1 heads)

-- the attributes of a decoder on a surface
on-unsquared : (p : Profile) (w : Ordered) (found : PositionsRead) (d : DecoderHead) → HasUnsquared d → (spent : ℕ) (c : Reading)
    (y : SurfaceAttributes × Reading) → decoder_on p w found d spent c ≡ Ok y → All IsUnsquared y.0.heads
unfolding decoder_on
on-unsquared p w found d none spent c y is =
    let x = parts (decoder_values_at p (Some w) found d (length w.corners) spent c) (λ x. Ok (decoder_attributes w x.0.1 x.0.0, x.1)) y is in
    given (λ (z : SurfaceAttributes × Reading). All IsUnsquared z.0.heads) (decoder_attributes w x.0.0.1 x.0.0.0, x.0.1) y x.2
    (values-unsquared p (Some w) found d none (length w.corners) spent c x.0 x.1)

surfaces-unsquared : (p : Profile) (s : Connectivity) (before : SurfaceAttributes) → All IsUnsquared before.heads → (ds : List DecoderHead) → All HasUnsquared ds
    → (c : Reading) (y : SurfaceAttributes × Reading) → surface_decoders_at p s before ds c ≡ Ok y → All IsUnsquared y.0.heads
unfolding surface_decoders_at
surfaces-unsquared p s before front [] none c y is = given (λ (z : SurfaceAttributes × Reading). All IsUnsquared z.0.heads) (before, c) y is front
surfaces-unsquared p s before front (d ∷ ds) each c y is =
    let x = parts (decoder_on p (ordered_for s d) (positions_among before) d (values_on before.tables) c) _ y is in
    let here = on-unsquared p (ordered_for s d) (positions_among before) d (All-head HasUnsquared d ds each) (values_on before.tables) c x.0 x.1 in
    surfaces-unsquared p s (attributes_joined before x.0.0) (All-append IsUnsquared before.heads x.0.0.heads front here) ds (All-tail HasUnsquared d ds each) x.0.1 y x.2

-- all attributes of an Edgebreaker mesh
attributes-unsquared : (p : Profile) → IsOld p → (s : Connectivity) (c : Reading) (y : SurfaceAttributes × Reading) → attributes_on p s c ≡ Ok y
    → All IsUnsquared y.0.heads
unfolding attributes_on
attributes-unsquared p old s c y is =
    let d = parts (heads_at p (Some s.attr_data) c) _ y is in
    surfaces-unsquared p s no_attributes (All-nil IsUnsquared) d.0.0 (heads-unsquared p old (Some s.attr_data) c d.0 d.1) d.0.1 y d.2

assembled-unsquared : (p : Profile) (heads : List Head) (tables : List AttrTable) (faces : ℕ) (m : MeshParts) → assembled_in p heads tables faces ≡ Ok m
    → All IsUnsquared heads → All IsUnsquared m.heads
unfolding assembled_in assembled
assembled-unsquared p heads tables faces m is none =
    let a = parts (assembled heads tables faces) (accepted p) m is in
    made (λ (m : MeshParts). All IsUnsquared m.heads) (counts_in p a.0) a.0 m a.2 (made (λ (m : MeshParts). All IsUnsquared m.heads) _ _ a.0 a.1 none)

surface-unsquared : (p : Profile) → IsOld p → (c : Reading) (y : Meaning) → edgebreaker_at p c ≡ Ok y → IsPlain y
unfolding edgebreaker_at surface_behind
surface-unsquared p old c y is =
    let s = parts (connectivity_at p c) _ y is in
    let a = parts (attributes_on p s.0.0 s.0.1) _ y s.2 in
    let m = parts (assembled_at p a.0.1.place s.0.0.faces a.0.0) _ y a.2 in
    let whole = made-at-end a.0.1.place (assembled_in p a.0.0.heads a.0.0.tables s.0.0.faces) m.0 m.1 in
    let heads = attributes-unsquared p old s.0.0 s.0.1 a.0 a.1 in
    given IsPlain _ y m.2 (assembled-unsquared p a.0.0.heads a.0.0.tables s.0.0.faces m.0 whole heads)

body-unsquared : (p : Profile) → IsOld p → (f : Form) (c : Reading) (y : Meaning) → body_at p f c ≡ Ok y → IsPlain y
body-unsquared p old form.SequentialMesh c y is = mesh-unsquared p old c y is
body-unsquared p old form.EdgebreakerMesh c y is = surface-unsquared p old c y is
body-unsquared p old form.Cloud c y is = cloud-unsquared p old c y is

-- the profile of this number has the heads of a geometry
abbrev pub IsHad : ℕ → Geometry → Type 0
IsHad k g = IsTrue (has_heads k (heads_in g))

-- what a stream means in a profile without octahedral attributes has no square; so each profile has the heads of what streams mean in it
pub body-had : (k : ℕ) (f : Form) (c : Reading) (m : Meaning) → body_at (profile_numbered k) f c ≡ Ok m → IsTrue (has_heads k (heads_in m.geometry))
body-had k f c m is = heads-had k (heads_in m.geometry) (λ old. body-unsquared (profile_numbered k) old f c m is)

pub stream-had : (k : ℕ) (bytes : List ℕ) (m : Meaning) → stream_in (profile_numbered k) bytes ≡ Ok m → IsTrue (has_heads k (heads_in m.geometry))
unfolding stream_in
stream-had k bytes m is =
    let h = parts (header_at (start_of bytes)) _ m is in
    body-had k h.0.0 h.0.1 m h.2

pub meaning-had : (k : ℕ) (bytes : List ℕ) (g : Geometry) → meaning_in (profile_numbered k) bytes ≡ Ok g → IsTrue (has_heads k (heads_in g))
meaning-had k bytes g is =
    let m = parts (stream_in (profile_numbered k) bytes) (λ (d : Meaning). Ok d.geometry) g is in
    given (IsHad k) m.0.geometry g m.2 (stream-had k bytes m.0 m.1)

-- the same of what is answered
pub decoded-had : (k : ℕ) (f : Form) (c : Reading) (read : Result Decoded Refusal) → Answers told_by (body_at (profile_numbered k) f c) read
    → IfOk read (λ d. IsTrue (has_heads k (heads_in d.geometry)))
decoded-had k f c (Ok d) is = body-had k f c (told_by d) is
decoded-had k f c (Err e) is = tt

pub geometry-had : (k : ℕ) (f : Form) (c : Reading) (read : Result Decoded Refusal) → Answers told_by (body_at (profile_numbered k) f c) read
    → IfOk (geometry_read read) (IsHad k)
geometry-had k f c (Ok d) is = body-had k f c (told_by d) is
geometry-had k f c (Err e) is = tt

pub mesh-had : (k : ℕ) (c : Reading) (answer : Result Geometry Refusal) → Answers (λ g. g) (geometry_due (edgebreaker_at (profile_numbered k) c)) answer
    → IfOk answer (IsHad k)
mesh-had k c (Ok g) is =
    let m = parts (edgebreaker_at (profile_numbered k) c) (λ (d : Meaning). Ok d.geometry) g is in
    given (IsHad k) m.0.geometry g m.2 (body-had k form.EdgebreakerMesh c m.0 m.1)
mesh-had k c (Err e) is = tt
