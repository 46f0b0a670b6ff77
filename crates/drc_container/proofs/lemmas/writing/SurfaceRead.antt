-- A stream that is written by Edgebreaker is read.
use Rattle.drc_base.specs.Profile.{Profile, profile_numbered}
use Rattle.std.proofs.Common.{◌≡◌, ℕ, ◌+◌, ◌-◌, List, [], ◌∷◌, ◌++◌, map, length, Some, Result, Ok, refl, sym, ◌∙◌, ap, arith, append-nil, append_assoc, length-append}
use Rattle.std.specs.Str.{bytes_eq}
use Rattle.std.specs.List.{enumerate_from}
use Rattle.drc_base.specs.declared.kinds.Kind.TheVariants as kind
use Rattle.drc_base.specs.declared.faults.Fault.{Fault}
use Rattle.drc_base.specs.Steps.{◌>>=◌}
use Rattle.drc_bits.specs.Reading.{Reading, bytes_at}
use Rattle.drc_bits.specs.Numbers.{number_at}
use Rattle.drc_bits.specs.Spells.{Spells}
use Rattle.drc_bits.proofs.Spelled.{Spells-then, Spells-must, Spells-byte, Spells-bytes, Spells-number}
use Rattle.attr_heads.specs.declared.heads.Head.{Head}
use Rattle.mesh_model.specs.declared.geometries.Geometry.{Geometry}
use Rattle.mesh_model.specs.declared.geometries.Geometry.TheVariants.{Mesh}
use Rattle.mesh_model.specs.Assembled.{assembled}
use Rattle.mesh_model.specs.Parts.{MeshParts, IsMesh}
use Rattle.eb_section.specs.Connectivity.{Connectivity}
use Rattle.drc_container.specs.declared.choice.codings.Coding.{Coding}
use Rattle.drc_container.specs.declared.headers.Form.{Form}
use Rattle.drc_container.specs.declared.headers.Form.TheVariants as form
use Rattle.drc_container.specs.Header.{magic, magic_at, minor_of, form_said, header_at}
use Rattle.drc_container.specs.reading.OnSurface.{SurfaceAttributes, at_end, assembled_in, assembled_at}
use Rattle.drc_container.specs.reading.Stream.{stream_in, body_at, edgebreaker_at, surface_behind}
use Rattle.drc_container.specs.reading.Meaning.{Meaning, edgebreaker_info}
use Rattle.drc_container.specs.writing.Written.{geometry_type, header_bytes}
use Rattle.drc_container.specs.writing.WrittenOnSurface.{decoded, connectivity_of, decoder_heads_bytes, values_bytes_on, edgebreaker_bytes}
use Rattle.drc_container.specs.writing.Encoded.{CanCodeSurface, SurfaceSpelled}
use Rattle.drc_container.specs.choice.Predicts.{needed_number}
use Rattle.drc_container.proofs.lemmas.reading.Limited.{connectivity_alike}
use Rattle.drc_container.proofs.lemmas.reading.ProfileCounts.{assembled-all}
use Rattle.drc_container.proofs.lemmas.writing.SurfaceWritten.{surface_place, heads_place, values_place, tables_written, mesh_written, info_before, meaning_before, meaning_written}
use Rattle.drc_container.proofs.lemmas.writing.SurfaceConnectivity.{connectivity_written, connectivity-read}
use Rattle.drc_container.proofs.lemmas.writing.SurfaceDecoders.{attributes_written, attributes-read}

-- a header that says a form
pub form-spelled : (method : ℕ) (g : Geometry) (f : Form) → form_said 2 (minor_of (geometry_type g)) (geometry_type g) method 0 ≡ Ok f
    → Spells header_at (header_bytes method g) f
unfolding header_at header_bytes
form-spelled method g f said =
    let minor : ℕ = minor_of (geometry_type g) in
    let type : ℕ = geometry_type g in
    Spells-then magic_at (λ _ c. number_at 1 c >>= λ major. number_at 1 major.1 >>= λ minor. number_at 1 minor.1 >>= λ geometry. number_at 1 geometry.1 >>= λ method. number_at 2 method.1 >>= λ flags. form_said major.0 minor.0 geometry.0 method.0 flags.0 >>= λ f. Ok (f, flags.1))
    magic (2 ∷ minor ∷ type ∷ method ∷ 0 ∷ 0 ∷ []) magic f
    (Spells-must kind.Magic (λ bytes. bytes_eq bytes magic) (bytes_at 5) magic magic refl (Spells-bytes magic))
    (Spells-then (number_at 1) (λ major c. number_at 1 c >>= λ minor. number_at 1 minor.1 >>= λ geometry. number_at 1 geometry.1 >>= λ method. number_at 2 method.1 >>= λ flags. form_said major minor.0 geometry.0 method.0 flags.0 >>= λ f. Ok (f, flags.1))
    (2 ∷ []) (minor ∷ type ∷ method ∷ 0 ∷ 0 ∷ []) 2 f (Spells-byte 2)
    (Spells-then (number_at 1) (λ minor c. number_at 1 c >>= λ geometry. number_at 1 geometry.1 >>= λ method. number_at 2 method.1 >>= λ flags. form_said 2 minor geometry.0 method.0 flags.0 >>= λ f. Ok (f, flags.1))
    (minor ∷ []) (type ∷ method ∷ 0 ∷ 0 ∷ []) minor f (Spells-byte minor)
    (Spells-then (number_at 1) (λ geometry c. number_at 1 c >>= λ method. number_at 2 method.1 >>= λ flags. form_said 2 minor geometry method.0 flags.0 >>= λ f. Ok (f, flags.1))
    (type ∷ []) (method ∷ 0 ∷ 0 ∷ []) type f (Spells-byte type)
    (Spells-then (number_at 1) (λ method c. number_at 2 c >>= λ flags. form_said 2 minor type method flags.0 >>= λ f. Ok (f, flags.1))
    (method ∷ []) (0 ∷ 0 ∷ []) method f (Spells-byte method)
    (record { reads = λ place rest. rw ((Spells-number 2 (0 ∷ 0 ∷ []) refl).reads place rest, said) refl })))))

said-mesh : (m : MeshParts) → form_said 2 (minor_of (geometry_type (Mesh m))) (geometry_type (Mesh m)) 1 0 ≡ Ok form.EdgebreakerMesh
unfolding form_said
said-mesh m = refl

length-header : (m : MeshParts) → length (header_bytes 1 (Mesh m)) ≡ surface_place
unfolding header_bytes
length-header m = refl

-- the end of the stream
end-is : (coding : Coding) (m : MeshParts) → values_place coding m + length (values_bytes_on coding (decoded m)) ≡ length (edgebreaker_bytes coding m)
unfolding edgebreaker_bytes
end-is coding m =
    let d = decoded m in
    let header : List ℕ = header_bytes 1 (Mesh m) in
    let surface : List ℕ = connectivity_of coding.valence m in
    let heads : List ℕ = decoder_heads_bytes coding d in
    let values : List ℕ = values_bytes_on coding d in
    omega (arith, length-append header (surface ++ (heads ++ values)), length-append surface (heads ++ values), length-append heads values, length-header m)

-- numbered heads are the heads
heads-numbered : (j : ℕ) (heads : List Head) → map (λ (k, h). h) (enumerate_from j heads) ≡ heads
heads-numbered j [] = refl
heads-numbered j (h ∷ heads) = ap (λ (l : List Head). h ∷ l) (heads-numbered (j + 1) heads)

-- the first profile that has all that is written
abbrev pub profile_for : Coding → MeshParts → Profile
profile_for coding m = profile_numbered (needed_number coding.predict m.heads)

-- a mesh with its surface, of which so many bytes of connectivity, these attributes, this end and these bytes behind it are known
abbrev info_to : Coding → MeshParts → List ℕ → ℕ → ℕ → Result Meaning Fault
info_to coding m more long end = Ok (record {
  geometry = Mesh (mesh_written coding m);
  surface = Some (record { faces = length m.faces; glued = (decoded m).pairs });
  info = record (info_before coding m more) { connectivity = (surface_place, long); end = end };
})

-- what is behind the connectivity
surface-read : (coding : Coding) (m : MeshParts) → IsMesh m → CanCodeSurface coding m → (parts : SurfaceSpelled coding m)
    → assembled m.heads (tables_written coding m) (length m.faces) ≡ Ok (mesh_written coding m) → (more : List ℕ)
    → surface_behind (profile_for coding m) surface_place (connectivity_written coding m parts.connectivity.blocks)
    (record { place = heads_place coding m; rest = decoder_heads_bytes coding (decoded m) ++ (values_bytes_on coding (decoded m) ++ more) })
    ≡ Ok (meaning_before coding m more)
unfolding surface_behind
surface-read coding m is can parts made more =
    let s : Connectivity = connectivity_written coding m parts.connectivity.blocks in
    let to : ℕ = heads_place coding m in
    let values : List ℕ = values_bytes_on coding (decoded m) in
    let a : SurfaceAttributes = attributes_written coding (decoded m) (values_place coding m) (enumerate_from 0 m.heads) in
    let end : ℕ = values_place coding m + length values in
    let last : Reading = record { place = end; rest = more } in
    let next : SurfaceAttributes × Reading → Result Meaning Fault = λ a. assembled_at (profile_for coding m) a.1.place s.faces a.0 >>= λ mesh. Ok (record {
      geometry = Mesh mesh;
      surface = Some (record { faces = s.faces; glued = s.glued });
      info = edgebreaker_info surface_place to s a.0.info a.1;
    }) in
    let of_mesh : MeshParts → Result Meaning Fault = λ mesh. Ok (record {
      geometry = Mesh mesh;
      surface = Some (record { faces = length m.faces; glued = (decoded m).pairs });
      info = edgebreaker_info surface_place to s a.info last;
    }) in
    let long : to - surface_place ≡ length (connectivity_of coding.valence m) = omega arith in
    ap (λ y. y >>= next) (attributes-read coding m is can parts to more)
    ∙ ap (λ (l : List Head). at_end end (assembled_in (profile_for coding m) l (tables_written coding m) (length m.faces)) >>= of_mesh) (heads-numbered 0 m.heads)
    ∙ ap (λ (r : Result MeshParts Fault). at_end end r >>= of_mesh) (assembled-all (needed_number coding.predict m.heads) m.heads (tables_written coding m) (length m.faces) ∙ made)
    ∙ ap (λ (n : ℕ). info_to coding m more n end) long
    ∙ ap (λ (n : ℕ). info_to coding m more (length (connectivity_of coding.valence m)) n) (end-is coding m)

-- a stream that is written by Edgebreaker is read, where its parts are, whatever follows it
pub stream-on-surface_before : (coding : Coding) (m : MeshParts) → IsMesh m → CanCodeSurface coding m → SurfaceSpelled coding m
    → assembled m.heads (tables_written coding m) (length m.faces) ≡ Ok (mesh_written coding m)
    → (more : List ℕ) → stream_in (profile_for coding m) (edgebreaker_bytes coding m ++ more) ≡ Ok (meaning_before coding m more)
unfolding stream_in edgebreaker_at edgebreaker_bytes
stream-on-surface_before coding m is can parts made more =
    let header : List ℕ = header_bytes 1 (Mesh m) in
    let surface : List ℕ = connectivity_of coding.valence m in
    let heads : List ℕ = decoder_heads_bytes coding (decoded m) in
    let values : List ℕ = values_bytes_on coding (decoded m) in
    let behind : List ℕ = heads ++ (values ++ more) in
    let start : 0 + length (header_bytes 1 (Mesh m)) ≡ surface_place = omega (arith, length-header m) in
    let p = profile_for coding m in
    ap (λ (bytes : List ℕ). stream_in p bytes)
    (append_assoc header (surface ++ (heads ++ values)) more
    ∙ ap (λ (b : List ℕ). header ++ b) (append_assoc surface (heads ++ values) more ∙ ap (λ (b : List ℕ). surface ++ b) (append_assoc heads values more)))
    ∙ ap (λ x. x >>= λ header. body_at p header.0 header.1) ((form-spelled 1 (Mesh m) form.EdgebreakerMesh (said-mesh m)).reads 0 (surface ++ behind))
    ∙ ap (λ (n : ℕ). edgebreaker_at p (record { place = n; rest = surface ++ behind })) start
    ∙ ap (λ x. x >>= λ connectivity. surface_behind p surface_place connectivity.0 connectivity.1)
    (connectivity_alike (needed_number coding.predict m.heads) (record { place = surface_place; rest = surface ++ behind })
    ∙ (connectivity-read coding m is can.proper parts.connectivity).reads surface_place behind)
    ∙ surface-read coding m is can parts made more

-- and alone
pub stream-on-surface : (coding : Coding) (m : MeshParts) → IsMesh m → CanCodeSurface coding m → SurfaceSpelled coding m
    → assembled m.heads (tables_written coding m) (length m.faces) ≡ Ok (mesh_written coding m)
    → stream_in (profile_for coding m) (edgebreaker_bytes coding m) ≡ Ok (meaning_written coding m)
stream-on-surface coding m is can parts made =
    ap (λ (bytes : List ℕ). stream_in (profile_for coding m) bytes) (sym (append-nil (edgebreaker_bytes coding m))) ∙ stream-on-surface_before coding m is can parts made []
