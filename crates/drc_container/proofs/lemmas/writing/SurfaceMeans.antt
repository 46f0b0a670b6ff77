-- A stream that is written by Edgebreaker means its mesh, with the surface of the mesh's pairs, and is coded as chosen.
use Rattle.std.proofs.Common.{◌≡◌, ℕ, false, List, length, Ok, refl, sym, ◌∙◌, ap, subst}
use Rattle.drc_base.specs.Steps.{◌>>=◌}
use Rattle.mesh_model.specs.declared.geometries.Geometry.{Geometry}
use Rattle.mesh_model.specs.declared.geometries.Geometry.TheVariants.{Mesh}
use Rattle.mesh_model.specs.Same.{Rows}
use Rattle.mesh_model.specs.Parts.{MeshParts, IsMesh}
use Rattle.drc_container.specs.declared.choice.codings.Coding.{Coding}
use Rattle.drc_container.specs.declared.choice.choices.Choice.{Choice}
use Rattle.drc_container.specs.choice.Choice.{method_of, is_sequential}
use Rattle.drc_container.specs.reading.Stream.{stream_in}
use Rattle.drc_container.specs.writing.WrittenOnSurface.{traced, decoded, edgebreaker_bytes}
use Rattle.drc_container.specs.writing.Chosen.{coding_of}
use Rattle.drc_container.specs.writing.Encoded.{due_on_surface, KeepsSurface, KeepsBeside, Means, CanCodeSurface, SurfaceSpelled}
use Rattle.drc_container.specs.writing.Layout.{IsLaidOut}
use Rattle.drc_container.proofs.lemmas.writing.SurfaceWritten.{meaning_written}
use Rattle.drc_container.proofs.lemmas.choice.SurfaceDue.{IsForSurface, off-on_surface, answer-is}
use Rattle.drc_container.proofs.lemmas.surface.Traced.{decoded-carried}
use Rattle.drc_container.proofs.lemmas.writing.SurfaceRead.{profile_for, stream-on-surface, stream-on-surface_before}
use Rattle.drc_container.proofs.lemmas.writing.SurfaceMesh.{mesh-assembled, mesh-same}
use Rattle.drc_container.proofs.lemmas.writing.SurfaceLayout.{layout-on-surface}

-- the stream has a meaning
stream-written : (coding : Coding) (m : MeshParts) → IsMesh m → CanCodeSurface coding m → SurfaceSpelled coding m
    → stream_in (profile_for coding m) (edgebreaker_bytes coding m) ≡ Ok (meaning_written coding m)
stream-written coding m is can spelled = stream-on-surface coding m is can spelled (mesh-assembled coding m is can)

-- which keeps the surface
surface-kept : (coding : Coding) (m : MeshParts) → IsMesh m → CanCodeSurface coding m → KeepsSurface m (traced m).order (meaning_written coding m).surface
surface-kept coding m is can = record { surface = record { faces = length m.faces; glued = (decoded m).pairs }; is = refl; faces = refl; pairs = decoded-carried m is can.proper }

-- and is the mesh
pub surface-means : (m : MeshParts) (choice : Choice) → is_sequential (method_of (Mesh m) choice) ≡ false → IsMesh m
    → CanCodeSurface (coding_of (Mesh m) choice) m → SurfaceSpelled (coding_of (Mesh m) choice) m
    → Means (Mesh m) choice (edgebreaker_bytes (coding_of (Mesh m) choice) m) (traced m).order
surface-means m choice off is can spelled =
    let coding = coding_of (Mesh m) choice in
    record {
      decoded = meaning_written coding m;
      stream_is = stream-written coding m is can spelled;
      same = mesh-same coding m is can;
      beside = subst (λ b. KeepsBeside b (Mesh m) (meaning_written coding m) (traced m).order) (sym off) (surface-kept coding m is can);
      whole = refl;
      followed = λ more. ap (λ x. x >>= λ d. Ok d.geometry) (stream-on-surface_before coding m is can spelled (mesh-assembled coding m is can) more);
    }

-- it is coded as chosen
pub surface-laid_out : (m : MeshParts) (choice : Choice) → is_sequential (method_of (Mesh m) choice) ≡ false → IsMesh m
    → CanCodeSurface (coding_of (Mesh m) choice) m → SurfaceSpelled (coding_of (Mesh m) choice) m
    → IsLaidOut (Mesh m) choice (edgebreaker_bytes (coding_of (Mesh m) choice) m)
surface-laid_out m choice off is can spelled = layout-on-surface m choice off is can spelled (stream-written (coding_of (Mesh m) choice) m is can spelled)

-- so it is of what is answered
pub answer-means : (g : Geometry) (choice : Choice) (m : MeshParts) (coding : Coding) (bytes : List ℕ) (rows : Rows) → IsForSurface g choice m → IsMesh m
    → coding ≡ coding_of g choice → due_on_surface coding m ≡ Ok (bytes, rows) → CanCodeSurface coding m → SurfaceSpelled coding m
    → Means g choice bytes rows
answer-means g choice m coding bytes rows for is is_coding due can spelled =
    let chosen : coding ≡ coding_of (Mesh m) choice = is_coding ∙ ap (λ x. coding_of x choice) for.mesh in
    let e = answer-is coding m bytes rows due in
    rw (for.mesh, ← e.0, ← e.1, chosen)
    (surface-means m choice (off-on_surface g choice m for) is (subst (λ k. CanCodeSurface k m) chosen can) (subst (λ k. SurfaceSpelled k m) chosen spelled))

pub answer-laid_out : (g : Geometry) (choice : Choice) (m : MeshParts) (coding : Coding) (bytes : List ℕ) (rows : Rows) → IsForSurface g choice m → IsMesh m
    → coding ≡ coding_of g choice → due_on_surface coding m ≡ Ok (bytes, rows) → CanCodeSurface coding m → SurfaceSpelled coding m
    → IsLaidOut g choice bytes
answer-laid_out g choice m coding bytes rows for is is_coding due can spelled =
    let chosen : coding ≡ coding_of (Mesh m) choice = is_coding ∙ ap (λ x. coding_of x choice) for.mesh in
    let e = answer-is coding m bytes rows due in
    rw (for.mesh, ← e.0, chosen)
    (surface-laid_out m choice (off-on_surface g choice m for) is (subst (λ k. CanCodeSurface k m) chosen can) (subst (λ k. SurfaceSpelled k m) chosen spelled))
