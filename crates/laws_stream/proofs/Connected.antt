-- The connectivity of a mesh that is written by Edgebreaker is what its writer needs: the trace is writable, and the lists of seam bits
-- are few and short.
use Rattle.std.proofs.Common.{◌≡◌, ℕ, ◌+◌, ◌-◌, ◌<◌, ◌≤◌, ◌^◌, Bool, List, length, get_or, None, refl, ap, arith}
use Rattle.std.specs.List.{All}
use Rattle.std.proofs.lemmas.List.{length-reverse}
use Rattle.std.proofs.lemmas.List.FromFn.{length-map-range_with_len, get_or-map-range_with_len}
use Rattle.drc_base.specs.declared.limits.TheConstants.{MAX_ATTRIBUTES, MAX_POINTS}
use Rattle.mesh_model.specs.Parts.{MeshParts, IsMesh}
use Rattle.attr_heads.proofs.Passing.{heads_say}
use Rattle.pairing.specs.Pairing.{pairing}
use Rattle.pairing.specs.Degenerate.{degenerate_fault}
use Rattle.corner_table.specs.Sides.{Gluing}
use Rattle.corner_table.specs.Fans.{IsProper}
use Rattle.eb_trace.specs.declared.tracing.Traced.{Traced}
use Rattle.eb_trace.specs.Writable.{IsWritable}
use Rattle.eb_trace.proofs.Given.{rebuilt_from, bits_given, events_given, events_taken, few_events, few_symbols, carried_given}
use Rattle.eb_trace.proofs.Writable.{is_writable}
use Rattle.laws_connectivity.specs.Laws.{ConnectivityIsRead}
use Rattle.drc_container.specs.declared.choice.codings.Coding.{Coding}
use Rattle.drc_container.specs.writing.WrittenOnSurface.{traced, GluedMesh, decoded, seam_bits_of, seam_lists}
use Rattle.drc_container.specs.writing.Encoded.{CanCodeSurface, ConnectivityReadAgain}
use Rattle.drc_container.proofs.lemmas.surface.Tracing.{IsTraceOf}
use Rattle.drc_container.proofs.lemmas.surface.Proper.{pairing-proper}
use Rattle.drc_container.proofs.lemmas.surface.Decoded.{decoded-keeps}
use Rattle.drc_container.proofs.lemmas.writing.SurfaceParts.{bits-few}

-- ---- the trace

-- a trace of a proper surface is writable
trace-writable : (faces : ℕ) (g : Gluing) (t : Traced) → IsProper faces g → IsTraceOf faces g t → IsWritable faces t.vertices t.symbols t.events t.starts
trace-writable faces g t P is =
    let G = P.gluing in
    let F = P.three_fans in
    let events = events_given faces g G F t.symbols t.events is.symbols is.events in
    is_writable faces t.vertices g t.symbols t.events t.starts t.order (carried_given faces g G F t.order t.vertices is.order is.vertices).0
    (rebuilt_from faces g G F t.symbols t.events t.starts t.order t.vertices is.symbols is.events is.starts is.order is.vertices)
    (bits_given faces g G F t.symbols t.starts t.order is.symbols is.starts is.order) (length-reverse t.symbols)
    (few_symbols faces g G F t.symbols is.symbols) (few_events t.symbols t.events events) (events_taken t.symbols t.events events) events.in_order

-- so is that of a mesh
traced-trace : (m : MeshParts) → IsTraceOf (length m.faces) (pairing m) (traced m)
unfolding traced
traced-trace m = record { symbols = refl; events = refl; starts = refl; order = refl; vertices = refl }

pub traced-writable : (m : MeshParts) → IsMesh m → degenerate_fault m ≡ None
    → IsWritable (length m.faces) (traced m).vertices (traced m).symbols (traced m).events (traced m).starts
traced-writable m is proper = trace-writable (length m.faces) (pairing m) (traced m) (pairing-proper m is proper) (traced-trace m)

-- ---- the lists of seam bits

-- there is one for each attribute but the first
lists-few : (d : GluedMesh) → IsMesh d.mesh → length (seam_lists d) ≤ MAX_ATTRIBUTES
lists-few d is =
    let say = heads_say d.mesh.heads is.points.heads_pass in
    omega (arith, say.few, length-map-range_with_len (seam_bits_of d) 1 (length d.mesh.heads - 1))

-- and none has more bits than the surface has sides
lists-short : (d : GluedMesh) → IsMesh d.mesh → All (λ (bits : List Bool). length bits < 2 ^ 31) (seam_lists d)
lists-short d is k e below =
    let n = length d.mesh.heads - 1 in
    let many : length (seam_lists d) ≡ n = length-map-range_with_len (seam_bits_of d) 1 n in
    let here : get_or (seam_lists d) k e ≡ seam_bits_of d (1 + k) = get_or-map-range_with_len (seam_bits_of d) 1 n k (1 + k) e (omega (arith, below, many)) refl in
    omega (arith, ap length here, bits-few d (1 + k), is.few_faces)

-- ---- both

pub surface_connectivity-again : ConnectivityIsRead → (coding : Coding) (m : MeshParts) → IsMesh m → CanCodeSurface coding m → ConnectivityReadAgain coding.valence m
surface_connectivity-again read coding m is can =
    let d = decoded m in
    let D = decoded-keeps m is can.proper in
    let few : (traced m).vertices ≤ MAX_POINTS = omega (arith, can.few_vertices, (traced-trace m).vertices) in
    read coding.valence (length m.faces) (traced m) (seam_lists d) (traced-writable m is can.proper) is.few_faces few (lists-few d D.mesh) (lists-short d D.mesh)
