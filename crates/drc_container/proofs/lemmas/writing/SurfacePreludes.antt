-- What holds of the prelude of a mesh's stream and of the surface behind it, holds of the mesh.
use Rattle.std.proofs.Common.{◌≡◌, ℕ, ◌≤◌, ◌++◌, Bool, List, map, length, refl, sym, ap, ◌∙◌, subst, Vec, Global}
use Rattle.std.specs.Prelude.{option_map}
use Rattle.drc_base.specs.declared.limits.TheConstants.{MAX_POINTS}
use Rattle.mesh_model.specs.declared.geometries.Geometry.TheVariants.{Mesh}
use Rattle.mesh_model.specs.Parts.{MeshParts, IsMesh}
use Rattle.corner_table.specs.Table.{gluing_of}
use Rattle.corner_table.specs.Carried.{IsRenumbering}
use Rattle.eb_trace.specs.declared.tracing.Traced.{Traced}
use Rattle.eb_section.specs.ReadAgain.{IsReadAgain}
use Rattle.eb_section.specs.Written.{connectivity_bytes}
use Rattle.drc_container.specs.declared.surface.traced_surfaces.TracedSurface.{TracedSurface}
use Rattle.drc_container.specs.declared.surface.seamed_surface.SeamedSurface.{SeamedSurface}
use Rattle.drc_container.specs.choice.Refused.{tracing_fault}
use Rattle.drc_container.specs.writing.Written.{header_bytes}
use Rattle.drc_container.specs.writing.WrittenOnSurface.{traced, decoded, seam_lists, prelude_bytes}
use Rattle.drc_container.specs.surface.AttributeSurfaces.{flag_lists}
use Rattle.drc_container.specs.writing.Encoded.{ConnectivityReadAgain}
use Rattle.drc_container.specs.surface.Traced.{IsTraced, IsSeamedSurface}
use Rattle.drc_container.proofs.lemmas.surface.Traced.{traced-orders}
use Rattle.drc_container.proofs.lemmas.writing.SurfaceEncoded.{IsTracedTo, traced-to, vertices-few, value-told}

-- ---- a traced surface

traced-whole : (m : MeshParts) (t : TracedSurface) → IsMesh m → IsTraced m t → IsTracedTo m t.trace (decoded m)
traced-whole m t is T = traced-to m t.trace (decoded m) is T.trace refl

-- the trace is that of the mesh
pub trace-is : (m : MeshParts) (t : TracedSurface) → IsTraced m t → t.trace ≡ traced m
trace-is m t T = value-told (tracing_fault m) (traced m) t.trace T.trace

-- its order lists each face once
pub order-renumbers : (m : MeshParts) (t : TracedSurface) → IsMesh m → IsTraced m t → IsRenumbering (length m.faces) t.trace.order
order-renumbers m t is T =
    subst (λ (x : Traced). IsRenumbering (length m.faces) x.order) (sym (trace-is m t T)) (traced-orders m is (traced-whole m t is T).proper)

-- it has no more vertices than there may be
pub trace-few : (m : MeshParts) (t : TracedSurface) → IsMesh m → IsTraced m t → t.trace.vertices ≤ MAX_POINTS
trace-few m t is T = vertices-few m t.trace (decoded m) (traced-whole m t is T)

-- ---- the prelude

-- the surface that is kept
pub seamed-surface : (m : MeshParts) (t : TracedSurface) (c : SeamedSurface) → IsTraced m t
    → c.rows ≡ t.trace.order → c.sides.faces ≡ length m.faces → gluing_of c.sides ≡ gluing_of t.sides
    → map (option_map (λ (v : Vec Bool Global). v.items)) c.flags.items ≡ flag_lists (decoded m) → IsSeamedSurface m c
seamed-surface m t c T rows faces pairs flags = record {
  rows = rows ∙ ap (λ (x : Traced). x.order) (trace-is m t T);
  faces = faces;
  pairs = pairs ∙ T.pairs;
  flags = flags;
}

-- the bytes behind those that were there
pub prelude-bytes : (valence : Bool) (m : MeshParts) (t : TracedSurface) (lists : List (List Bool)) (old new : List ℕ) → IsTraced m t → lists ≡ seam_lists (decoded m)
    → new ≡ old ++ (header_bytes 1 (Mesh m) ++ connectivity_bytes valence (length m.faces) t.trace lists) → new ≡ old ++ prelude_bytes valence m
prelude-bytes valence m t lists old new T lists_are so =
    let bytes : Traced → List (List Bool) → List ℕ = λ x l. old ++ (header_bytes 1 (Mesh m) ++ connectivity_bytes valence (length m.faces) x l) in
    so ∙ ap (λ (x : Traced). bytes x lists) (trace-is m t T) ∙ ap (bytes (traced m)) lists_are

-- the connectivity is read back
pub connectivity-again : (valence : Bool) (m : MeshParts) (t : TracedSurface) (lists : List (List Bool)) → IsTraced m t → lists ≡ seam_lists (decoded m)
    → IsReadAgain valence (length m.faces) t.trace lists (connectivity_bytes valence (length m.faces) t.trace lists) → ConnectivityReadAgain valence m
connectivity-again valence m t lists T lists_are again =
    let bytes : Traced → List (List Bool) → List ℕ = λ x l. connectivity_bytes valence (length m.faces) x l in
    subst (λ (l : List (List Bool)). IsReadAgain valence (length m.faces) (traced m) l (bytes (traced m) l)) lists_are
    (subst (λ (x : Traced). IsReadAgain valence (length m.faces) x lists (bytes x lists)) (trace-is m t T) again)
