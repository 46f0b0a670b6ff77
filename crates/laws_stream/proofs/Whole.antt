-- What is written of a geometry that isn't refused means the geometry and is coded as was chosen.
use Rattle.std.proofs.Common.{◌≡◌, ℕ, Bool, true, false, List, None, inl, inr, refl, sym, ap, subst}
use Rattle.std.specs.Prelude.{if◌then◌else◌}
use Rattle.std.specs.List.{All}
use Rattle.std.proofs.lemmas.Bool.{cases_Bool}
use Rattle.mesh_model.specs.declared.geometries.Geometry.{Geometry}
use Rattle.mesh_model.specs.declared.geometries.Geometry.TheVariants.{Mesh, Cloud}
use Rattle.mesh_model.specs.Contents.{heads_in}
use Rattle.mesh_model.specs.IsGeometry.{IsGeometry}
use Rattle.mesh_model.specs.Parts.{MeshParts, IsMesh}
use Rattle.mesh_model.specs.Renumbering.{plain}
use Rattle.mesh_model.specs.Same.{Rows}
use Rattle.mesh_model.specs.SameLaws.{count_of}
use Rattle.laws_attr.specs.Laws.{HeadFits, HeadsAreRead, DecoderValuesAreRead}
use Rattle.laws_attr.proofs.Heads.{heads_read}
use Rattle.laws_attr.proofs.Decoders.{decoder_values_read}
use Rattle.laws_connectivity.specs.Laws.{IndicesAreRead, ConnectivityIsRead}
use Rattle.laws_connectivity.proofs.Again.{indices-again, connectivity-again}
use Rattle.drc_container.specs.declared.choice.codings.Coding.{Coding}
use Rattle.drc_container.specs.declared.choice.choices.Choice.{Choice}
use Rattle.drc_container.specs.choice.Choice.{method_of, is_sequential, index_of, is_packed}
use Rattle.drc_container.specs.choice.Refused.{refused}
use Rattle.drc_container.specs.writing.Written.{stream_bytes}
use Rattle.drc_container.specs.writing.WrittenOnSurface.{traced, edgebreaker_bytes}
use Rattle.drc_container.specs.writing.Chosen.{mesh_in, coding_of, written}
use Rattle.drc_container.specs.writing.Encoded.{CanCodeSurface, SurfaceSpelled, Means}
use Rattle.drc_container.specs.writing.Layout.{IsLaidOut}
use Rattle.drc_container.proofs.lemmas.choice.FirstRefusals.{cloud-sequential}
use Rattle.drc_container.proofs.lemmas.writing.Attributed.{columns_of_geometry}
use Rattle.drc_container.proofs.lemmas.writing.Meanings.{means}
use Rattle.drc_container.proofs.lemmas.writing.Layouts.{layout-written}
use Rattle.drc_container.proofs.lemmas.writing.SurfaceMeans.{surface-means, surface-laid_out}
use Rattle.laws_stream.specs.Laws.{WrittenMeans, WrittenIsLaidOut}
use Rattle.laws_stream.proofs.Accepted.{early-none, can-code, can-code_surface}
use Rattle.laws_stream.proofs.Connected.{surface_connectivity-again}
use Rattle.laws_stream.proofs.InOrder.{points-are, connectivity-spelled, attributes-spelled}
use Rattle.laws_stream.proofs.OnSurface.{surface_heads-again, surface_values-again}

-- what the laws of the parts say
record PartsAreRead : Type 0 where
  pub indices : IndicesAreRead
  pub connectivity : ConnectivityIsRead
  pub heads : HeadsAreRead
  pub values : DecoderValuesAreRead

parts-read : PartsAreRead
parts-read = record { indices = indices-again; connectivity = connectivity-again; heads = heads_read; values = decoder_values_read }

-- bytes and rows are what they should be of a geometry and a choice
abbrev IsWritten : Geometry → Choice → List ℕ × Rows → Type 0
IsWritten g choice w = Means g choice w.0 w.1 × IsLaidOut g choice w.0

-- what is written by either method
pub written-by : (g : Geometry) (choice : Choice) (b : Bool) → is_sequential (method_of g choice) ≡ b
    → written g choice ≡ (if b then (stream_bytes g choice, plain (count_of g)) else (edgebreaker_bytes (coding_of g choice) (mesh_in g), (traced (mesh_in g)).order))
written-by g choice b is =
    ap (λ s. if s then (stream_bytes g choice, plain (count_of g)) else (edgebreaker_bytes (coding_of g choice) (mesh_in g), (traced (mesh_in g)).order)) is

-- ---- by the sequential method

in-order : PartsAreRead → (g : Geometry) (choice : Choice) → IsGeometry g → All HeadFits (heads_in g) → refused g choice ≡ None
    → is_sequential (method_of g choice) ≡ true → IsWritten g choice (written g choice)
in-order parts g choice is fit none on =
    let are = points-are g is in
    let can = can-code g choice are none on in
    let connectivity = connectivity-spelled parts.indices (is_packed (index_of choice)) g is in
    let attributes = attributes-spelled parts.heads parts.values g choice is fit can in
    let pass = columns_of_geometry g choice can are in
    subst (IsWritten g choice) (sym (written-by g choice true on))
    (means g choice can.sequential is connectivity attributes pass.each_head, layout-written g choice can is connectivity attributes pass)

-- ---- by Edgebreaker

surface-spelled : PartsAreRead → (coding : Coding) (m : MeshParts) → IsMesh m → All HeadFits m.heads → CanCodeSurface coding m
    → SurfaceSpelled coding m
surface-spelled parts coding m is fit can = record {
  connectivity = surface_connectivity-again parts.connectivity coding m is can;
  heads = surface_heads-again parts.heads coding m is can fit;
  values = surface_values-again parts.values coding m is can fit;
}

on-surface : PartsAreRead → (m : MeshParts) (choice : Choice) → IsMesh m → All HeadFits m.heads → refused (Mesh m) choice ≡ None
    → is_sequential (method_of (Mesh m) choice) ≡ false → IsWritten (Mesh m) choice (written (Mesh m) choice)
on-surface parts m choice is fit none off =
    let can = can-code_surface m choice is none off in
    let spelled = surface-spelled parts (coding_of (Mesh m) choice) m is fit can in
    subst (IsWritten (Mesh m) choice) (sym (written-by (Mesh m) choice false off))
    (surface-means m choice off is can spelled, surface-laid_out m choice off is can spelled)

-- ---- by either

is-written : PartsAreRead → (g : Geometry) (choice : Choice) → IsGeometry g → All HeadFits (heads_in g) → refused g choice ≡ None → IsWritten g choice (written g choice)
is-written parts (Mesh m) choice is fit none = elim (cases_Bool (is_sequential (method_of (Mesh m) choice))) [
  | inl on ↦ in-order parts (Mesh m) choice is fit none on
  | inr off ↦ on-surface parts m choice is fit none off
]
is-written parts (Cloud c) choice is fit none =
    in-order parts (Cloud c) choice is fit none (cloud-sequential (Cloud c) choice (early-none (Cloud c) choice none) refl)

pub written-means : WrittenMeans
written-means g choice is fit none = (is-written parts-read g choice is fit none).0

pub written-laid_out : WrittenIsLaidOut
written-laid_out g choice is fit none = (is-written parts-read g choice is fit none).1
