-- A geometry that isn't refused can be coded as chosen.
use Rattle.std.proofs.Common.{◌≡◌, ◌<◌, true, false, List, [], ◌∷◌, length, Option, None, refl, sym, ◌∙◌, ap, subst}
use Rattle.drc_base.specs.declared.faults.Fault.{Fault}
use Rattle.attr_heads.specs.declared.heads.Head.{Head}
use Rattle.mesh_model.specs.declared.geometries.Geometry.{Geometry}
use Rattle.mesh_model.specs.declared.geometries.Geometry.TheVariants.{Mesh}
use Rattle.mesh_model.specs.Contents.{heads_in, points_in}
use Rattle.attr_heads.specs.FirstFault.{first_fault, value_unless}
use Rattle.mesh_model.specs.Parts.{MeshParts, ArePoints, IsMesh}
use Rattle.attr_heads.proofs.FirstFaults.{first_fault-none}
use Rattle.pairing.specs.Degenerate.{degenerate_fault}
use Rattle.attr_section.specs.declared.values.Values.{Values}
use Rattle.drc_container.specs.declared.choice.codings.Coding.{Coding}
use Rattle.drc_container.specs.declared.choice.choices.Choice.{Choice}
use Rattle.drc_container.specs.choice.Choice.{method_of, is_sequential, predict_chosen}
use Rattle.drc_container.specs.choice.Refused.{early_fault, surface_fault, vertices_fault, limit_fault, range_fault, refused, tracing_fault, values_fault, coding_fault}
use Rattle.drc_container.specs.writing.Written.{values_of}
use Rattle.drc_container.specs.writing.WrittenOnSurface.{traced, decoded, coded_values}
use Rattle.drc_container.specs.writing.Chosen.{coding_of, values_chosen}
use Rattle.drc_container.specs.writing.Encoded.{CanCodeInOrder, CanCodeSurface}
use Rattle.drc_container.proofs.lemmas.choice.FirstRefusals.{later-can, refused-later}
use Rattle.drc_container.proofs.lemmas.choice.SurfaceDue.{IsForSurface, some-face, refused-on_surface}
use Rattle.drc_container.proofs.lemmas.surface.Traced.{decoded-heads}
use Rattle.drc_container.proofs.lemmas.writing.SurfaceEncoded.{IsTracedTo, traced-to, values-can, surface-can}

-- what isn't refused has no early fault
pub early-none : (g : Geometry) (choice : Choice) → refused g choice ≡ None → early_fault g choice ≡ None
unfolding refused
early-none g choice none =
    let values = values_chosen g choice in
    (first_fault-none (early_fault g choice) (surface_fault g choice ∷ limit_fault values ∷ range_fault (heads_in g) values ∷ []) none).0

-- ---- by the sequential method

pub can-code : (g : Geometry) (choice : Choice) → ArePoints (heads_in g) (points_in g) → refused g choice ≡ None → is_sequential (method_of g choice) ≡ true → CanCodeInOrder g choice
can-code g choice are none on =
    let early = early-none g choice none in
    later-can g choice (heads_in g) (values_of g (predict_chosen g choice)) are early on refl refl (sym (refused-later g choice are early on) ∙ none)

-- ---- by Edgebreaker

-- the faults of a coding are those of the surface and those of the values
record AreNone (coding : Coding) (m : MeshParts) : Type 0 where
  pub surface : tracing_fault m ≡ None
  pub values : values_fault coding (decoded m) ≡ None

both-none : (a b : Option Fault) (ts : List (Option Fault)) → first_fault (a ∷ b ∷ ts) ≡ None → (first_fault (a ∷ b ∷ []) ≡ None) × (first_fault ts ≡ None)
both-none a b ts none =
    let first = first_fault-none a (b ∷ ts) none in
    let second = first_fault-none b ts first.1 in
    (ap (λ x. first_fault (x ∷ b ∷ [])) first.0 ∙ ap (λ x. first_fault (x ∷ [])) second.0, second.1)

are-none : (coding : Coding) (m : MeshParts) → coding_fault coding m ≡ None → AreNone coding m
are-none coding m none =
    let values : List Values = coded_values coding (decoded m) in
    let both = both-none (degenerate_fault m) (vertices_fault m) (limit_fault values ∷ range_fault m.heads values ∷ []) none in
    record {
      surface = both.0;
      values = subst (λ (heads : List Head). first_fault (limit_fault values ∷ range_fault heads values ∷ []) ≡ None) (sym (decoded-heads m)) both.1;
    }

-- a mesh whose coding has no fault can be coded so
coding-can : (coding : Coding) (m : MeshParts) → IsMesh m → 0 < length m.faces → coding_fault coding m ≡ None → CanCodeSurface coding m
coding-can coding m is some none =
    let each = are-none coding m none in
    let t : IsTracedTo m (traced m) (decoded m) = traced-to m (traced m) (decoded m) is (ap (λ f. value_unless f (traced m)) each.surface) refl in
    let values : List Values = coded_values coding (decoded m) in
    surface-can coding m (traced m) (decoded m) t some
    (values-can coding (decoded m) values (ap (λ f. value_unless f values) each.values))

pub can-code_surface : (m : MeshParts) (choice : Choice) → IsMesh m → refused (Mesh m) choice ≡ None → is_sequential (method_of (Mesh m) choice) ≡ false
    → CanCodeSurface (coding_of (Mesh m) choice) m
can-code_surface m choice is none off =
    let early = early-none (Mesh m) choice none in
    let for : IsForSurface (Mesh m) choice m = record { mesh = refl; early = early; off = off } in
    coding-can (coding_of (Mesh m) choice) m is (some-face (Mesh m) choice m for) (sym (refused-on_surface m choice early off) ∙ none)
