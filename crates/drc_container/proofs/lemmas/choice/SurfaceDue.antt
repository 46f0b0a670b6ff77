-- Which fault a mesh is refused with that is encoded by Edgebreaker, and what is due of it.
use Rattle.std.proofs.Common.{◌≡◌, ℕ, ◌<◌, false, List, [], ◌∷◌, length, Option, None, Some, Ok, refl, sym, ◌∙◌, ap, subst}
use Rattle.std.specs.Prelude.{if◌then◌else◌}
use Rattle.drc_base.specs.declared.faults.Fault.{Fault}
use Rattle.mesh_model.specs.declared.geometries.Geometry.{Geometry}
use Rattle.mesh_model.specs.declared.geometries.Geometry.TheVariants.{Mesh}
use Rattle.mesh_model.specs.Parts.{MeshParts}
use Rattle.mesh_model.specs.Same.{Rows}
use Rattle.mesh_model.specs.Renumbering.{plain}
use Rattle.attr_heads.specs.FirstFault.{first_fault, value_unless}
use Rattle.pairing.specs.Degenerate.{degenerate_fault}
use Rattle.drc_container.specs.declared.choice.codings.Coding.{Coding}
use Rattle.drc_container.specs.declared.choice.choices.Choice.{Choice}
use Rattle.drc_container.specs.choice.Choice.{method_of, is_sequential, predict_chosen}
use Rattle.drc_container.specs.writing.Written.{values_of, stream_bytes}
use Rattle.drc_container.specs.writing.WrittenOnSurface.{traced, decoded, coded_values, edgebreaker_bytes}
use Rattle.drc_container.specs.writing.Chosen.{coding_of, values_chosen, written}
use Rattle.drc_container.specs.choice.Refused.{early_fault, vertices_fault, surface_fault, limit_fault, range_fault, refused, tracing_fault, coding_fault}
use Rattle.drc_container.specs.writing.Encoded.{encoding_due, due_on_surface}
use Rattle.drc_container.proofs.lemmas.choice.FirstRefusals.{early_passes}

-- a geometry is this mesh, has no early fault, and is to be encoded by Edgebreaker
pub record IsForSurface (g : Geometry) (choice : Choice) (m : MeshParts) : Type 0 where
  pub mesh : g ≡ Mesh m
  pub early : early_fault g choice ≡ None
  pub off : is_sequential (method_of g choice) ≡ false

-- so it is of the mesh
early-on_surface : (g : Geometry) (choice : Choice) (m : MeshParts) → IsForSurface g choice m → early_fault (Mesh m) choice ≡ None
early-on_surface g choice m for = subst (λ x. early_fault x choice ≡ None) for.mesh for.early

pub off-on_surface : (g : Geometry) (choice : Choice) (m : MeshParts) → IsForSurface g choice m → is_sequential (method_of (Mesh m) choice) ≡ false
off-on_surface g choice m for = subst (λ x. is_sequential (method_of x choice) ≡ false) for.mesh for.off

-- the mesh has a face
pub some-face : (g : Geometry) (choice : Choice) (m : MeshParts) → IsForSurface g choice m → 0 < length m.faces
some-face g choice m for =
    subst (λ b. 0 < (if b then length m.points else length m.faces)) (off-on_surface g choice m for) (early_passes (Mesh m) choice (early-on_surface g choice m for)).some

-- faults one after another
first_fault-join : (a b : Option Fault) (ts : List (Option Fault)) → first_fault (first_fault (a ∷ b ∷ []) ∷ ts) ≡ first_fault (a ∷ b ∷ ts)
first_fault-join None None ts = refl
first_fault-join None (Some f) ts = refl
first_fault-join (Some f) b ts = refl

-- Edgebreaker codes the values of the entries, and takes the surfaces that can be traced
values-on_surface : (m : MeshParts) (choice : Choice) → is_sequential (method_of (Mesh m) choice) ≡ false
    → values_chosen (Mesh m) choice ≡ coded_values (coding_of (Mesh m) choice) (decoded m)
unfolding values_chosen
values-on_surface m choice off =
    ap (λ b. if b then values_of (Mesh m) (predict_chosen (Mesh m) choice) else coded_values (coding_of (Mesh m) choice) (decoded m)) off

fault-on_surface : (m : MeshParts) (choice : Choice) → is_sequential (method_of (Mesh m) choice) ≡ false → surface_fault (Mesh m) choice ≡ tracing_fault m
unfolding surface_fault
fault-on_surface m choice off = let none : Option Fault = None in ap (λ b. if b then none else tracing_fault m) off

-- a mesh that has no early fault is refused with the first fault of its coding
pub refused-on_surface : (m : MeshParts) (choice : Choice) → early_fault (Mesh m) choice ≡ None → is_sequential (method_of (Mesh m) choice) ≡ false
    → refused (Mesh m) choice ≡ coding_fault (coding_of (Mesh m) choice) m
unfolding refused
refused-on_surface m choice none off =
    let hs = m.heads in
    let chosen = values_chosen (Mesh m) choice in
    let vs = coded_values (coding_of (Mesh m) choice) (decoded m) in
    ap (λ x. first_fault (x ∷ surface_fault (Mesh m) choice ∷ limit_fault chosen ∷ range_fault hs chosen ∷ [])) none
    ∙ ap (λ x. first_fault (x ∷ limit_fault chosen ∷ range_fault hs chosen ∷ [])) (fault-on_surface m choice off)
    ∙ ap (λ values. first_fault (tracing_fault m ∷ limit_fault values ∷ range_fault hs values ∷ [])) (values-on_surface m choice off)
    ∙ first_fault-join (degenerate_fault m) (vertices_fault m) (limit_fault vs ∷ range_fault hs vs ∷ [])

-- what is due of it
pub is-due-on_surface : (m : MeshParts) (choice : Choice) → early_fault (Mesh m) choice ≡ None → is_sequential (method_of (Mesh m) choice) ≡ false
    → encoding_due (Mesh m) choice ≡ due_on_surface (coding_of (Mesh m) choice) m
is-due-on_surface m choice none off =
    let coding = coding_of (Mesh m) choice in
    ap (λ r. value_unless r (written (Mesh m) choice)) (refused-on_surface m choice none off)
    ∙ ap (λ b. value_unless (coding_fault coding m) (if b then (stream_bytes (Mesh m) choice, plain (length m.faces)) else (edgebreaker_bytes coding m, (traced m).order))) off

-- and of its geometry, coded as is chosen of it
pub is-due-coded : (g : Geometry) (choice : Choice) (m : MeshParts) (coding : Coding) → IsForSurface g choice m → coding ≡ coding_of g choice
    → encoding_due g choice ≡ due_on_surface coding m
is-due-coded g choice m coding for is =
    ap (λ x. encoding_due x choice) for.mesh
    ∙ is-due-on_surface m choice (early-on_surface g choice m for) (off-on_surface g choice m for)
    ∙ ap (λ k. due_on_surface k m) (sym (is ∙ ap (λ x. coding_of x choice) for.mesh))

-- what is answered where it is due
value-is : {A : Type 0} (r : Option Fault) (a x : A) → value_unless r a ≡ Ok x → a ≡ x
value-is None a x is = cc
value-is (Some f) a x is = cc

pub answer-is : (coding : Coding) (m : MeshParts) (bytes : List ℕ) (rows : Rows) → due_on_surface coding m ≡ Ok (bytes, rows)
    → (edgebreaker_bytes coding m ≡ bytes) × ((traced m).order ≡ rows)
answer-is coding m bytes rows is =
    let e = value-is (coding_fault coding m) (edgebreaker_bytes coding m, (traced m).order) (bytes, rows) is in
    (ap (λ p. p.0) e, ap (λ p. p.1) e)
