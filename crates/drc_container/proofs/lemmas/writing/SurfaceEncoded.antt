-- What holds of an encoding by Edgebreaker, step by step, holds of the mesh.
use Rattle.std.proofs.Common.{◌≡◌, ℕ, ◌-◌, ◌<◌, ◌≤◌, List, [], ◌∷◌, ◌++◌, length, map, Option, Some, None, Ok, sym, ap, ◌∙◌, subst, arith}
use Rattle.std.specs.Prelude.{nat_le}
use Rattle.std.specs.List.{All, enumerate_from}
use Rattle.std.proofs.lemmas.Bool.{leb-true}
use Rattle.std.proofs.lemmas.List.{append_assoc}
use Rattle.drc_base.specs.declared.faults.Fault.{Fault}
use Rattle.drc_base.specs.declared.faults.Refusal.{Refusal}
use Rattle.drc_base.specs.declared.kinds.Kind.TheVariants.{PointLimit, ValueLimit}
use Rattle.drc_base.specs.declared.limits.TheConstants.{MAX_POINTS, MAX_VALUES}
use Rattle.drc_base.specs.Profile.{profile_numbered}
use Rattle.drc_base.specs.Refusals.{Refuses}
use Rattle.drc_bits.specs.Spells.{Spells}
use Rattle.attr_heads.specs.declared.heads.Head.{Head}
use Rattle.mesh_model.specs.declared.geometries.Geometry.TheVariants.{Mesh}
use Rattle.attr_heads.specs.FirstFault.{first_fault, value_unless}
use Rattle.mesh_model.specs.Parts.{MeshParts, IsMesh}
use Rattle.mesh_model.specs.Same.{Rows}
use Rattle.mesh_model.specs.Renumbering.{renumbered}
use Rattle.attr_heads.proofs.FirstFaults.{unless-none, first_fault-none}
use Rattle.corner_table.specs.Sides.{Gluing}
use Rattle.corner_table.specs.Table.{Table, gluing_of}
use Rattle.pairing.specs.Pairing.{pairing}
use Rattle.pairing.specs.Degenerate.{degenerate_fault}
use Rattle.eb_trace.specs.declared.tracing.Traced.{Traced}
use Rattle.eb_trace.specs.Trace.{fan_count}
use Rattle.eb_section.specs.ReadAgain.{IsReadAgain}
use Rattle.attr_section.specs.declared.values.Values.{Values}
use Rattle.attr_section.specs.Heads.{bare_decoder, heads_at}
use Rattle.attr_section.specs.Attributes.{values_in}
use Rattle.drc_container.specs.declared.choice.codings.Coding.{Coding}
use Rattle.drc_container.specs.writing.Written.{header_bytes}
use Rattle.drc_container.specs.writing.WrittenOnSurface.{traced, GluedMesh, decoded, coded_values, decoders_for, seam_lists, values_bytes_on, decoder_heads_bytes, connectivity_of, edgebreaker_bytes}
use Rattle.drc_container.specs.choice.Refused.{vertices_fault, limit_fault, range_fault, tracing_fault, values_fault, coding_fault}
use Rattle.drc_container.specs.writing.Encoded.{CanCodeSurface, AttributeSpelled, SurfaceSpelled}
use Rattle.drc_container.specs.choice.CanCode.{CanCode}
use Rattle.drc_container.specs.choice.Predicts.{needed_number}
use Rattle.drc_container.specs.surface.AttributeSurfaces.{glued_by}
use Rattle.drc_container.proofs.lemmas.choice.FirstRefusals.{refuses-alike, value-given, values-coded}
use Rattle.drc_container.proofs.lemmas.surface.Decoded.{decoded-keeps}

-- a value that is given is the one that is due
pub value-told : {A : Type 0} (t : Option Fault) (a x : A) → value_unless t a ≡ Ok x → x ≡ a
value-told {A} None a x is = cc
value-told {A} (Some f) a x is = cc

-- ---- the mesh is traced

-- a mesh that has no fault so far, its trace, and the mesh as it is decoded
pub record IsTracedTo (m : MeshParts) (t : Traced) (d : GluedMesh) : Type 0 where
  pub proper : degenerate_fault m ≡ None
  pub few : vertices_fault m ≡ None
  pub trace : t ≡ traced m
  pub decoded : d ≡ decoded m
  pub faces : length d.mesh.faces ≡ length m.faces
  pub heads : d.mesh.heads ≡ m.heads

pub traced-to : (m : MeshParts) (t : Traced) (d : GluedMesh) → IsMesh m → value_unless (tracing_fault m) (traced m) ≡ Ok t → d ≡ decoded m → IsTracedTo m t d
traced-to m t d is trace whole =
    let none : tracing_fault m ≡ None = value-given (tracing_fault m) (traced m) t trace in
    let first = first_fault-none (degenerate_fault m) (vertices_fault m ∷ []) none in
    let second = first_fault-none (vertices_fault m) [] first.1 in
    let keeps = decoded-keeps m is first.0 in
    record {
      proper = first.0;
      few = second.0;
      trace = value-told (tracing_fault m) (traced m) t trace;
      decoded = whole;
      faces = ap (λ (g : GluedMesh). length g.mesh.faces) whole ∙ keeps.faces;
      heads = ap (λ (g : GluedMesh). g.mesh.heads) whole ∙ keeps.heads;
    }

-- it has no more vertices than there may be
fans-few : (m : MeshParts) → vertices_fault m ≡ None → fan_count (length m.faces) (pairing m) ≤ MAX_POINTS
fans-few m none =
    let vertices = fan_count (length m.faces) (pairing m) in
    leb-true vertices MAX_POINTS (unless-none (nat_le vertices MAX_POINTS) PointLimit vertices none)

pub vertices-few : (m : MeshParts) (t : Traced) (d : GluedMesh) → IsTracedTo m t d → t.vertices ≤ MAX_POINTS
unfolding traced
vertices-few m t d is = omega (arith, ap (λ (x : Traced). x.vertices) is.trace, fans-few m is.few)

-- ---- the values are coded

-- what is left to refuse
fault-is : (coding : Coding) (m : MeshParts) (t : Traced) (d : GluedMesh) → IsTracedTo m t d → coding_fault coding m ≡ values_fault coding d
fault-is coding m t d is =
    let rest : List Head → List Values → List (Option Fault) = λ hs vs. limit_fault vs ∷ range_fault hs vs ∷ [] in
    let own = coded_values coding (decoded m) in
    ap (λ (f : Option Fault). first_fault (f ∷ vertices_fault m ∷ rest m.heads own)) is.proper
    ∙ ap (λ (f : Option Fault). first_fault (f ∷ rest m.heads own)) is.few
    ∙ ap (λ (hs : List Head). first_fault (rest hs own)) (sym is.heads)
    ∙ ap (λ (g : GluedMesh). first_fault (rest d.mesh.heads (coded_values coding g))) (sym is.decoded)

-- a refusal of values is one of the mesh
pub values-refuse : {A B : Type 0} (coding : Coding) (m : MeshParts) (t : Traced) (d : GluedMesh) (x : A) (y : B) (e : Refusal) → IsTracedTo m t d
    → Refuses (value_unless (values_fault coding d) y) e → Refuses (value_unless (coding_fault coding m) x) e
values-refuse {A} {B} coding m t d x y e is refuses =
    subst (λ (f : Option Fault). Refuses (value_unless f x) e) (sym (fault-is coding m t d is)) (refuses-alike (values_fault coding d) y x e refuses)

-- values without a fault can be coded
pub values-can : (coding : Coding) (d : GluedMesh) (values : List Values)
    → value_unless (values_fault coding d) (coded_values coding d) ≡ Ok values → CanCode d.mesh.heads (coded_values coding d)
values-can coding d values given =
    let vs = coded_values coding d in
    let none : values_fault coding d ≡ None = value-given (values_fault coding d) vs values given in
    let first = first_fault-none (limit_fault vs) (range_fault d.mesh.heads vs ∷ []) none in
    let second = first_fault-none (range_fault d.mesh.heads vs) [] first.1 in
    values-coded d.mesh.heads vs (leb-true (values_in vs) MAX_VALUES (unless-none (nat_le (values_in vs) MAX_VALUES) ValueLimit (values_in vs) first.0)) second.0

pub surface-can : (coding : Coding) (m : MeshParts) (t : Traced) (d : GluedMesh) → IsTracedTo m t d → 0 < length m.faces → CanCode d.mesh.heads (coded_values coding d) → CanCodeSurface coding m
surface-can coding m t d is some can =
    record {
      some = some;
      proper = is.proper;
      few_vertices = fans-few m is.few;
      values = subst (λ (g : GluedMesh). CanCode m.heads (coded_values coding g)) is.decoded (subst (λ (hs : List Head). CanCode hs (coded_values coding d)) is.heads can);
    }

-- ---- the stream is written

-- what holds of the attributes
pub record AreSpelled (coding : Coding) (d : GluedMesh) : Type 0 where
  pub heads : Spells (heads_at (profile_numbered (needed_number coding.predict d.mesh.heads)) (Some (length d.mesh.heads - 1))) (decoder_heads_bytes coding d) (map bare_decoder (decoders_for coding d))
  pub again : All (λ (k, h). AttributeSpelled (needed_number coding.predict d.mesh.heads) coding d k h) (enumerate_from 0 d.mesh.heads)

-- holds of the mesh
pub surface-spelled : (coding : Coding) (m : MeshParts) (t : Traced) (d : GluedMesh) → IsTracedTo m t d
    → IsReadAgain coding.valence (length m.faces) (traced m) (seam_lists (decoded m)) (connectivity_of coding.valence m) → AreSpelled coding d → SurfaceSpelled coding m
surface-spelled coding m t d is again spelled =
    let B : List Head → GluedMesh → Type 0 = λ hs g. Spells (heads_at (profile_numbered (needed_number coding.predict hs)) (Some (length hs - 1))) (decoder_heads_bytes coding g) (map bare_decoder (decoders_for coding g)) in
    let C : List Head → GluedMesh → Type 0 = λ hs g. All (λ (k, h). AttributeSpelled (needed_number coding.predict hs) coding g k h) (enumerate_from 0 hs) in
    record {
      connectivity = again;
      heads = subst (λ (g : GluedMesh). B m.heads g) is.decoded (subst (λ (hs : List Head). B hs d) is.heads spelled.heads);
      values = subst (λ (g : GluedMesh). C m.heads g) is.decoded (subst (λ (hs : List Head). C hs d) is.heads spelled.again);
    }

-- the bytes are those of the mesh
bytes-are : (coding : Coding) (m : MeshParts) (d : GluedMesh) (prelude : List ℕ) → d ≡ decoded m → prelude ≡ header_bytes 1 (Mesh m) ++ connectivity_of coding.valence m
    → prelude ++ (decoder_heads_bytes coding d ++ values_bytes_on coding d) ≡ edgebreaker_bytes coding m
unfolding edgebreaker_bytes
bytes-are coding m d prelude is told =
    let behind : GluedMesh → List ℕ = λ g. decoder_heads_bytes coding g ++ values_bytes_on coding g in
    ap (λ (l : List ℕ). l ++ behind d) told
    ∙ append_assoc (header_bytes 1 (Mesh m)) (connectivity_of coding.valence m) (behind d)
    ∙ ap (λ (g : GluedMesh). header_bytes 1 (Mesh m) ++ (connectivity_of coding.valence m ++ behind g)) is

-- so they are due
pub stream-due : (coding : Coding) (m : MeshParts) (t : Traced) (d : GluedMesh) (prelude bytes : List ℕ) (rows : Rows) → IsTracedTo m t d
    → prelude ≡ header_bytes 1 (Mesh m) ++ connectivity_of coding.valence m → rows ≡ (traced m).order
    → value_unless (values_fault coding d) (prelude ++ (decoder_heads_bytes coding d ++ values_bytes_on coding d)) ≡ Ok bytes
    → value_unless {A = List ℕ × Rows} (coding_fault coding m) (edgebreaker_bytes coding m, (traced m).order) ≡ Ok (bytes, rows)
stream-due coding m t d prelude bytes rows is told order given =
    let whole = prelude ++ (decoder_heads_bytes coding d ++ values_bytes_on coding d) in
    let none : coding_fault coding m ≡ None = fault-is coding m t d is ∙ value-given (values_fault coding d) whole bytes given in
    let bytes_is : bytes ≡ edgebreaker_bytes coding m = value-told (values_fault coding d) whole bytes given ∙ bytes-are coding m d prelude is.decoded told in
    let own : List ℕ × Rows = (edgebreaker_bytes coding m, (traced m).order) in
    let left : List ℕ → List ℕ × Rows = λ b. (b, (traced m).order) in
    let right : Rows → List ℕ × Rows = λ r. (bytes, r) in
    ap (λ (f : Option Fault). value_unless f own) none ∙ ap Ok (sym (ap left bytes_is) ∙ sym (ap right order))

-- ---- the surface that is kept

-- the mesh that is seen through the rows, with the pairs that are kept, is the mesh as it is decoded
pub seen-decoded : (m n : MeshParts) (rows : Rows) (t : Table) → n ≡ renumbered m rows → rows ≡ (traced m).order → gluing_of t ≡ (decoded m).pairs → glued_by n t ≡ decoded m
unfolding decoded
seen-decoded m n rows t info order pairs =
    let with_mesh : MeshParts → GluedMesh = λ (x : MeshParts). record { mesh = x; pairs = gluing_of t } in
    let with_pairs : Gluing → GluedMesh = λ (g : Gluing). record { mesh = renumbered m (traced m).order; pairs = g } in
    ap with_mesh (info ∙ ap (renumbered m) order) ∙ ap with_pairs pairs
