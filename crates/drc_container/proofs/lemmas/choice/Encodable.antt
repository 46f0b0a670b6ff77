-- Meshes in which nothing is at fault and that are too small to meet a limit are refused by no choice that fits.
use Rattle.std.proofs.Common.{◌≡◌, ℕ, ◌*◌, ◌%◌, ◌<◌, ◌≤◌, Bool, true, false, ltb, leb, ℤ, pos, List, [], ◌∷◌, length, take, drop, get_or, None, inl, inr, refl, sym, ap, ◌∙◌, subst, arith}
use Rattle.std.specs.Prelude.{◌||◌, ◌&&◌, not, position, if◌then◌else◌}
use Rattle.std.specs.List.{All, range_with_len, zip}
use Rattle.std.proofs.lemmas.Bool.{cases_Bool, le-leb, lt-ltb, or_from, or_right, not_from_true}
use Rattle.std.proofs.lemmas.List.Elements.{All-nil, All-cons, All-head, All-tail, All-map, All-weaker, All-get_or, All-take, All-drop}
use Rattle.drc_base.specs.declared.kinds.Kind.TheVariants.{Degenerate, Empty, NoPosition, PointLimit, ValueLimit, Range as RangeKind}
use Rattle.drc_base.specs.declared.limits.TheConstants.{MAX_POINTS, MAX_VALUES}
use Rattle.attr_heads.specs.declared.heads.Head.{Head}
use Rattle.mesh_model.specs.declared.geometries.Geometry.TheVariants.{Mesh}
use Rattle.attr_heads.specs.FirstFault.{at_place}
use Rattle.mesh_model.specs.Assembled.{same_row}
use Rattle.attr_heads.specs.Head.{width_of}
use Rattle.mesh_model.specs.Parts.{MeshParts, IsMesh, corner}
use Rattle.mesh_model.proofs.DistinctRows.{same_row-apart}
use Rattle.attr_heads.proofs.FirstFaults.{unless-true, first_fault-cons}
use Rattle.mesh_model.proofs.Places.{position-none}
use Rattle.corner_table.specs.Sides.{Side, first, second, third, side, place_number}
use Rattle.pairing.specs.Pairing.{pairing, corner_position}
use Rattle.pairing.specs.Degenerate.{is_degenerate_face, degenerate_fault}
use Rattle.pairing.proofs.Least.{least_is_none}
use Rattle.eb_trace.specs.Trace.{fan_count}
use Rattle.seams.specs.Values.{piece}
use Rattle.attr_section.specs.declared.values.Values.{Values}
use Rattle.attr_section.specs.Values.{can_wrap}
use Rattle.attr_section.specs.Attributes.{values_in}
use Rattle.attr_section.specs.WrittenParts.{range_of}
use Rattle.drc_container.specs.declared.choice.codings.Coding.{Coding}
use Rattle.drc_container.specs.declared.choice.predicts.Predict.{Predict}
use Rattle.drc_container.specs.declared.choice.choices.Choice.{Choice}
use Rattle.drc_container.specs.choice.Choice.{method_of, is_sequential, predict_chosen}
use Rattle.drc_container.specs.writing.Chosen.{coding_of}
use Rattle.drc_container.specs.Columns.{columns_of}
use Rattle.drc_container.specs.choice.Predicts.{asked}
use Rattle.drc_container.specs.writing.Written.{asked_values, values_of}
use Rattle.drc_container.specs.writing.WrittenOnSurface.{decoded, surface_order, coded_by, coded_values}
use Rattle.drc_container.specs.choice.Refused.{begins_with_position, choice_fault, empty_fault, position_fault, early_fault, vertices_fault, limit_fault, range_fault, coding_fault}
use Rattle.drc_container.specs.choice.CanCode.{wraps}
use Rattle.drc_container.specs.choice.Encodable.{IsProperFace, IsIn, IsEncodable, EncodableIsEncoded}
use Rattle.drc_container.proofs.lemmas.choice.FirstRefusals.{refused-later}
use Rattle.drc_container.proofs.lemmas.surface.Decoded.{decoded-keeps}
use Rattle.drc_container.proofs.lemmas.choice.SurfaceDue.{refused-on_surface}
use Rattle.drc_container.proofs.lemmas.choice.Ranges.{can-wrap, All-pieces, columns-keep, row-keeps}
use Rattle.drc_container.proofs.lemmas.choice.FewEntries.{fans-few, coded-few}

-- ---- before out of memory

-- a mesh with a face has a point
some-point : (m : MeshParts) → IsMesh m → 0 < length m.faces → 0 < length m.points
some-point m is some =
    let face = is.faces 0 [] some in
    let first = face.1 0 0 (omega (arith, face.0)) in
    omega (arith, first)

some-either : (b : Bool) (x y : ℕ) → 0 < x → 0 < y → ltb 0 (if b then x else y) ≡ true
some-either true x y hx hy = lt-ltb 0 x hx
some-either false x y hx hy = lt-ltb 0 y hy

early-none : (m : MeshParts) (choice : Choice) → IsEncodable m → choice_fault (Mesh m) choice ≡ None → early_fault (Mesh m) choice ≡ None
unfolding early_fault
early-none m choice is fits =
    let s = is_sequential (method_of (Mesh m) choice) in
    let counted = if s then length m.points else length m.faces in
    let filled : empty_fault (Mesh m) choice ≡ None =
    unless-true (ltb 0 counted) Empty 0 (some-either s (length m.points) (length m.faces) (some-point m is.mesh is.some) is.some) in
    let placed : position_fault (Mesh m) choice ≡ None =
    unless-true (s || begins_with_position m.heads) NoPosition 0 (or_right s (begins_with_position m.heads) is.position) in
    first_fault-cons (choice_fault (Mesh m) choice) (empty_fault (Mesh m) choice ∷ position_fault (Mesh m) choice ∷ []) fits
    (first_fault-cons (empty_fault (Mesh m) choice) (position_fault (Mesh m) choice ∷ []) filled
    (first_fault-cons (position_fault (Mesh m) choice) [] placed refl))

-- ---- the surface

proper-face : (m : MeshParts) (f : ℕ) → IsProperFace m f → is_degenerate_face m f ≡ false
proper-face m f is =
    let a = corner_position m (side f first) in
    let b = corner_position m (side f second) in
    let c = corner_position m (side f third) in
    or_from (same_row a b || same_row b c) (same_row c a)
    (or_from (same_row a b) (same_row b c) (same_row-apart a b is.0) (same_row-apart b c is.1))
    (same_row-apart c a is.2)

degenerate-none : (m : MeshParts) → ((f : ℕ) → f < length m.faces → IsProperFace m f) → degenerate_fault m ≡ None
degenerate-none m proper =
    ap (at_place Degenerate) (least_is_none (is_degenerate_face m) (length m.faces) (λ f below. proper-face m f (proper f below)))

vertices-none : (m : MeshParts) → 3 * length m.faces ≤ MAX_POINTS → vertices_fault m ≡ None
vertices-none m few =
    let vertices = fan_count (length m.faces) (pairing m) in
    unless-true (leb vertices MAX_POINTS) PointLimit vertices (le-leb vertices MAX_POINTS (omega (arith, few, fans-few (length m.faces) (pairing m))))

-- ---- the values

-- attributes beside values, all of which can wrap
beside-heads : (heads : List Head) (values : List Values) → All (λ v. can_wrap (range_of v.values) ≡ true) values
    → All (λ (h, v). (wraps h v && not (can_wrap (range_of v.values))) ≡ false) (zip heads values)
beside-heads [] values wrap = All-nil (λ (h, v). (wraps h v && not (can_wrap (range_of v.values))) ≡ false)
beside-heads (h ∷ heads) [] wrap = All-nil (λ (h, v). (wraps h v && not (can_wrap (range_of v.values))) ≡ false)
beside-heads (h ∷ heads) (v ∷ values) wrap =
    let Wraps : Values → Type 0 = λ x. can_wrap (range_of x.values) ≡ true in
    All-cons (λ (h, v). (wraps h v && not (can_wrap (range_of v.values))) ≡ false) (h, v) (zip heads values)
    (not-wide (wraps h v) (can_wrap (range_of v.values)) (All-head Wraps v values wrap)) (beside-heads heads values (All-tail Wraps v values wrap))
  where
    not-wide : (a b : Bool) → b ≡ true → (a && not b) ≡ false
    not-wide true b is = not_from_true b is
    not-wide false b is = refl

range-none : (heads : List Head) (values : List Values) → All (λ v. can_wrap (range_of v.values) ≡ true) values → range_fault heads values ≡ None
range-none heads values wrap =
    let far : Head × Values → Bool = λ (h, v). wraps h v && not (can_wrap (range_of v.values)) in
    let h : Head = record { usage = 0; dtype = 0; comps = 0; normalized = 0; id = 0; quant = None; octa = None } in
    let d : Head × Values = (h, record { values = []; predict = pos 0; at = 0 }) in
    let nowhere : position far (zip heads values) ≡ None = position-none far (zip heads values) d (λ k below.
    All-get_or (λ (h, v). (wraps h v && not (can_wrap (range_of v.values))) ≡ false) (zip heads values) k d below (beside-heads heads values wrap)) in
    ap (at_place RangeKind) nowhere

-- the values of the points in order
asked-near : (p : Predict) (heads : List Head) (columns : List (List ℤ)) → All (λ values. can_wrap (range_of values) ≡ true) columns
    → All (λ v. can_wrap (range_of v.values) ≡ true) (asked_values p heads columns)
asked-near p [] columns near = All-nil (λ v. can_wrap (range_of v.values) ≡ true)
asked-near p (h ∷ heads) [] near = All-nil (λ v. can_wrap (range_of v.values) ≡ true)
asked-near p (h ∷ heads) (column ∷ columns) near =
    let Near : List ℤ → Type 0 = λ values. can_wrap (range_of values) ≡ true in
    let v : Values = record { values = column; predict = asked p h; at = 0 } in
    All-cons (λ v. can_wrap (range_of v.values) ≡ true) v (asked_values p heads columns) (All-head Near column columns near)
    (asked-near p heads columns (All-tail Near column columns near))

points-near : (m : MeshParts) (p : Predict) → IsEncodable m → All (λ v. can_wrap (range_of v.values) ≡ true) (values_of (Mesh m) p)
points-near m p is =
    let Near : List ℤ → Type 0 = All (IsIn is.range) in
    asked-near p m.heads (columns_of m.heads m.points)
    (All-weaker Near (λ values. can_wrap (range_of values) ≡ true) (λ values near. can-wrap is.range values is.can_wrap near) (columns_of m.heads m.points)
    (columns-keep (IsIn is.range) m.heads m.points is.near))

-- the value of an attribute at a corner, whatever the faces are
piece-near : (m : MeshParts) (P : ℤ → Type 0) (points : List (List ℤ)) → All (All P) points → m.points ≡ points → (k : ℕ) (c : Side) → All P (piece m k c)
piece-near m P points near same k c =
    let row = corner m c.face (place_number c.place) in
    let from = width_of (take k m.heads) in
    let comps = width_of (take 1 (drop k m.heads)) in
    All-take P comps (drop from row) (All-drop P from row
    (row-keeps P m.points (get_or (get_or m.faces c.face []) (place_number c.place % 3) 0) (subst (All (All P)) (sym same) near)))

-- the values of the entries of walks
entries-near : (m : MeshParts) (coding : Coding) → IsEncodable m → degenerate_fault m ≡ None → All (λ v. can_wrap (range_of v.values) ≡ true) (coded_values coding (decoded m))
unfolding coded_values
entries-near m coding is proper =
    let d = decoded m in
    let D = decoded-keeps m is.mesh proper in
    let Wraps : Values → Type 0 = λ v. can_wrap (range_of v.values) ≡ true in
    let each : (k : ℕ) → Wraps (coded_by coding d k) =
    λ k. can-wrap is.range (coded_by coding d k).values is.can_wrap
    (All-pieces (λ (c : Side). Unit {0}) (IsIn is.range) (piece d.mesh k) (λ c _. piece-near d.mesh (IsIn is.range) m.points is.near D.points k c)
    (surface_order coding d k).corners (λ i c below. tt)) in
    All-map Wraps (coded_by coding d) (range_with_len 0 (length d.mesh.heads)) (λ i k below. each (get_or (range_with_len 0 (length d.mesh.heads)) i k))

limit-none : (m : MeshParts) (coding : Coding) → IsEncodable m → degenerate_fault m ≡ None → limit_fault (coded_values coding (decoded m)) ≡ None
limit-none m coding is proper =
    let d = decoded m in
    let D = decoded-keeps m is.mesh proper in
    let n = values_in (coded_values coding d) in
    let few = coded-few coding d D.mesh D.gluing in
    let same : 3 * length d.mesh.faces * width_of d.mesh.heads ≡ 3 * length m.faces * width_of m.heads =
    ap (λ f. 3 * f * width_of d.mesh.heads) D.faces ∙ ap (λ hs. 3 * length m.faces * width_of hs) D.heads in
    let most = is.few_values in
    unless-true (leb n MAX_VALUES) ValueLimit n (le-leb n MAX_VALUES (omega (arith, few, same, most)))

-- ---- by each method

coding-none : (m : MeshParts) (coding : Coding) → IsEncodable m → coding_fault coding m ≡ None
coding-none m coding is =
    let proper = degenerate-none m is.proper in
    let values = coded_values coding (decoded m) in
    first_fault-cons (degenerate_fault m) (vertices_fault m ∷ limit_fault values ∷ range_fault m.heads values ∷ []) proper
    (first_fault-cons (vertices_fault m) (limit_fault values ∷ range_fault m.heads values ∷ []) (vertices-none m is.few_corners)
    (first_fault-cons (limit_fault values) (range_fault m.heads values ∷ []) (limit-none m coding is proper)
    (first_fault-cons (range_fault m.heads values) [] (range-none m.heads values (entries-near m coding is proper)) refl)))

pub encodable-encoded : EncodableIsEncoded
encodable-encoded m choice is fits =
    let early = early-none m choice is fits in
    let p = predict_chosen (Mesh m) choice in
    elim (cases_Bool (is_sequential (method_of (Mesh m) choice))) [
      | inl on ↦ refused-later (Mesh m) choice is.mesh.points early on ∙ range-none m.heads (values_of (Mesh m) p) (points-near m p is)
      | inr off ↦ refused-on_surface m choice early off ∙ coding-none m (coding_of (Mesh m) choice) is
    ]
