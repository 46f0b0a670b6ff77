-- Which geometries and choices are refused, by the first of the tests that fails (this project's choice).
use Rattle.std.specs.Prelude.{◌==◌, ◌&&◌, ◌||◌, Bool, false, not, List, [], ◌∷◌, length, Option, None, Some, position, is_none}
use Rattle.std.specs.Prelude.{nat_le, nat_lt, if◌then◌else◌}
use Rattle.std.specs.List.{zip}
use Rattle.drc_base.specs.declared.faults.Fault.{Fault}
use Rattle.drc_base.specs.declared.kinds.Kind.TheVariants.{Choice as ChoiceKind, Empty, NoPosition, PointLimit, ValueLimit, Range}
use Rattle.drc_base.specs.declared.limits.TheConstants.{MAX_POINTS, MAX_VALUES}
use Rattle.attr_heads.specs.declared.heads.Head.{Head}
use Rattle.mesh_model.specs.declared.geometries.Geometry.{Geometry}
use Rattle.attr_heads.specs.FirstFault.{unless, first_fault, at_place}
use Rattle.mesh_model.specs.Contents.{is_mesh, heads_in, points_in, faces_in}
use Rattle.mesh_model.specs.Parts.{MeshParts}
use Rattle.pairing.specs.Degenerate.{degenerate_fault}
use Rattle.pairing.specs.Pairing.{pairing}
use Rattle.eb_trace.specs.Trace.{fan_count}
use Rattle.attr_section.specs.declared.values.Values.{Values}
use Rattle.attr_section.specs.Values.{can_wrap}
use Rattle.attr_section.specs.Attributes.{values_in}
use Rattle.attr_section.specs.WrittenParts.{range_of}
use Rattle.drc_container.specs.declared.choice.choices.Choice.{Choice}
use Rattle.drc_container.specs.declared.choice.predicts.Predict.{Predict}
use Rattle.predict.specs.Schemes.{facts}
use Rattle.drc_container.specs.choice.Predicts.{plain_of}
use Rattle.drc_container.specs.choice.Choice.{method_of, is_sequential}
use Rattle.drc_container.specs.choice.CanCode.{wraps}
use Rattle.drc_container.specs.writing.Chosen.{mesh_in, values_chosen}
use Rattle.drc_container.specs.writing.WrittenOnSurface.{GluedMesh, decoded, coded_values}
use Rattle.drc_container.specs.declared.choice.codings.Coding.{Coding}

-- whether a prediction that needs a surface is chosen
abbrev pub chooses_surface : Option Predict → Bool
chooses_surface None = false
chooses_surface (Some p) = (facts (plain_of p)).needs_surface

-- a choice that doesn't fit: 0 a cloud whose method isn't sequential; 1 indices, but the geometry is no sequential mesh;
-- 2 a prediction that needs a surface, but the method is sequential; 3 a walk, but the method is sequential
abbrev pub choice_fault : Geometry → Choice → Option Fault
choice_fault g choice =
    let sequential = is_sequential (method_of g choice) in
    first_fault (
    unless (is_mesh g || sequential) ChoiceKind 0
    ∷ unless (is_none choice.index || (is_mesh g && sequential)) ChoiceKind 1
    ∷ unless (not (chooses_surface choice.predict && sequential)) ChoiceKind 2
    ∷ unless (is_none choice.walk || not sequential) ChoiceKind 3
    ∷ [])

-- nothing to encode: no points under the sequential method, no faces else
abbrev pub empty_fault : Geometry → Choice → Option Fault
empty_fault g choice =
    unless (nat_lt 0 (if is_sequential (method_of g choice) then length (points_in g) else length (faces_in g))) Empty 0

-- whether the first attribute is a position, usage 0
abbrev pub begins_with_position : List Head → Bool
begins_with_position [] = false
begins_with_position (h ∷ heads) = h.usage == 0

-- Edgebreaker needs a position as the first attribute
abbrev pub position_fault : Geometry → Choice → Option Fault
position_fault g choice = unless (is_sequential (method_of g choice) || begins_with_position (heads_in g)) NoPosition 0

-- the first fault of those that come before out of memory
unfoldable pub early_fault : Geometry → Choice → Option Fault
early_fault g choice = first_fault (
    choice_fault g choice
    ∷ empty_fault g choice
    ∷ position_fault g choice
    ∷ [])

-- too many vertices of a mesh's surface: a point at which several parts of it meet counts once for each
abbrev pub vertices_fault : MeshParts → Option Fault
vertices_fault m =
    let vertices = fan_count (length m.faces) (pairing m) in
    unless (nat_le vertices MAX_POINTS) PointLimit vertices

-- Edgebreaker takes no face with two corners at one position, and not too many vertices
unfoldable pub surface_fault : Geometry → Choice → Option Fault
surface_fault g choice =
    if is_sequential (method_of g choice) then None
    else first_fault (degenerate_fault (mesh_in g) ∷ vertices_fault (mesh_in g) ∷ [])

-- the first face with two corners at one position, where Edgebreaker is to take it
abbrev pub face_fault : Geometry → Choice → Option Fault
face_fault g choice = if is_sequential (method_of g choice) then None else degenerate_fault (mesh_in g)

-- too many coded values
abbrev pub limit_fault : List Values → Option Fault
limit_fault values = unless (nat_le (values_in values) MAX_VALUES) ValueLimit (values_in values)

-- the first attribute whose coded values are corrected in their range and lie too far apart for it: the greatest is 2^31 - 1 or more above
-- the least
abbrev pub range_fault : List Head → List Values → Option Fault
range_fault heads values = at_place Range (position (λ (h, v). wraps h v && not (can_wrap (range_of v.values))) (zip heads values))

-- why a geometry isn't encoded as chosen: the first of these faults
unfoldable pub refused : Geometry → Choice → Option Fault
refused g choice = first_fault (
    early_fault g choice
    ∷ surface_fault g choice
    ∷ limit_fault (values_chosen g choice)
    ∷ range_fault (heads_in g) (values_chosen g choice)
    ∷ [])

-- why the surface of a mesh isn't traced: the first of these faults
abbrev pub tracing_fault : MeshParts → Option Fault
tracing_fault m = first_fault (degenerate_fault m ∷ vertices_fault m ∷ [])

-- why the values of a mesh as it is decoded aren't coded so: the first of these faults
abbrev pub values_fault : Coding → GluedMesh → Option Fault
values_fault coding d =
    let values = coded_values coding d in
    first_fault (limit_fault values ∷ range_fault d.mesh.heads values ∷ [])

-- why a mesh isn't coded so by Edgebreaker: the first of these faults
abbrev pub coding_fault : Coding → MeshParts → Option Fault
coding_fault coding m =
    let values = coded_values coding (decoded m) in
    first_fault (degenerate_fault m ∷ vertices_fault m ∷ limit_fault values ∷ range_fault m.heads values ∷ [])
