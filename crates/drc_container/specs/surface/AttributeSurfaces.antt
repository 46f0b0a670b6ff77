-- The surfaces that the values of a mesh's attributes stand on, as they are kept: one of the mesh's own, and one for each attribute with
-- seams, cut at them (Draco Bitstream Specification 2.2, sections "Attributes Decoder" and "Edgebreaker Connectivity").
use Rattle.std.specs.Prelude.{◌≡◌, ℕ, Bool, false, List, length, map, get_or, Option, None, Some}
use Rattle.std.specs.Prelude.{option_map, unwrap_or, if◌then◌else◌}
use Rattle.std.specs.List.{range_with_len}
use Rattle.corner_table.specs.Table.{Table, gluing_of}
use Rattle.seams.specs.Seams.{flags_listed, flag_at, unseamed}
use Rattle.mesh_model.specs.Parts.{MeshParts}
use Rattle.seams.specs.Values.{is_seam}
use Rattle.corner_table.specs.Ordered.{Ordered, ordered}
use Rattle.drc_container.specs.declared.surface.ordered_surface.OrderedSurface.{OrderedSurface}
use Rattle.drc_container.specs.declared.surface.attribute_surfaces.AttributeSurfaces.{AttributeSurfaces}
use Rattle.drc_container.specs.reading.OnSurface.{ordered_by}
use Rattle.drc_container.specs.writing.WrittenOnSurface.{GluedMesh, is_cornered, cut_of}

-- a mesh and its pairs, as a table gives these
abbrev pub glued_by : MeshParts → Table → GluedMesh
glued_by m t = record { mesh = m; pairs = gluing_of t }

-- the same of a mesh that is kept with its surfaces
abbrev pub glued_on : AttributeSurfaces → GluedMesh
glued_on s = record { mesh = s.mesh; pairs = gluing_of s.whole.sides }

-- of each side whether it is a seam of attribute k, where the values of this belong to corners
abbrev pub corner_flags_of : GluedMesh → ℕ → Option (List Bool)
corner_flags_of d k = if is_cornered d k then Some (flags_listed (length d.mesh.faces) (is_seam d.mesh k d.pairs)) else None

-- the same for each attribute
abbrev pub flag_lists : GluedMesh → List (Option (List Bool))
flag_lists d = map (corner_flags_of d) (range_with_len 0 (length d.mesh.heads))

-- the surface that is cut at the seams of attribute k, ordered depth first, where its values belong to corners
abbrev pub cut_order : GluedMesh → ℕ → Option Ordered
cut_order d k = if is_cornered d k then Some (ordered_by false (length d.mesh.faces) (cut_of d k)) else None

-- a surface that is kept with its order
abbrev pub order_in : OrderedSurface → Ordered
order_in s = ordered s.sides s.classes.of_corner s.order

-- a surface that is cut at these flags, ordered depth first
abbrev pub order_cut : Table → List Bool → Ordered
order_cut t flags = ordered_by false t.faces (unseamed (flag_at flags) (gluing_of t))

-- the surface that the values of attribute k stand on: its own, or that of the mesh
abbrev pub order_at : AttributeSurfaces → ℕ → Ordered
order_at s k = unwrap_or (option_map order_in (get_or s.cut.items k None)) (order_in s.whole)

-- the surfaces are those of the mesh: its own is ordered by prediction degree or depth first, and those with seams depth first
pub record AreAttributeSurfaces (degree : Bool) (s : AttributeSurfaces) : Type 0 where
  pub whole : order_in s.whole ≡ ordered_by degree (length s.mesh.faces) (gluing_of s.whole.sides)
  pub cut : map (option_map order_in) s.cut.items ≡ map (cut_order (glued_on s)) (range_with_len 0 (length s.mesh.heads))
