-- A mesh whose surface is traced, and the surface that is kept for the values behind its connectivity (Draco Bitstream Specification 2.2,
-- section "Edgebreaker Connectivity").
use Rattle.std.specs.Prelude.{◌≡◌, map, length, Ok}
use Rattle.std.specs.Option.{option_map}
use Rattle.attr_heads.specs.FirstFault.{value_unless}
use Rattle.mesh_model.specs.Parts.{MeshParts}
use Rattle.corner_table.specs.Table.{gluing_of}
use Rattle.eb_trace.specs.Writable.{IsWritable}
use Rattle.drc_container.specs.declared.surface.traced_surfaces.TracedSurface.{TracedSurface}
use Rattle.drc_container.specs.declared.surface.seamed_surface.SeamedSurface.{SeamedSurface}
use Rattle.drc_container.specs.choice.Refused.{tracing_fault}
use Rattle.drc_container.specs.writing.WrittenOnSurface.{traced, decoded}
use Rattle.drc_container.specs.surface.AttributeSurfaces.{flag_lists}

-- a mesh whose surface is traced: its trace, and the surface as it is decoded
pub record IsTraced (m : MeshParts) (t : TracedSurface) : Type 0 where
  pub trace : value_unless (tracing_fault m) (traced m) ≡ Ok t.trace
  pub pairs : gluing_of t.sides ≡ (decoded m).pairs
  pub faces : t.sides.faces ≡ length m.faces
  pub writable : IsWritable (length m.faces) t.trace.vertices t.trace.symbols t.trace.events t.trace.starts

-- the surface of a mesh as it is decoded: the order of its faces, its pairs, and the seams of its attributes
pub record IsSeamedSurface (m : MeshParts) (c : SeamedSurface) : Type 0 where
  pub rows : c.rows ≡ (traced m).order
  pub faces : c.sides.faces ≡ length m.faces
  pub pairs : gluing_of c.sides ≡ (decoded m).pairs
  pub flags : map (option_map (λ v. v.items)) c.flags.items ≡ flag_lists (decoded m)
