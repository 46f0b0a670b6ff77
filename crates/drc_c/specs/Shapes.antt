-- What a geometry is to C: its shape, and its integers point after point (this project's choice).
use Rattle.std.specs.Prelude.{ℕ, ℤ, ◌<◌, ◌⊎◌, List, length, replicate, if◌then◌else◌}
use Rattle.mesh_model.specs.declared.geometries.Geometry.{Geometry}
use Rattle.mesh_model.specs.Contents.{is_mesh, heads_in, points_in, faces_in}
use Rattle.attr_heads.specs.Head.{width_of}
use Rattle.mesh_model.specs.Parts.{cells_of}
use Rattle.stream_counts.specs.declared.counts.DeclaredCounts.{DeclaredCounts}
use Rattle.drc_c.specs.declared.shapes.DrcShape.{DrcShape}
use Rattle.drc_c.specs.Heads.{blank_head, heads_told}

-- what a geometry is, without its arrays
abbrev pub shape_of : Geometry → DrcShape
shape_of g = record {
  mesh = if is_mesh g then 1 else 0;
  faces = length (faces_in g);
  points = length (points_in g);
  width = width_of (heads_in g);
  attributes = length (heads_in g);
  heads = heads_told (heads_in g);
}

-- what is declared of a geometry before its data: nothing is known of its attributes
abbrev pub shape_declared : DeclaredCounts → DrcShape
shape_declared n = record {
  mesh = if n.mesh then 1 else 0;
  faces = n.faces;
  points = n.points;
  width = 0;
  attributes = 0;
  heads = replicate 16 blank_head;
}

-- the integers of a geometry, point after point
abbrev pub integers_of : Geometry → List ℤ
integers_of g = cells_of (points_in g)

-- one of two arrays of these lengths is too short for its faces or its integers
abbrev pub LacksRoom : Geometry → ℕ → ℕ → Type 0
LacksRoom g corners values = (corners < length (faces_in g)) ⊎ (values < length (integers_of g))
