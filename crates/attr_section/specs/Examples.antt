-- The attributes of the tests: positions, and quantised texture coordinates; and positions on small surfaces.
use Rattle.std.specs.Prelude.{ℤ, pos, negsuc, List, [], ◌∷◌, Some, None, Bool, false, if◌then◌else◌}
use Rattle.attr_heads.specs.declared.heads.Head.{Head}
use Rattle.attr_section.specs.declared.decoder_heads.DecoderHead.{DecoderHead}
use Rattle.attr_section.specs.declared.values.Values.{Values}

-- integer positions
abbrev pub example_head : Head
example_head = record { usage = 0; dtype = 5; comps = 3; normalized = 0; id = 0; quant = None; octa = None }

-- texture coordinates of eight bits
abbrev pub texture_head : Head
texture_head = record {
  usage = 3;
  dtype = 9;
  comps = 2;
  normalized = 1;
  id = 300;
  quant = Some (record { bits = 8; range = 0x4080_0000; min = 0 ∷ 0x3f80_0000 ∷ [] });
  octa = None;
}

-- positions of two entries
abbrev pub position_values : List ℤ
position_values = pos 0 ∷ pos 10 ∷ negsuc 4 ∷ pos 7 ∷ pos 300 ∷ negsuc 299 ∷ []

-- texture coordinates of two entries
abbrev pub texture_values : List ℤ
texture_values = pos 1 ∷ pos 2 ∷ pos 3 ∷ pos 255 ∷ []

-- the difference, or no prediction
abbrev pub example_prediction : Bool → ℤ
example_prediction difference = if difference then pos 0 else negsuc 1

-- positions of the four entries of two triangles with a side in common, and of a tetrahedron
abbrev pub surface_values : Bool → List ℤ
surface_values closed =
    if closed then pos 0 ∷ pos 0 ∷ pos 1 ∷ pos 0 ∷ pos 1 ∷ pos 0 ∷ pos 0 ∷ pos 0 ∷ pos 0 ∷ pos 1 ∷ pos 0 ∷ pos 0 ∷ []
    else pos 0 ∷ pos 2 ∷ pos 0 ∷ pos 2 ∷ pos 0 ∷ pos 0 ∷ pos 2 ∷ pos 2 ∷ pos 0 ∷ pos 0 ∷ pos 0 ∷ pos 0 ∷ []

-- by one parallelogram, or by the mean of several
abbrev pub surface_prediction : Bool → ℤ
surface_prediction many = if many then pos 4 else pos 1

-- the positions of a surface
abbrev pub surface_positions : Bool → Bool → Values
surface_positions closed many = record { values = surface_values closed; predict = surface_prediction many; at = 0 }

-- a decoder of these positions
abbrev pub surface_decoder : DecoderHead
surface_decoder = record { data_id = Some 255; corner = false; degree = false; heads = example_head ∷ [] }

-- octahedral points of four bits, for which normals are asked, in canonical spelling, or the first one in a corner of the square
abbrev pub points_head : Head
points_head = record { usage = 1; dtype = 9; comps = 2; normalized = 0; id = 0; quant = None; octa = Some 4 }

abbrev pub point_values : Bool → List ℤ
point_values corner =
    if corner then pos 0 ∷ pos 0 ∷ pos 14 ∷ pos 7 ∷ pos 4 ∷ pos 0 ∷ [] else pos 7 ∷ pos 7 ∷ pos 14 ∷ pos 7 ∷ pos 4 ∷ pos 0 ∷ []

abbrev pub points : Bool → Values
points corner = record { values = point_values corner; predict = pos 6; at = 0 }

-- positions of two triangles, and what is predicted from them: texture coordinates, or normals
abbrev pub shape_positions : Bool → Values
shape_positions textured = record {
  values =
      if textured then pos 0 ∷ pos 4 ∷ pos 0 ∷ pos 4 ∷ pos 0 ∷ pos 0 ∷ pos 4 ∷ pos 4 ∷ pos 0 ∷ pos 0 ∷ pos 0 ∷ pos 0 ∷ []
      else pos 0 ∷ pos 2 ∷ pos 0 ∷ pos 2 ∷ pos 0 ∷ pos 0 ∷ pos 2 ∷ pos 2 ∷ pos 1 ∷ pos 0 ∷ pos 0 ∷ pos 0 ∷ [];
  predict = pos 1;
  at = 0;
}

abbrev pub shape_head : Bool → Head
shape_head textured =
    if textured then record { usage = 3; dtype = 5; comps = 2; normalized = 0; id = 0; quant = None; octa = None } else points_head

abbrev pub shape_values : Bool → Values
shape_values textured = record {
  values =
      if textured then pos 0 ∷ pos 8 ∷ pos 8 ∷ pos 0 ∷ pos 8 ∷ pos 9 ∷ pos 0 ∷ pos 0 ∷ []
      else pos 4 ∷ pos 0 ∷ pos 7 ∷ pos 0 ∷ pos 4 ∷ pos 3 ∷ pos 7 ∷ pos 0 ∷ [];
  predict = if textured then pos 5 else pos 6;
  at = 0;
}
