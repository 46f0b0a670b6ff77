-- Examples, worked by hand: what is written of small geometries, how it is coded, and what is refused.
use Rattle.std.proofs.Common.{◌≡◌, true, List, [], ◌∷◌, ◌++◌, map, Option, None, Some, Ok, Err, refl}
use Rattle.std.specs.Prelude.{ℤ, pos, negsuc}
use Rattle.drc_base.specs.declared.kinds.Kind.TheVariants as kind
use Rattle.drc_base.specs.Profile.{profile_one, profile}
use Rattle.drc_bits.specs.Reading.{start_of, many_at}
use Rattle.drc_bits.specs.Varint.{varint, spelling}
use Rattle.attr_heads.specs.declared.heads.Head.{Head}
use Rattle.mesh_model.specs.declared.geometries.Geometry.{Geometry}
use Rattle.mesh_model.specs.declared.geometries.Geometry.TheVariants.{Mesh, Cloud}
use Rattle.attr_heads.specs.Bounds.{in_bounds}
use Rattle.attr_heads.specs.Head.{heads_fault}
use Rattle.mesh_model.specs.Parts.{MeshParts, index_fault, range_fault as cells_fault}
use Rattle.seq_section.specs.Indices.{indices_opening_at, face_at, indices_at, indices_bytes}
use Rattle.predict.specs.Restored.{corrections_behind}
use Rattle.attr_section.specs.declared.values.Values.{Values}
use Rattle.attr_section.specs.Each.{each_at}
use Rattle.attr_heads.specs.HeadItems.{head_at}
use Rattle.attr_section.specs.Heads.{decoder_count_at, links_at, known_coding_at, coding_at, coded_at, decoder_at, decoders_at as heads_of_decoders_at, heads_at, heads_bytes}
use Rattle.attr_section.specs.Values.{prediction_at, plain_value_at, byte_width_at, plain_values_at, integers_at, predicted_at}
use Rattle.attr_section.specs.Attributes.{plain_typed_at, typed_values_at, values_at, attributes_at as columns_at, quant_of_at, quantised_at, completed_at, quants_at, decoder_values_at}
use Rattle.attr_section.specs.WrittenParts.{plain_bytes, integers_bytes, flagged_bytes, predicted_bytes}
use Rattle.attr_section.specs.Written.{values_bytes, decoder_values_bytes}
use Rattle.drc_container.specs.declared.choice.methods.Method.{Method}
use Rattle.drc_container.specs.declared.choice.methods.Method.TheVariants as method
use Rattle.drc_container.specs.declared.choice.choices.Index.{Index}
use Rattle.drc_container.specs.declared.choice.choices.Index.TheVariants as indexed
use Rattle.drc_container.specs.declared.choice.predicts.Predict.{Predict}
use Rattle.drc_container.specs.declared.choice.predicts.Predict.TheVariants.{Plain, Shape}
use Rattle.predict.specs.declared.schemes.Prediction.TheVariants as prediction
use Rattle.drc_container.specs.declared.choice.choices.Walk.{Walk}
use Rattle.drc_container.specs.declared.choice.choices.Walk.TheVariants as walk
use Rattle.drc_container.specs.declared.choice.choices.Choice.{Choice}
use Rattle.drc_container.specs.Header.{form_said, header_at}
use Rattle.drc_container.specs.reading.OnSurface.{counts_in}
use Rattle.drc_container.specs.reading.Stream.{decoders_values_at, sequential_attributes_at, points_behind, mesh_behind, mesh_at, stream_in}
use Rattle.drc_container.specs.choice.Predicts.{asked, needed_number}
use Rattle.drc_container.specs.choice.Refused.{early_fault, range_fault}
use Rattle.drc_container.specs.writing.Written.{header_bytes, sequential_attributes_bytes, stream_bytes}
use Rattle.drc_container.specs.writing.Layout.{layout_in}

-- a position of three integers of 32 bits
abbrev position : Head
position = record { usage = 0; dtype = 5; comps = 3; normalized = 0; id = 0; quant = None; octa = None }

abbrev point : ℤ → ℤ → ℤ → List ℤ
point x y z = x ∷ y ∷ z ∷ []

-- a triangle
abbrev triangle_parts : MeshParts
triangle_parts = record {
  heads = position ∷ [];
  points = point (pos 0) (pos 0) (pos 0) ∷ point (pos 10) (pos 0) (pos 0) ∷ point (pos 0) (pos 10) (negsuc 0) ∷ [];
  faces = (0 ∷ 1 ∷ 2 ∷ []) ∷ [];
}

abbrev triangle : Geometry
triangle = Mesh triangle_parts

-- a face of two points
abbrev repeated : Geometry
repeated = Mesh (record {
  heads = position ∷ [];
  points = point (pos 0) (pos 0) (pos 0) ∷ point (pos 1) (pos 0) (pos 0) ∷ [];
  faces = (0 ∷ 0 ∷ 1 ∷ []) ∷ [];
})

-- a triangle without positions
abbrev without_position : Geometry
without_position = Mesh (record {
  heads = record { usage = 2; dtype = 5; comps = 3; normalized = 0; id = 0; quant = None; octa = None } ∷ [];
  points = point (pos 0) (pos 0) (pos 0) ∷ [];
  faces = (0 ∷ 0 ∷ 0 ∷ []) ∷ [];
})

-- a point, and no faces
abbrev without_faces : Geometry
without_faces = Mesh (record { heads = position ∷ []; points = point (pos 0) (pos 0) (pos 0) ∷ []; faces = [] })

-- normals in a square, and texture coordinates
abbrev square_head : Head
square_head = record { usage = 1; dtype = 9; comps = 2; normalized = 0; id = 1; quant = None; octa = Some 4 }

abbrev texture : Head
texture = record { usage = 3; dtype = 5; comps = 2; normalized = 0; id = 1; quant = None; octa = None }

-- a point with an octahedral attribute behind its position
abbrev with_square : Geometry
with_square = Cloud (record {
  heads = position ∷ square_head ∷ [];
  points = (pos 0 ∷ pos 0 ∷ pos 0 ∷ pos 7 ∷ pos 7 ∷ []) ∷ [];
})

-- three points, two of which are equal
abbrev cloud : Geometry
cloud = Cloud (record {
  heads = position ∷ [];
  points = point (pos 5) (pos 5) (pos 5) ∷ point (pos 5) (pos 5) (pos 5) ∷ point (pos 5) (pos 5) (pos 6) ∷ [];
})

-- a cloud of no points
abbrev no_points : Geometry
no_points = Cloud (record { heads = position ∷ []; points = [] })

abbrev chosen : Option Method → Option Index → Option Predict → Option Walk → Choice
chosen m i p w = record { method = m; index = i; predict = p; walk = w; plain_values = true }

abbrev as_they_are : Choice
as_they_are = chosen (Some method.Seq) None (Some (Plain prediction.Off)) None

-- the stream of the triangle
triangle_bytes : stream_bytes triangle as_they_are
    ≡ 68 ∷ 82 ∷ 65 ∷ 67 ∷ 79 ∷ 2 ∷ 2 ∷ 1 ∷ 0 ∷ 0 ∷ 0 ∷ 1 ∷ 3 ∷ 1 ∷ 0 ∷ 1 ∷ 2 ∷ 1 ∷ 1 ∷ 0 ∷ 5 ∷ 3 ∷ 0 ∷ 0 ∷ 1 ∷ 254 ∷ 0 ∷ 1
    ∷ 0 ∷ 0 ∷ 0 ∷ 20 ∷ 0 ∷ 0 ∷ 0 ∷ 20 ∷ 1 ∷ []
unfolding stream_bytes header_bytes indices_bytes spelling sequential_attributes_bytes asked heads_bytes decoder_values_bytes values_bytes predicted_bytes integers_bytes plain_bytes
triangle_bytes = refl

-- that of the face of two points
repeated_bytes : stream_bytes repeated as_they_are
    ≡ 68 ∷ 82 ∷ 65 ∷ 67 ∷ 79 ∷ 2 ∷ 2 ∷ 1 ∷ 0 ∷ 0 ∷ 0 ∷ 1 ∷ 2 ∷ 1 ∷ 0 ∷ 0 ∷ 1 ∷ 1 ∷ 1 ∷ 0 ∷ 5 ∷ 3 ∷ 0 ∷ 0 ∷ 1 ∷ 254 ∷ 0 ∷ 1
    ∷ 0 ∷ 0 ∷ 0 ∷ 2 ∷ 0 ∷ 0 ∷ []
unfolding stream_bytes header_bytes indices_bytes spelling sequential_attributes_bytes asked heads_bytes decoder_values_bytes values_bytes predicted_bytes integers_bytes plain_bytes
repeated_bytes = refl

-- that of the cloud, by difference
cloud_bytes : stream_bytes cloud (chosen None None None None)
    ≡ 68 ∷ 82 ∷ 65 ∷ 67 ∷ 79 ∷ 2 ∷ 3 ∷ 0 ∷ 0 ∷ 0 ∷ 0 ∷ 3 ∷ 0 ∷ 0 ∷ 0 ∷ 1 ∷ 1 ∷ 0 ∷ 5 ∷ 3 ∷ 0 ∷ 0 ∷ 1 ∷ 0 ∷ 1 ∷ 0 ∷ 1
    ∷ 0 ∷ 0 ∷ 0 ∷ 0 ∷ 0 ∷ 0 ∷ 0 ∷ 0 ∷ 1 ∷ 5 ∷ 0 ∷ 0 ∷ 0 ∷ 6 ∷ 0 ∷ 0 ∷ 0 ∷ []
unfolding stream_bytes header_bytes spelling sequential_attributes_bytes asked heads_bytes decoder_values_bytes values_bytes predicted_bytes flagged_bytes integers_bytes plain_bytes corrections_behind
cloud_bytes = refl

-- how the stream of the triangle is coded
triangle_layout : layout_in profile (
    68 ∷ 82 ∷ 65 ∷ 67 ∷ 79 ∷ 2 ∷ 2 ∷ 1 ∷ 0 ∷ 0 ∷ 0 ∷ 1 ∷ 3 ∷ 1 ∷ 0 ∷ 1 ∷ 2 ∷ 1 ∷ 1 ∷ 0 ∷ 5 ∷ 3 ∷ 0 ∷ 0 ∷ 1 ∷ 254 ∷ 0 ∷ 1
    ∷ 0 ∷ 0 ∷ 0 ∷ 20 ∷ 0 ∷ 0 ∷ 0 ∷ 20 ∷ 1 ∷ [])
    ≡ Ok (record { method = 0; index = Some 1; traversal = None; attributes = record { element = 0; walk = 0; predict = negsuc 1; compressed = 0 } ∷ [] })
unfolding stream_in header_at form_said mesh_at mesh_behind points_behind indices_at indices_opening_at many_at face_at sequential_attributes_at heads_at decoder_count_at links_at heads_of_decoders_at each_at decoder_at head_at known_coding_at coding_at coded_at decoders_values_at decoder_values_at columns_at values_at typed_values_at plain_typed_at prediction_at predicted_at integers_at plain_values_at byte_width_at plain_value_at varint in_bounds heads_fault index_fault cells_fault quants_at completed_at quantised_at quant_of_at
triangle_layout = refl

-- one face more than profile 1 takes
few_faces : indices_opening_at profile_one (start_of (129 ∷ 128 ∷ 64 ∷ 3 ∷ 1 ∷ [])) ≡ Err (record { kind = kind.FaceLimit; at = 0 })
unfolding indices_opening_at varint
few_faces = refl

more_faces : indices_opening_at profile (start_of (129 ∷ 128 ∷ 64 ∷ 3 ∷ 1 ∷ [])) ≡ Ok (record { faces = 1048577; points = 3; method = 1 }, record { place = 5; rest = [] })
unfolding indices_opening_at varint
more_faces = refl

-- the triangle in profiles that take so many points and values, and one of them fewer
enough_counts : counts_in (record { faces = 1; points = 3; values = 9; number = 1 }) triangle_parts ≡ None
enough_counts = refl

few_points : counts_in (record { faces = 1; points = 2; values = 9; number = 1 }) triangle_parts ≡ Some (record { kind = kind.PointLimit; at = 3 })
few_points = refl

few_values : counts_in (record { faces = 1; points = 3; values = 8; number = 1 }) triangle_parts ≡ Some (record { kind = kind.ValueLimit; at = 9 })
few_values = refl

-- choices that don't fit, the least number first
cloud_by_edgebreaker : early_fault cloud (chosen (Some method.Eb) (Some indexed.Plain) None None) ≡ Some (record { kind = kind.Choice; at = 0 })
unfolding early_fault
cloud_by_edgebreaker = refl

cloud_of_indices : early_fault cloud (chosen None (Some indexed.Plain) (Some (Plain prediction.Parallelogram)) None) ≡ Some (record { kind = kind.Choice; at = 1 })
unfolding early_fault
cloud_of_indices = refl

cloud_by_parallelogram : early_fault cloud (chosen None None (Some (Plain prediction.Parallelogram)) (Some walk.Depth)) ≡ Some (record { kind = kind.Choice; at = 2 })
unfolding early_fault
cloud_by_parallelogram = refl

ordered_cloud : early_fault no_points (chosen None None None (Some walk.Depth)) ≡ Some (record { kind = kind.Choice; at = 3 })
unfolding early_fault
ordered_cloud = refl

-- a cloud with an octahedral attribute, which a prediction over a surface doesn't fit
squared_cloud : early_fault with_square (chosen None None None None) ≡ None
unfolding early_fault
squared_cloud = refl

squared_by_shape : early_fault with_square (chosen None None (Some Shape) None) ≡ Some (record { kind = kind.Choice; at = 2 })
unfolding early_fault
squared_by_shape = refl

-- what is asked of its two attributes, and of texture coordinates
square_asked : map (asked Shape) (position ∷ square_head ∷ texture ∷ []) ≡ pos 1 ∷ pos 6 ∷ pos 5 ∷ []
unfolding asked
square_asked = refl

square_asked_by_difference : map (asked (Plain prediction.Difference)) (position ∷ square_head ∷ texture ∷ []) ≡ pos 0 ∷ pos 0 ∷ pos 0 ∷ []
unfolding asked
square_asked_by_difference = refl

square_asked_by_several : map (asked (Plain prediction.Multi)) (position ∷ square_head ∷ texture ∷ []) ≡ pos 4 ∷ pos 6 ∷ pos 4 ∷ []
unfolding asked
square_asked_by_several = refl

square_asked_of_none : map (asked (Plain prediction.Off)) (position ∷ square_head ∷ texture ∷ []) ≡ negsuc 1 ∷ negsuc 1 ∷ negsuc 1 ∷ []
unfolding asked
square_asked_of_none = refl

-- the first profile that has all that is written of them
needed_numbers :
    map (λ p. needed_number p (position ∷ square_head ∷ [])) (Plain prediction.Off ∷ Shape ∷ []) ++ map (λ p. needed_number p (position ∷ texture ∷ [])) (Plain prediction.Multi ∷ Shape ∷ [])
    ≡ 3 ∷ 3 ∷ 2 ∷ 3 ∷ []
needed_numbers = refl

-- no points
empty_cloud : early_fault no_points (chosen None None None None) ≡ Some (record { kind = kind.Empty; at = 0 })
unfolding early_fault
empty_cloud = refl

cloud_by_parallelograms : early_fault cloud (chosen None None (Some (Plain prediction.Multi)) None) ≡ Some (record { kind = kind.Choice; at = 2 })
unfolding early_fault
cloud_by_parallelograms = refl

-- a mesh of which no method is chosen has no early fault, whatever is chosen of its prediction and its walk
mesh_by_default : early_fault triangle (chosen None None None None) ≡ None
unfolding early_fault
mesh_by_default = refl

mesh_by_parallelograms : early_fault triangle (chosen (Some method.Valence) None (Some (Plain prediction.Multi)) (Some walk.Degree)) ≡ None
unfolding early_fault
mesh_by_parallelograms = refl

-- indices of a mesh that isn't sequential
mesh_of_indices : early_fault triangle (chosen None (Some indexed.Plain) None None) ≡ Some (record { kind = kind.Choice; at = 1 })
unfolding early_fault
mesh_of_indices = refl

-- a mesh without positions, and one of no faces
coloured : early_fault without_position (chosen None None None None) ≡ Some (record { kind = kind.NoPosition; at = 0 })
unfolding early_fault
coloured = refl

no_faces : early_fault without_faces (chosen None None None None) ≡ Some (record { kind = kind.Empty; at = 0 })
unfolding early_fault
no_faces = refl

abbrev column : ℤ → List ℤ → Values
column code values = record { values = values; predict = code; at = 0 }

-- the widest range that is predicted, and one more
widest : range_fault (position ∷ []) (column (pos 0) (negsuc 1073741823 ∷ pos 1073741822 ∷ []) ∷ []) ≡ None
widest = refl

too_wide : range_fault (position ∷ texture ∷ []) (column (pos 0) (pos 0 ∷ []) ∷ column (pos 5) (negsuc 1073741823 ∷ pos 1073741823 ∷ []) ∷ []) ≡ Some (record { kind = kind.Range; at = 1 })
too_wide = refl

not_predicted : range_fault (position ∷ []) (column (negsuc 1) (negsuc 1073741823 ∷ pos 1073741823 ∷ []) ∷ []) ≡ None
not_predicted = refl

-- values in a square don't wrap
not_wrapped : range_fault (square_head ∷ []) (column (pos 0) (negsuc 1073741823 ∷ pos 1073741823 ∷ []) ∷ []) ≡ None
not_wrapped = refl
