-- The two predictions of octahedral values as steps, what corrections restore by them, and the corrections of values (Draco Bitstream
-- Specification 2.2, section "Prediction Difference"; Draco 1.5.5, MeshPredictionSchemeGeometricNormalDecoder and -Encoder).
use Rattle.std.specs.Prelude.{ℕ, ℤ, pos, Bool, true, false, not, nat_lt, if◌then◌else◌}
use Rattle.std.specs.Prelude.{List, [], ◌∷◌, length, map, slice_index_or, Result, Ok, Err}
use Rattle.std.specs.List.{range_with_len}
use Rattle.drc_base.specs.Steps.{◌>>=◌}
use Rattle.drc_base.specs.declared.kinds.Kind.{Kind}
use Rattle.drc_base.specs.declared.kinds.Kind.TheVariants as kind
use Rattle.wrapped_vectors.specs.Vectors.{reduced}
use Rattle.wrapped_vectors.specs.declared.places.Place.{Place}
use Rattle.wrapped_vectors.specs.declared.vectors.Vector.{Vector}
use Rattle.octahedron.specs.declared.points.Point.{Point}
use Rattle.octahedron.specs.declared.points.Direction.{Direction}
use Rattle.octahedron.specs.Square.{point}
use Rattle.octahedron.specs.Corrections.{restored_value, correction_of, size}
use Rattle.octahedron.specs.Directions.{octahedral_value}
use Rattle.octahedron.specs.Restored.{value_before}
use Rattle.octahedron.specs.Pairs.{pairs_of}
use Rattle.normal_prediction.specs.NormalSums.{fan_sum, vector_in}
use Rattle.normal_prediction.specs.Directions.{direction, opposite}
use Rattle.predict.specs.Stepping.{Step, step_by, restored_by, corrected_by}
use Rattle.octahedral_values.specs.Integers.{integers_of}

-- the step of the difference: the value before, and the pair (0, 0) before the first value; it takes no flips
abbrev pub difference : Step Point (List Bool) Kind
difference = step_by value_before

-- the sums of the normals of the faces round the entries, to 64 bits, by the entry of each corner and the place of each entry
unfoldable pub normals_round : List ℕ → List Place → List Vector
normals_round entries places = map (λ e. reduced (fan_sum entries places e (length entries))) (range_with_len 0 (length places))

-- the value of a direction, or of the opposite one where it is flipped
abbrev pub directed_value : ℤ → Direction → Bool → Point
directed_value c v flip = octahedral_value c (if flip then opposite v else v)

-- the value that a sum of normals predicts, with this flip
unfoldable pub normal_value : ℤ → Vector → Bool → Point
normal_value c sum flip = directed_value c (direction c sum) flip

-- the step of the geometric normal: the value of the sum of the entry that comes next, with the next flip
unfoldable pub geometric_normal : ℤ → List Vector → Step Point (List Bool) Kind
geometric_normal c sums before [] = Err kind.FlagsShort
geometric_normal c sums before (flip ∷ flips) = Ok (normal_value c (vector_in sums (length before)) flip, flips)

-- points, or what they lack, as integers
abbrev pub as_integers : Result (List Point) Kind → Result (List ℤ) Kind
as_integers points = points >>= λ ps. Ok (integers_of ps)

-- the values that corrections in the square of centre c restore by a step with these flips, two integers for each
unfoldable pub restored_integers : Step Point (List Bool) Kind → ℤ → List Bool → List ℤ → Result (List ℤ) Kind
restored_integers step c flips corrections = as_integers (restored_by step (restored_value c) [] flips (pairs_of corrections))

-- the corrections of values by a step with these flips, two integers for each
unfoldable pub corrected_integers : Step Point (List Bool) Kind → ℤ → List Bool → List ℤ → Result (List ℤ) Kind
corrected_integers step c flips values = as_integers (corrected_by step (correction_of c) [] flips (pairs_of values))

-- the size of the correction of a value by a sum of normals with this flip
abbrev pub size_at : ℤ → Vector → Bool → Point → ℕ
size_at c sum flip v = size c (correction_of c (normal_value c sum flip) v)

-- an encoder flips a value's prediction where the correction is no smaller without
unfoldable pub is_flipped : ℤ → Vector → Point → Bool
is_flipped c sum v = not (nat_lt (size_at c sum false v) (size_at c sum true v))

-- the point of an entry
abbrev pub point_in : List Point → ℕ → Point
point_in points e = slice_index_or points e (point (pos 0) (pos 0))

-- the flips that an encoder chooses for values, one for each
unfoldable pub flips_of : ℤ → List Vector → List Point → List Bool
flips_of c sums values = map (λ e. is_flipped c (vector_in sums e) (point_in values e)) (range_with_len 0 (length values))
