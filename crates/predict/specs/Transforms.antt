-- The transforms of corrections, each by its row of one table (Draco Bitstream Specification 2.2, section "Prediction Scheme
-- Transforms").
use Rattle.std.specs.Prelude.{ℕ, ◌==◌, List, [], ◌∷◌, find, Option}
use Rattle.predict.specs.declared.transforms.Transform.{Transform}
use Rattle.predict.specs.declared.transforms.Transform.TheVariants as transform

-- the byte of a transform in a stream
abbrev pub transform_byte : Transform → ℕ
transform_byte transform.Wrap = 1

-- all transforms
abbrev pub transforms : List Transform
transforms = transform.Wrap ∷ []

-- the transform of a byte, where there is one
abbrev pub transform_of : ℕ → Option Transform
transform_of b = find (λ t. transform_byte t == b) transforms
