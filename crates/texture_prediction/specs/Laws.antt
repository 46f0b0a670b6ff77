-- What holds of orientations and their bits.
use Rattle.std.specs.Prelude.{◌≡◌, Bool, List}
use Rattle.texture_prediction.specs.Orientations.{bits_of, orientations_of}

-- what is said of orientations says them
abbrev pub OrientationsComeBack : Type 0
OrientationsComeBack = (orientations : List Bool) → orientations_of (bits_of orientations) ≡ orientations

-- the orientations that bits say are said by these bits
abbrev pub BitsComeBack : Type 0
BitsComeBack = (bits : List Bool) → bits_of (orientations_of bits) ≡ bits
