-- Orientations and the bits that say them (Draco 1.5.5, MeshPredictionSchemeTexCoordsPortableDecoder and -Encoder).
use Rattle.std.specs.Prelude.{Bool, true, not, if◌then◌else◌, List, [], ◌∷◌}
use Rattle.std.specs.Bool.{beq}

-- the orientation that a bit says behind another one: a bit that is set keeps it, another one changes it
abbrev pub kept : Bool → Bool → Bool
kept before bit = if bit then before else not before

-- the orientations that bits say behind one
unfoldable pub orientations_behind : Bool → List Bool → List Bool
orientations_behind before [] = []
orientations_behind before (bit ∷ bits) = kept before bit ∷ orientations_behind (kept before bit) bits

-- the orientations that bits say: the one before the first is set
abbrev pub orientations_of : List Bool → List Bool
orientations_of bits = orientations_behind true bits

-- the bits that say orientations behind one: set where it is the one before
unfoldable pub bits_behind : Bool → List Bool → List Bool
bits_behind before [] = []
bits_behind before (orientation ∷ orientations) = beq orientation before ∷ bits_behind orientation orientations

-- the bits that say orientations
abbrev pub bits_of : List Bool → List Bool
bits_of orientations = bits_behind true orientations
