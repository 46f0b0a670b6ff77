-- Two faces with one pair, and a fan of four faces round a point: their bits, the flags that these give, and the classes round the point.
use Rattle.std.proofs.Common.{◌≡◌, Bool, true, false, List, [], ◌∷◌, get_or, refl}
use Rattle.corner_table.specs.Sides.{first, second, third, side, Gluing, unglued, glue}
use Rattle.corner_table.specs.Fans.{corners_of, meets, walks_left, walks_right}
use Rattle.seams.specs.Seams.{flag_at, flags_listed, unseamed}
use Rattle.corner_table.specs.Pairs.{bit_sides}
use Rattle.seams.specs.SeamBits.{seam_bits, flag_of_bits}

abbrev two : Gluing
two = glue (side 0 first) (side 1 third) unglued

two_bits : bit_sides 2 two ≡ side 0 first ∷ []
unfolding corners_of
two_bits = refl

two_seam : flags_listed 2 (flag_of_bits 2 two (λ k. true)) ≡ true ∷ true ∷ true ∷ true ∷ true ∷ true ∷ []
unfolding corners_of
two_seam = refl

two_uncut : flags_listed 2 (flag_of_bits 2 two (λ k. false)) ≡ false ∷ true ∷ true ∷ true ∷ true ∷ false ∷ []
unfolding corners_of
two_uncut = refl

abbrev fan : Gluing
fan = glue (side 0 second) (side 1 third) (glue (side 0 third) (side 3 second) (glue (side 1 second) (side 2 third) (glue (side 2 second) (side 3 third) unglued)))

fan_bits : bit_sides 4 fan ≡ side 0 second ∷ side 0 third ∷ side 1 second ∷ side 2 second ∷ []
unfolding corners_of
fan_bits = refl

abbrev halves : List Bool
halves = true ∷ false ∷ true ∷ true ∷ true ∷ false ∷ true ∷ false ∷ true ∷ true ∷ true ∷ false ∷ []

fan_told : flags_listed 4 (flag_of_bits 4 fan (λ k. get_or (false ∷ true ∷ true ∷ false ∷ []) k false)) ≡ halves
unfolding corners_of
fan_told = refl

fan_again : seam_bits 4 fan (flag_at halves) ≡ false ∷ true ∷ true ∷ false ∷ []
unfolding corners_of
fan_again = refl

-- the first two faces and the last two have a class each at the point, which is one vertex
one_half : meets 4 (unseamed (flag_at halves) fan) (side 0 first) (side 1 first) ≡ true
unfolding walks_left walks_right
one_half = refl

two_halves : meets 4 (unseamed (flag_at halves) fan) (side 0 first) (side 2 first) ≡ false
unfolding walks_left walks_right
two_halves = refl

one_vertex : meets 4 fan (side 0 first) (side 2 first) ≡ true
unfolding walks_left walks_right
one_vertex = refl
