-- Worked surfaces, computed: the ways round a vertex.
use Rattle.std.proofs.Common.{◌≡◌, ℕ, [], ◌∷◌, replicate, refl}
use Rattle.corner_table.specs.Sides.{first, third, side, Gluing}
use Rattle.corner_table.specs.Table.{glued_in, free_entry}
use Rattle.corner_table.specs.Ordered.{Ordered}
use Rattle.predict.specs.Gathered.{round_from, round}

-- a surface with its gluing alone
glued : Gluing → ℕ → Ordered
glued g corners = record { gluing = g; corners = []; entries = replicate corners 0 }

-- a closed fan: round a vertex of a tetrahedron
tetrahedron : Gluing
tetrahedron = glued_in (8 ∷ 5 ∷ 10 ∷ 7 ∷ 11 ∷ 1 ∷ 9 ∷ 3 ∷ 0 ∷ 6 ∷ 2 ∷ 4 ∷ [])

tetrahedron_round : round (glued tetrahedron 12) (side 0 first) ≡ side 0 first ∷ side 1 first ∷ side 3 first ∷ []
unfolding tetrahedron glued round_from
tetrahedron_round = refl

-- five faces glued along five sides, each face two or three of its own
five : Gluing
five = glued_in (free_entry ∷ 6 ∷ 3 ∷ 2 ∷ 11 ∷ free_entry ∷ 1 ∷ 12 ∷ 9 ∷ 8 ∷ free_entry ∷ 4 ∷ 7 ∷ free_entry ∷ free_entry ∷ [])

-- an open fan: to the left of the corner, and then to its right
five_round : round (glued five 15) (side 2 third) ≡ side 2 third ∷ side 0 third ∷ side 4 third ∷ []
unfolding five glued round_from
five_round = refl
