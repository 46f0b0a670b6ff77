-- A surface under new numbers of its faces, as a function of it, and what its pairs keep (this project's own definition).
use Rattle.std.specs.Prelude.{◌≡◌, ℕ, ◌<◌, Bool, nat_lt, cond, List, length, None, option_map}
use Rattle.mesh_model.specs.Parts.{MeshParts}
use Rattle.mesh_model.specs.Same.{SameMesh}
use Rattle.mesh_model.specs.Renumbering.{inverted}
use Rattle.corner_table.specs.Sides.{Side, Gluing, IsGluing}
use Rattle.corner_table.specs.Fans.{IsProper}
use Rattle.corner_table.specs.Carried.{carry, IsRenumbering, IsCarried}
use Rattle.pairing.specs.Pairing.{same_position, PairsFit}

-- the gluing g under new numbers of the faces: a side is carried to its old number, and what g has across it is carried back. A side of no
-- face is in no pair
abbrev pub carried : Gluing → List (ℕ × ℕ) → Gluing
carried g rows x = cond (nat_lt x.face (length rows)) (option_map (carry (inverted rows)) (g (carry rows x))) None

-- the way back leads back
abbrev pub InvertedLeadsBack : Type 0
InvertedLeadsBack = (faces : ℕ) (rows : List (ℕ × ℕ)) → IsRenumbering faces rows → (x : Side) → x.face < faces →
    carry (inverted rows) (carry rows x) ≡ x

-- it is the one surface with the pairs of g under the new numbers
abbrev pub CarriedIsTheOne : Type 0
CarriedIsTheOne = (faces : ℕ) (g : Gluing) (rows : List (ℕ × ℕ)) → IsGluing faces g → IsRenumbering faces rows →
    IsCarried faces g rows (carried g rows) × ((h : Gluing) → IsCarried faces g rows h → h ≡ carried g rows)

-- it is proper where g is
abbrev pub CarriedIsProper : Type 0
CarriedIsProper = (faces : ℕ) (g : Gluing) (rows : List (ℕ × ℕ)) → IsProper faces g → IsRenumbering faces rows →
    IsProper faces (carried g rows)

-- a test of the new corners that answers as a test of the old ones: pairs that fit by the one fit by the other
abbrev pub FitIsCarried : Type 0
FitIsCarried = (faces : ℕ) (g h : Gluing) (rows : List (ℕ × ℕ)) (old new : Side → Side → Bool) → IsCarried faces g rows h →
    ((c d : Side) → c.face < faces → d.face < faces → new c d ≡ old (carry rows c) (carry rows d)) → PairsFit old g → PairsFit new h

-- so the carried pairs of a mesh fit the mesh with its faces in the new order
abbrev pub MeshFitIsCarried : Type 0
MeshFitIsCarried = (m n : MeshParts) (g h : Gluing) (rows : List (ℕ × ℕ)) → SameMesh m n rows → IsCarried (length n.faces) g rows h →
    PairsFit (same_position m) g → PairsFit (same_position n) h
