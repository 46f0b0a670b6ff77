-- Packed indices of a sequential mesh: each index by its difference from the one before, as a symbol (Draco Bitstream
-- Specification 2.2, section "Sequential Connectivity"; the refusal of a number that is no point is this project's choice).
use Rattle.std.specs.Prelude.{ℕ, ◌+◌, ◌*◌, ◌/◌, ◌%◌, ◌==◌, ℤ, pos, negsuc, neg_ℤ, ◌+ℤ◌, ◌-ℤ◌, List, [], ◌∷◌, map, Result, Ok, Err, nat_lt}
use Rattle.std.specs.Prelude.{if◌then◌else◌}
use Rattle.std.specs.List.{flat_map}
use Rattle.drc_base.specs.declared.faults.Fault.{Fault}
use Rattle.drc_base.specs.Steps.{◌>>=◌}

-- the difference that a symbol means: its low bit is the sign, the rest the size
abbrev pub difference_of : ℕ → ℤ
difference_of v = if v % 2 == 1 then neg_ℤ (pos (v / 2)) else pos (v / 2)

-- the symbol of a difference
abbrev pub difference_symbol : ℤ → ℕ
difference_symbol (pos n) = 2 * n
difference_symbol (negsuc n) = 2 * (n + 1) + 1

-- the sums of a start and the differences up to each
abbrev pub sums_from : ℤ → List ℤ → List ℤ
sums_from start [] = []
sums_from start (d ∷ ds) = (start +ℤ d) ∷ sums_from (start +ℤ d) ds

-- the difference of each number from the one before, the first from a start
abbrev pub differences_from : ℤ → List ℤ → List ℤ
differences_from start [] = []
differences_from start (i ∷ is) = (i -ℤ start) ∷ differences_from i is

-- the point of this number, where it is one of so many, else the fault
abbrev pub point_meant : Fault → ℕ → ℤ → Result ℕ Fault
point_meant outside points (pos i) = if nat_lt i points then Ok i else Err outside
point_meant outside points (negsuc n) = Err outside

-- the points of these numbers, where each is one
abbrev pub points_meant : Fault → ℕ → List ℤ → Result (List ℕ) Fault
points_meant outside points [] = Ok []
points_meant outside points (i ∷ is) = point_meant outside points i >>= λ p. points_meant outside points is >>= λ ps. Ok (p ∷ ps)

-- the points that symbols mean after a number
abbrev pub points_after : Fault → ℕ → ℤ → List ℕ → Result (List ℕ) Fault
points_after outside points start symbols = points_meant outside points (sums_from start (map difference_of symbols))

-- corners, three by three
abbrev pub threes : List ℕ → List (List ℕ)
threes (a ∷ b ∷ d ∷ corners) = (a ∷ b ∷ d ∷ []) ∷ threes corners
threes _ = []

-- the faces that symbols mean
abbrev pub faces_meant : Fault → ℕ → List ℕ → Result (List (List ℕ)) Fault
faces_meant outside points symbols = points_after outside points (pos 0) symbols >>= λ corners. Ok (threes corners)

-- the symbols of indices, the first after a number
abbrev pub symbols_after : ℤ → List ℕ → List ℕ
symbols_after start indices = map difference_symbol (differences_from start (map pos indices))

-- the symbols of faces
abbrev pub symbols_of : List (List ℕ) → List ℕ
symbols_of faces = symbols_after (pos 0) (flat_map (λ face. face) faces)
