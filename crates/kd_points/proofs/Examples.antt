-- Worked examples of orders, computed.
use Rattle.std.proofs.Common.{◌≡◌, true, false, List, [], ◌∷◌, map, refl}
use Rattle.std.specs.List.{range_with_len}
use Rattle.kd_tree.specs.Keys.{Key}
use Rattle.kd_points.specs.Rows.{of_rank, rank_of}

-- keys of one bit, of which two are equal
three : List Key
three = (true ∷ []) ∷ (false ∷ []) ∷ (false ∷ []) ∷ []

-- how many come before each: both others, none, and the number 1
ranks : map (rank_of three) (range_with_len 0 3) ≡ 2 ∷ 0 ∷ 1 ∷ []
unfolding three
ranks = refl

-- the numbers by their ranks
numbers : map (of_rank three) (range_with_len 0 3) ≡ 1 ∷ 2 ∷ 0 ∷ []
unfolding three
numbers = refl

-- keys of two bits: 1 0, 0 1, 1 1, 0 0
four : List Key
four = (true ∷ false ∷ []) ∷ (false ∷ true ∷ []) ∷ (true ∷ true ∷ []) ∷ (false ∷ false ∷ []) ∷ []

numbers-of-four : map (of_rank four) (range_with_len 0 4) ≡ 3 ∷ 1 ∷ 0 ∷ 2 ∷ []
unfolding four
numbers-of-four = refl
