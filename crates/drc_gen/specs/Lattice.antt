-- Square lattices: their points or cells, and the numbers of these.
use Rattle.std.specs.Prelude.{ℕ, ◌+◌, ◌*◌, ◌%◌, ◌/◌, List, map}
use Rattle.std.specs.List.{flat_map, range_with_len}

-- the pairs (i, j) of numbers below `side`, over j, then over i within j
unfoldable pub pairs : ℕ → List (ℕ × ℕ)
pairs side = flat_map (λ j. map (λ i. (i, j)) (range_with_len 0 side)) (range_with_len 0 side)

-- the number of a pair among them
abbrev pub pair_number : ℕ → ℕ × ℕ → ℕ
pair_number side (i, j) = j * side + i

-- the number of a pair whose numbers are taken modulo `side`
abbrev pub closed_number_of : ℕ → ℕ × ℕ → ℕ
closed_number_of side (i, j) = pair_number side (i % side, j % side)

-- the pair with this number
abbrev pub pair_at : ℕ → ℕ → ℕ × ℕ
pair_at side k = (k % side, k / side)
