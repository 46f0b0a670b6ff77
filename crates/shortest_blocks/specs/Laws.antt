-- What holds of the shortest coding of a block and of joined bit lengths, whichever values they are of.
use Rattle.std.specs.Prelude.{◌≡◌, ℕ, ◌<◌, ◌≤◌, List, [], ◌∷◌, All, length, slice_index, slice_index_or}
use Rattle.std.specs.List.{IsFirstBest}
use Rattle.symbol_tables.specs.Normal.{greatest_count}
use Rattle.symbol_coding.specs.Block.{block_bytes}
use Rattle.symbol_coding.specs.Symbols.{counts_of}
use Rattle.shortest_blocks.specs.AllCuts.{AreLasts, cut_along}
use Rattle.shortest_blocks.specs.Joined.{cut_of, joined_lengths}
use Rattle.shortest_blocks.specs.Shortest.{is_shorter, other_codings, shortest_bytes}

-- no joined length is below its group's, or above 32
abbrev pub JoinedLengthsHold : Type 0
JoinedLengthsHold = (comps : ℕ) (lengths : List ℕ) → All (λ l. l ≤ 32) lengths
    → (length (joined_lengths comps lengths) ≡ length lengths)
    × ((k : ℕ) → slice_index lengths k ≤ slice_index (joined_lengths comps lengths) k)
    × ((k : ℕ) → slice_index (joined_lengths comps lengths) k ≤ 32)

-- no cut of the lengths that occur costs less than the one by which they are joined
abbrev pub NoCutCostsLess : Type 0
NoCutCostsLess = (comps : ℕ) (lengths lasts : List ℕ) → let counts = counts_of lengths in let ends = greatest_count lengths ∷ lasts in
    AreLasts counts (length counts) ends → (cut_of comps lengths).cost ≤ (cut_along counts (length lengths) comps ends).cost

-- the shortest bytes of some values are one of the codings, none is shorter, and those before it are longer
abbrev pub TheFirstOfTheShortest : Type 0
TheFirstOfTheShortest = (values : List ℕ) (comps : ℕ) → 0 < length values
    → let codings = block_bytes values comps ∷ other_codings values comps in
    (k : ℕ) × IsFirstBest is_shorter codings (length codings) k × (slice_index_or codings k [] ≡ shortest_bytes values comps)
