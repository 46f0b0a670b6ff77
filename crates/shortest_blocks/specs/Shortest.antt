-- The codings of a block of symbols that are tried, and the first of the shortest (this project's choice; each is read by Draco
-- Bitstream Specification 2.2, section Symbol Decoding).
use Rattle.std.specs.Prelude.{ℕ, ◌+◌, ◌^◌, ◌==◌, nat_lt, min, Bool, List, [], ◌∷◌, ◌++◌, length, if◌then◌else◌}
use Rattle.std.specs.List.{best_of}
use Rattle.drc_bits.specs.Bits.{packed}
use Rattle.symbol_tables.specs.Normal.{greatest_count, normal}
use Rattle.symbol_tables.specs.Tables.{table_bytes}
use Rattle.symbol_coding.specs.Block.{block_bytes, precision, raw_length, value_bits, widths}
use Rattle.symbol_coding.specs.Symbols.{coded_bytes, counts_of}
use Rattle.shortest_blocks.specs.Joined.{digits_of_groups, joined_lengths}

-- the bytes of a block whose values are symbols of this bit length
unfoldable pub raw_of : ℕ → List ℕ → List ℕ
raw_of bit_length values = let probs = normal (counts_of values) (precision bit_length) in
    1 ∷ bit_length ∷ table_bytes probs ++ coded_bytes (precision bit_length) probs values

-- the bytes of a block of groups with these bit lengths
unfoldable pub tagged_of : List ℕ → ℕ → List ℕ → List ℕ
tagged_of lengths comps values = let probs = normal (counts_of lengths) (precision 5) in
    0 ∷ table_bytes probs ++ coded_bytes (precision 5) probs lengths ++ packed (value_bits (widths comps lengths) values)

-- the bytes of a block of groups with the joined bit lengths
unfoldable pub joined_bytes : List ℕ → ℕ → List ℕ
joined_bytes values comps = tagged_of (joined_lengths comps (digits_of_groups comps values)) comps values

-- the codings whose values are symbols, which are below 2 ^ 18: of the bit length of how many are used, and of two more
unfoldable pub raw_codings : List ℕ → List (List ℕ)
raw_codings values = if nat_lt (greatest_count values) (2 ^ 18)
    then raw_of (raw_length (counts_of values)) values ∷ raw_of (min 18 (raw_length (counts_of values) + 2)) values ∷ [] else []

-- the codings that are tried beside the block that is written without a wish for the shortest
abbrev pub other_codings : List ℕ → ℕ → List (List ℕ)
other_codings values comps = joined_bytes values comps ∷ raw_codings values

-- whether bytes are fewer than others
abbrev pub is_shorter : List ℕ → List ℕ → Bool
is_shorter a b = nat_lt (length a) (length b)

-- the first of the shortest codings; no values have no bytes
unfoldable pub shortest_bytes : List ℕ → ℕ → List ℕ
shortest_bytes values comps = if length values == 0 then [] else best_of is_shorter (block_bytes values comps) (other_codings values comps)
