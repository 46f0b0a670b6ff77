-- Symbol blocks: values in groups of components, either each a symbol of its own or each group behind its bit length
-- (Draco Bitstream Specification 2.2, section Symbol Decoding). The refusal of lengths above 32, and which of the two
-- schemes is written, are this project's choice.
use Rattle.std.specs.Prelude.{ℕ, zero, suc, ◌+◌, ◌*◌, ◌/◌, ◌^◌, ◌<◌, ◌≤◌, Bool, ◌==◌, ◌&&◌, nat_lt, nat_le, min, max, List, [], ◌∷◌, ◌++◌}
use Rattle.std.specs.Prelude.{map, flat_map, length, take, drop, replicate, sum, Result, Ok, Err, if◌then◌else◌}
use Rattle.drc_base.specs.declared.faults.Fault.{Fault}
use Rattle.drc_base.specs.declared.kinds.Kind.TheVariants as kind
use Rattle.drc_base.specs.Steps.{◌>>=◌}
use Rattle.rans_core.specs.Coder.{CoderState}
use Rattle.drc_bits.specs.Reading.{Reading, Item, must, advanced}
use Rattle.drc_bits.specs.Numbers.{number_at}
use Rattle.drc_bits.specs.Bits.{bits_of, bytes_for, low_bits, number_of, packed}
use Rattle.symbol_tables.specs.Tables.{count_at, table_at, table_bytes}
use Rattle.symbol_tables.specs.Normal.{greatest_count, normal, used_of}
use Rattle.drc_bits.specs.Digits.{digits}
use Rattle.symbol_coding.specs.Symbols.{coded_at, coded_bytes, counts_of, next_symbols}

-- the precision in bits of a coder for symbols of so many bits
abbrev pub precision : ℕ → ℕ
precision length = max 12 (min 20 (3 * length / 2))

-- the bit length of each value, from those of the groups
abbrev pub widths : ℕ → List ℕ → List ℕ
widths comps lengths = flat_map (λ l. replicate comps l) lengths

-- ---- reading

-- a block whose values are symbols: their bit length, their table, and the coded symbols
unfoldable pub raw_at : ℕ → Reading → Item (List ℕ)
raw_at n c = do
  length ← must kind.Length (λ l. nat_le 1 l && nat_le l 18) (number_at 1) c
  probs ← table_at (precision length.0) length.1
  coded ← coded_at (precision length.0) probs.1
  Ok (next_symbols n (precision length.0) probs.0 coded.0.state, coded.1)

-- the values of these widths from bits: Length, at one place, where a width is above 32, and Short, at the other,
-- where the bits run out
unfoldable pub values_in_groups : ℕ → ℕ → List ℕ → List ℕ → Result (List ℕ) Fault
values_in_groups long short [] bits = Ok []
values_in_groups long short (w ∷ ws) bits = if nat_lt 32 w then Err (record { kind = kind.Length; at = long })
    else (if nat_lt (length bits) w then Err (record { kind = kind.Short; at = short })
    else values_in_groups long short ws (drop w bits) >>= λ vs. Ok (number_of (take w bits) ∷ vs))

-- these values in front of others
abbrev pub with_values : List ℕ → Result (List ℕ) Fault → Result (List ℕ) Fault
with_values front rest = rest >>= λ vs. Ok (front ++ vs)

-- the bit lengths of values in groups whose lengths are the next symbols
abbrev pub next_widths : ℕ → ℕ → List ℕ → CoderState → List ℕ
next_widths groups comps probs s = widths comps (next_symbols groups (precision 5) probs s)

-- a block of groups: a table of bit lengths, the coded lengths, one for each group, and then the bits of all values
unfoldable pub tagged_at : ℕ → ℕ → Reading → Item (List ℕ)
tagged_at groups comps c = do
  probs ← table_at (precision 5) c
  coded ← coded_at (precision 5) probs.1
  values ← values_in_groups coded.0.place coded.1.place (next_widths groups comps probs.0 coded.0.state) (bits_of coded.1.rest)
  Ok (values, advanced (bytes_for (sum (next_widths groups comps probs.0 coded.0.state))) coded.1)

-- what follows a scheme: 0 for groups, 1 for symbols
abbrev pub scheme_at : ℕ → ℕ → ℕ → Reading → Item (List ℕ)
scheme_at scheme n comps c = if scheme == 0 then tagged_at (n / comps) comps c else raw_at n c

-- n values in groups of so many components: a scheme, and the block; no values have no bytes
unfoldable pub block_at : ℕ → ℕ → Reading → Item (List ℕ)
block_at n comps c = if n == 0 then Ok ([], c)
    else must kind.Scheme (λ s. nat_lt s 2) (number_at 1) c >>= λ scheme. scheme_at scheme.0 n comps scheme.1

-- a block of symbols up to its table's number of symbols
unfoldable pub raw_opening_at : Reading → Item ℕ
raw_opening_at c = must kind.Length (λ l. nat_le 1 l && nat_le l 18) (number_at 1) c >>= λ l. count_at l.1

-- a block up to its table's number of symbols: what comes before out of memory
unfoldable pub block_opening_at : ℕ → Reading → Item ℕ
block_opening_at n c = if n == 0 then Ok (0, c)
    else must kind.Scheme (λ s. nat_lt s 2) (number_at 1) c
    >>= λ scheme. if scheme.0 == 0 then count_at scheme.1 else raw_opening_at scheme.1

-- ---- writing

-- so many groups of components
abbrev pub groups_of : ℕ → ℕ → List ℕ → List (List ℕ)
groups_of zero comps values = []
groups_of (suc n) comps values = take comps values ∷ groups_of n comps (drop comps values)

-- the bit length of a group: that of its greatest value, at least 1
abbrev pub length_of : List ℕ → ℕ
length_of group = max 1 (digits (greatest_count group))

-- the bit lengths of the groups
unfoldable pub lengths_of : ℕ → List ℕ → List ℕ
lengths_of comps values = map length_of (groups_of (length values / comps) comps values)

-- the bits of values of these widths
abbrev pub value_bits : List ℕ → List ℕ → List ℕ
value_bits [] values = []
value_bits (w ∷ ws) [] = []
value_bits (w ∷ ws) (v ∷ vs) = low_bits w v ++ value_bits ws vs

-- each value has a width of at most 32 bits, and fits
abbrev pub HasWidths : List ℕ → List ℕ → Type 0
HasWidths [] [] = Unit {0}
HasWidths [] (v ∷ vs) = ⊥
HasWidths (w ∷ ws) [] = ⊥
HasWidths (w ∷ ws) (v ∷ vs) = (w ≤ 32) × (v < 2 ^ w) × HasWidths ws vs

-- what a symbol costs that occurs k times among n
abbrev pub cost_of_count : ℕ → ℕ → ℕ
cost_of_count n k = k * digits (n / k)

-- what symbols cost, about, in bits: each as often as it occurs, and eight for each probability
abbrev pub raw_cost : List ℕ → ℕ
raw_cost values = sum (map (cost_of_count (length values)) (counts_of values)) + 8 * (greatest_count values + 1)

-- what a group costs, about, in bits: five for its length, and its values
abbrev pub cost_of_group : ℕ → ℕ → ℕ
cost_of_group comps length = 5 + comps * length

-- what groups cost, about, in bits
abbrev pub tagged_cost : List ℕ → ℕ → ℕ
tagged_cost values comps = sum (map (cost_of_group comps) (lengths_of comps values))

-- whether symbols are written: where all values are below 2 ^ 18 and it costs no more
unfoldable pub is_raw : List ℕ → ℕ → Bool
is_raw values comps = nat_lt (greatest_count values) (2 ^ 18) && nat_le (raw_cost values) (tagged_cost values comps)

-- the bit length of symbols with these counts: that of how many are used, from 1 to 18
abbrev pub raw_length : List ℕ → ℕ
raw_length counts = max 1 (min 18 (digits (used_of counts)))

-- the bytes of a block whose values are symbols
unfoldable pub raw_bytes : List ℕ → List ℕ
raw_bytes values = let length = raw_length (counts_of values) in let probs = normal (counts_of values) (precision length) in
    1 ∷ length ∷ table_bytes probs ++ coded_bytes (precision length) probs values

-- the bytes of a block of groups
unfoldable pub tagged_bytes : List ℕ → ℕ → List ℕ
tagged_bytes values comps = let lengths = lengths_of comps values in let probs = normal (counts_of lengths) (precision 5) in
    0 ∷ table_bytes probs ++ coded_bytes (precision 5) probs lengths ++ packed (value_bits (widths comps lengths) values)

-- the bytes of values in groups of so many components: the scheme that costs less; none for no values
unfoldable pub block_bytes : List ℕ → ℕ → List ℕ
block_bytes values comps = if length values == 0 then [] else (if is_raw values comps then raw_bytes values else tagged_bytes values comps)
