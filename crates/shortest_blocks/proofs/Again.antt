-- Each coding of a block is read as its values, whatever follows it.
use Rattle.std.proofs.Common.{◌≡◌, ℕ, ◌+◌, ◌/◌, ◌^◌, ◌<◌, ◌≤◌, List, [], ◌∷◌, ◌++◌, length, map, sum, get_or, Ok, sym, refl, ap, ◌∙◌, subst, arith, append_assoc, length-append, pow_mono}
use Rattle.drc_base.specs.declared.limits.TheConstants.{MAX_VALUES}
use Rattle.drc_bits.specs.Varint.{spelling}
use Rattle.drc_bits.specs.Spells.{Spells}
use Rattle.drc_bits.specs.Bits.{AreBits, bits_of, bytes_for, low_bits, packed}
use Rattle.drc_bits.proofs.Written.{reading}
use Rattle.drc_bits.proofs.BitLists.{bits_of-append}
use Rattle.drc_bits.proofs.PackedBits.{AreBits-append, AreBits-low_bits, length-packed, packed-again}
use Rattle.rans_core.specs.Coder.{all_spelled}
use Rattle.symbol_tables.specs.Tables.{table_at, table_bytes}
use Rattle.symbol_tables.specs.Normal.{HasTable, greatest_count, normal, used_of}
use Rattle.symbol_tables.proofs.Sharing.{normal-length, normal-positive, normal-sum}
use Rattle.symbol_tables.proofs.Spelling.{table_at-Spells}
use Rattle.symbol_coding.specs.Symbols.{coded_bytes, counts_of, interval_of, next_symbols}
use Rattle.symbol_coding.specs.Block.{HasWidths, block_at, precision, raw_length, value_bits, values_in_groups, widths}
use Rattle.symbol_coding.proofs.Again.{IsCoded, is-coded, raw-reads, tagged-reads}
use Rattle.symbol_coding.proofs.Counts.{greatest-below, has-table, used-few}
use Rattle.symbol_coding.proofs.Tables.{raw-table, used-positive}
use Rattle.symbol_coding.proofs.Widths.{length-value_bits, values_in-bits}
use Rattle.shortest_blocks.specs.Shortest.{raw_of, tagged_of}

-- ---- tables

-- counts that have a table have one of more slots
wider : (counts : List ℕ) (bits more : ℕ) → bits ≤ more → HasTable counts bits → HasTable counts more
wider counts bits more high t =
    let room : 2 ^ bits ≤ 2 ^ more = pow_mono {i = bits} {j = more} high in
    record { some = t.some; last = t.last; few = t.few; used = omega (arith, t.used, room); small = t.small }

pub raw-of-table : (values counts : List ℕ) (l bits : ℕ) → counts ≡ counts_of values → 0 < length values → length values ≤ MAX_VALUES → greatest_count values < 2 ^ 18
    → raw_length counts ≤ l → bits ≡ precision l → HasTable counts bits
raw-of-table values counts l bits is some few small enough wide =
    subst (λ n. HasTable counts n) (sym wide)
    (wider counts (precision (raw_length counts)) (precision l) (omega (arith, enough)) (raw-table values counts (raw_length counts) (precision (raw_length counts)) is some few small refl refl))

pub tagged-of-table : (lengths counts : List ℕ) (bits : ℕ) → counts ≡ counts_of lengths → bits ≡ precision 5 → 0 < length lengths → length lengths ≤ MAX_VALUES
    → ((k : ℕ) → get_or lengths k 0 ≤ 32) → HasTable counts bits
tagged-of-table lengths counts bits counted wide some few most =
    let small : greatest_count lengths < 33 = greatest-below lengths 33 (omega arith) (λ k. let h = most k in omega (arith, h)) in
    let used = used-few lengths in
    let room : used_of (counts_of lengths) ≤ 2 ^ bits = subst (λ n. used_of (counts_of lengths) ≤ 2 ^ n) (sym wide) (omega (arith, used, small)) in
    subst (λ xs. HasTable xs bits) (sym counted) (has-table lengths bits some (omega (arith, few)) (omega (arith, small)) room)

-- ---- values as symbols

pub raw-of-again : (values bytes : List ℕ) (comps l : ℕ) → 0 < length values → length values ≤ MAX_VALUES → greatest_count values < 2 ^ 18 → raw_length (counts_of values) ≤ l → l ≤ 18
    → bytes ≡ raw_of l values → length bytes < 2 ^ 64 → Spells (block_at (length values) comps) bytes values
unfolding raw_of coded_bytes
raw-of-again values bytes comps l some few small enough most is short =
    let counts : List ℕ = counts_of values in
    let bits : ℕ = precision l in
    let probs : List ℕ = normal counts bits in
    let table : HasTable counts bits = raw-of-table values counts l bits refl some few small enough refl in
    let whole : sum probs ≡ 2 ^ bits = normal-sum counts bits table in
    let len : length probs ≡ length counts = normal-length counts bits in
    let high : bits ≤ 20 = omega arith in
    let room : 2 ^ bits ≤ 2 ^ 20 = pow_mono {i = bits} {j = 20} high in
    let text : List ℕ = table_bytes probs in
    let spells : Spells (table_at bits) text probs = table_at-Spells bits probs (omega (arith, len, table.some)) (omega (arith, len, table.few)) (omega (arith, whole, room)) whole in
    let coded : List ℕ = all_spelled 4 (2 ^ bits) (map (interval_of probs) values) in
    let number : List ℕ = spelling 10 (length coded) in
    let good : IsCoded bits probs values coded = is-coded bits probs values high whole (used-positive values counts probs refl (λ s. normal-positive counts bits s)) in
    let size : length bytes ≡ 1 + (1 + (length text + (length number + length coded))) =
    ap length is ∙ (let a = length-append text (number ++ coded) in let b = length-append number coded in omega (arith, a, b)) in
    subst (λ xs. Spells (block_at (length values) comps) xs values) (sym is) (record {
      reads = λ place rest.
          ap (λ xs. block_at (length values) comps (reading place (1 ∷ l ∷ xs))) (append_assoc text (number ++ coded) rest ∙ ap (λ xs. text ++ xs) (append_assoc number coded rest))
          ∙ raw-reads (length values) comps place l probs values coded text rest good.state some (omega (arith, enough)) most spells (omega (arith, size, short)) good.starts good.gives
          ∙ ap (λ n. Ok (values, reading n rest)) (
          let e : length bytes ≡ length (1 ∷ l ∷ text ++ (number ++ coded)) = ap length is in
          let f : place + 1 + 1 + length text + length number + length coded ≡ place + length (1 ∷ l ∷ text ++ (number ++ coded)) = omega (arith, size, e) in f);
    })

-- ---- groups

are-bits : (ws vs : List ℕ) → AreBits (value_bits ws vs)
are-bits [] vs = tt
are-bits (w ∷ ws) [] = tt
are-bits (w ∷ ws) (v ∷ vs) = AreBits-append (low_bits w v) (value_bits ws vs) (AreBits-low_bits w v) (are-bits ws vs)

pub tagged-of-again : (values lengths bytes : List ℕ) (comps : ℕ) → 0 < length values → 0 < length lengths → length lengths ≤ MAX_VALUES → length lengths ≡ length values / comps
    → ((k : ℕ) → get_or lengths k 0 ≤ 32) → HasWidths (widths comps lengths) values
    → bytes ≡ tagged_of lengths comps values → length bytes < 2 ^ 64 → Spells (block_at (length values) comps) bytes values
unfolding tagged_of coded_bytes
tagged-of-again values lengths bytes comps some groups few count most fit is short =
    let counts : List ℕ = counts_of lengths in
    let bits : ℕ = precision 5 in
    let probs : List ℕ = normal counts bits in
    let table : HasTable counts bits = tagged-of-table lengths counts bits refl refl groups few most in
    let whole : sum probs ≡ 2 ^ bits = normal-sum counts bits table in
    let len : length probs ≡ length counts = normal-length counts bits in
    let room : 2 ^ bits ≤ 2 ^ 20 = omega arith in
    let text : List ℕ = table_bytes probs in
    let spells : Spells (table_at bits) text probs = table_at-Spells bits probs (omega (arith, len, table.some)) (omega (arith, len, table.few)) (omega (arith, whole, room)) whole in
    let coded : List ℕ = all_spelled 4 (2 ^ bits) (map (interval_of probs) lengths) in
    let number : List ℕ = spelling 10 (length coded) in
    let good : IsCoded bits probs lengths coded = is-coded bits probs lengths (omega arith) whole (used-positive lengths counts probs refl (λ s. normal-positive counts bits s)) in
    let ws : List ℕ = widths comps lengths in
    let put : List ℕ = value_bits ws values in
    let last : List ℕ = packed put in
    let again = packed-again put (are-bits ws values) in
    let gives : next_symbols (length values / comps) bits probs good.state ≡ lengths = ap (λ n. next_symbols n bits probs good.state) (sym count) ∙ good.gives in
    let reads : (rest : List ℕ) (long short : ℕ) → values_in_groups long short ws (bits_of (last ++ rest)) ≡ Ok values =
    λ rest long short. ap (values_in_groups long short ws) (bits_of-append last rest ∙ ap (λ xs. xs ++ bits_of rest) again.1 ∙ append_assoc put again.0 (bits_of rest))
    ∙ values_in-bits long short ws values (again.0 ++ bits_of rest) fit in
    let taken : bytes_for (sum ws) ≡ length last = ap bytes_for (sym (length-value_bits ws values fit)) ∙ sym (length-packed put) in
    let size : length bytes ≡ 1 + (length text + (length number + length coded)) + length last =
    ap length is ∙ (let a = length-append text (number ++ coded) in let b = length-append number coded in let d = length-append (0 ∷ text ++ (number ++ coded)) last in omega (arith, a, b, d)) in
    subst (λ xs. Spells (block_at (length values) comps) xs values) (sym is) (record {
      reads = λ place rest.
          ap (λ xs. block_at (length values) comps (reading place xs))
          (append_assoc (0 ∷ text ++ (number ++ coded)) last rest ∙ append_assoc (0 ∷ text) (number ++ coded) (last ++ rest) ∙ ap (λ xs. 0 ∷ (text ++ xs)) (append_assoc number coded (last ++ rest)))
          ∙ tagged-reads (length values) comps place probs lengths values coded text last rest good.state some spells (omega (arith, size, short)) good.starts gives (reads rest) taken
          ∙ ap (λ n. Ok (values, reading n rest)) (
          let e : length bytes ≡ length ((0 ∷ text ++ (number ++ coded)) ++ last) = ap length is in
          let f : place + 1 + length text + length number + length coded + length last ≡ place + length ((0 ∷ text ++ (number ++ coded)) ++ last) = omega (arith, size, e) in f);
    })
