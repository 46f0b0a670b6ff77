-- A written block is read again, whatever follows it.
use Rattle.std.proofs.Common.{◌≡◌, ℕ, suc, ◌+◌, ◌*◌, ◌/◌, ◌%◌, ◌^◌, ◌<◌, ◌≤◌, nat_lt, nat_le, Bool, true, ◌&&◌, All, List, [], ◌∷◌, ◌++◌, length, map, sum, get_or, Ok, Some, sym, refl, ap, ◌∙◌, subst, arith, append_assoc, le-leb, ne_eqb, length-append, pow_mono}
use Rattle.std.proofs.lemmas.Bool.{cond-false}
use Rattle.std.proofs.lemmas.List.{get_or-map, length-map}
use Rattle.drc_base.specs.declared.kinds.Kind.TheVariants as kind
use Rattle.drc_base.specs.declared.limits.TheConstants.{MAX_VALUES}
use Rattle.drc_bits.specs.Reading.{must}
use Rattle.drc_bits.specs.Numbers.{number_at}
use Rattle.drc_bits.specs.Varint.{spelling}
use Rattle.drc_bits.specs.Spells.{Spells}
use Rattle.drc_bits.specs.Bits.{AreBits, bits_of, bytes_for, low_bits, packed}
use Rattle.drc_bits.proofs.Written.{reading, advanced-front, bytes_at-front, number_at-byte, var64_at-spelling}
use Rattle.drc_bits.proofs.BitLists.{bits_of-append}
use Rattle.drc_bits.proofs.PackedBits.{AreBits-append, AreBits-low_bits, length-packed, packed-again}
use Rattle.rans_core.specs.Coder.{CoderState, Fits, Pulled, all_spelled, started}
use Rattle.rans_core.proofs.Closing.{all_spelled-Unpacks}
use Rattle.symbol_tables.specs.Tables.{table_at, table_bytes}
use Rattle.symbol_tables.specs.Normal.{HasTable, greatest_count, normal}
use Rattle.symbol_tables.proofs.Symbols.{symbol_of-is}
use Rattle.symbol_tables.proofs.Sharing.{normal-length, normal-positive, normal-sum}
use Rattle.symbol_tables.proofs.Spelling.{table_at-Spells}
use Rattle.symbol_coding.specs.Symbols.{coded_at, coded_bytes, counts_of, full, interval_of, refilled_symbol, next_symbols}
use Rattle.symbol_coding.specs.Block.{HasWidths, block_at, lengths_of, precision, raw_at, raw_bytes, raw_length, tagged_at, tagged_bytes, value_bits, values_in_groups, widths}
use Rattle.symbol_coding.proofs.Slots.{within}
use Rattle.symbol_coding.proofs.Tables.{positive-below, raw-table, tagged-table, used-positive}
use Rattle.symbol_coding.proofs.Widths.{length-value_bits, length-lengths_of, values_in-bits, widths-fit}

-- ---- coded symbols

-- what is pulled as these symbols are the next symbols
pub symbols-again : (bits : ℕ) (probs symbols : List ℕ) (s : CoderState) → ((k : ℕ) → k < length symbols → 0 < get_or probs (get_or symbols k 0) 0)
    → Pulled 4 (2 ^ bits) s (map (interval_of probs) symbols) → next_symbols (length symbols) bits probs s ≡ symbols
unfolding next_symbols
symbols-again bits probs [] s positive pulls = refl
symbols-again bits probs (v ∷ vs) s positive pulls =
    let below : v < length probs = positive-below probs v (positive 0 (omega arith)) in
    let is : refilled_symbol bits probs s ≡ v = symbol_of-is probs ((full bits s).number % 2 ^ bits) v (below, pulls.0.0, pulls.0.1) in
    rw (is) (ap (λ xs. v ∷ xs) (symbols-again bits probs vs _ (λ k h. positive (suc k) (omega (arith, h))) pulls.1))

-- the slots of symbols that have some
pub slots-fit : (bits : ℕ) (probs symbols : List ℕ) → sum probs ≡ 2 ^ bits → ((k : ℕ) → k < length symbols → 0 < get_or probs (get_or symbols k 0) 0)
    → All (Fits (2 ^ bits)) (map (interval_of probs) symbols)
slots-fit bits probs symbols whole positive = λ k d h.
    let inside : k < length symbols = (let l = length-map symbols (interval_of probs) in omega (arith, h, l)) in
    let e : get_or (map (interval_of probs) symbols) k d ≡ interval_of probs (get_or symbols k 0) = get_or-map (interval_of probs) symbols k 0 d inside in
    let p = positive k inside in
    let w = within probs (get_or symbols k 0) (positive-below probs (get_or symbols k 0) p) in
    rw e (p, omega (arith, w, whole))

-- the coded bytes start, and give the symbols
pub record IsCoded (bits : ℕ) (probs symbols coded : List ℕ) : Type 0 where
  pub state : CoderState
  pub starts : started 4 (4 * 2 ^ bits) coded ≡ Some state
  pub gives : next_symbols (length symbols) bits probs state ≡ symbols

pub is-coded : (bits : ℕ) (probs symbols : List ℕ) → bits ≤ 20 → sum probs ≡ 2 ^ bits → ((k : ℕ) → k < length symbols → 0 < get_or probs (get_or symbols k 0) 0)
    → IsCoded bits probs symbols (all_spelled 4 (2 ^ bits) (map (interval_of probs) symbols))
is-coded bits probs symbols high whole positive =
    let u = all_spelled-Unpacks bits (map (interval_of probs) symbols) high (slots-fit bits probs symbols whole positive) in record {
      state = u.0;
      starts = u.1;
      gives = symbols-again bits probs symbols u.0 positive u.2;
    }

pub coded-reads : (bits place : ℕ) (coded rest : List ℕ) (s : CoderState) → length coded < 2 ^ 64 → started 4 (4 * 2 ^ bits) coded ≡ Some s
    → coded_at bits (reading place (spelling 10 (length coded) ++ (coded ++ rest)))
    ≡ Ok (record { place = place + length (spelling 10 (length coded)); state = s }, reading (place + length (spelling 10 (length coded)) + length coded) rest)
unfolding coded_at
coded-reads bits place coded rest s small starts =
    rw (var64_at-spelling place (length coded) (coded ++ rest) small, bytes_at-front (place + length (spelling 10 (length coded))) coded rest, starts) refl

-- ---- the bits of values

AreBits-value_bits : (ws vs : List ℕ) → AreBits (value_bits ws vs)
AreBits-value_bits [] vs = tt
AreBits-value_bits (w ∷ ws) [] = tt
AreBits-value_bits (w ∷ ws) (v ∷ vs) = AreBits-append (low_bits w v) (value_bits ws vs) (AreBits-low_bits w v) (AreBits-value_bits ws vs)

-- ---- the two schemes

byte-passes : (place b : ℕ) (rest : List ℕ) (test : ℕ → Bool) → test b ≡ true → must kind.Length test (number_at 1) (reading place (b ∷ rest)) ≡ Ok (b, reading (place + 1) rest)
byte-passes place b rest test passes = rw (number_at-byte place b rest, passes) refl

scheme-passes : (place b : ℕ) (rest : List ℕ) → nat_lt b 2 ≡ true → must kind.Scheme (λ s. nat_lt s 2) (number_at 1) (reading place (b ∷ rest)) ≡ Ok (b, reading (place + 1) rest)
scheme-passes place b rest passes = rw (number_at-byte place b rest, passes) refl

length-passes : (l : ℕ) → 1 ≤ l → l ≤ 18 → (nat_le 1 l && nat_le l 18) ≡ true
length-passes l low high = rw (le-leb 1 l low) (le-leb l 18 high)

pub raw-reads : (n comps place length' : ℕ) (probs values coded text rest : List ℕ) (s : CoderState) → 0 < n → 1 ≤ length' → length' ≤ 18
    → Spells (table_at (precision length')) text probs → length coded < 2 ^ 64 → started 4 (4 * 2 ^ precision length') coded ≡ Some s → next_symbols n (precision length') probs s ≡ values
    → block_at n comps (reading place (1 ∷ length' ∷ (text ++ (spelling 10 (length coded) ++ (coded ++ rest)))))
    ≡ Ok (values, reading (place + 1 + 1 + length text + length (spelling 10 (length coded)) + length coded) rest)
unfolding block_at raw_at
raw-reads n comps place length' probs values coded text rest s some low high table small starts gives =
    let more : List ℕ = spelling 10 (length coded) ++ (coded ++ rest) in
    cond-false _ _ _ (ne_eqb n 0 (λ e. absurd (omega (arith, e, some))))
    ∙ rw (
      scheme-passes place 1 (length' ∷ (text ++ more)) refl,
      byte-passes (place + 1) length' (text ++ more) (λ l. nat_le 1 l && nat_le l 18) (length-passes length' low high),
      table.reads (place + 1 + 1) more,
      coded-reads (precision length') (place + 1 + 1 + length text) coded rest s small starts,
      gives,
    ) refl

pub tagged-reads : (n comps place : ℕ) (probs lengths values coded text bits rest : List ℕ) (s : CoderState) → 0 < n
    → Spells (table_at (precision 5)) text probs → length coded < 2 ^ 64 → started 4 (4 * 2 ^ precision 5) coded ≡ Some s → next_symbols (n / comps) (precision 5) probs s ≡ lengths
    → ((long short : ℕ) → values_in_groups long short (widths comps lengths) (bits_of (bits ++ rest)) ≡ Ok values) → bytes_for (sum (widths comps lengths)) ≡ length bits
    → block_at n comps (reading place (0 ∷ (text ++ (spelling 10 (length coded) ++ (coded ++ (bits ++ rest))))))
    ≡ Ok (values, reading (place + 1 + length text + length (spelling 10 (length coded)) + length coded + length bits) rest)
unfolding block_at tagged_at
tagged-reads n comps place probs lengths values coded text bits rest s some table small starts gives reads size =
    let more : List ℕ = spelling 10 (length coded) ++ (coded ++ (bits ++ rest)) in
    cond-false _ _ _ (ne_eqb n 0 (λ e. absurd (omega (arith, e, some))))
    ∙ rw (
      scheme-passes place 0 (text ++ more) refl,
      table.reads (place + 1) more,
      coded-reads (precision 5) (place + 1 + length text) coded (bits ++ rest) s small starts,
      gives,
      reads (place + 1 + length text + length (spelling 10 (length coded))) (place + 1 + length text + length (spelling 10 (length coded)) + length coded),
      size,
      advanced-front (place + 1 + length text + length (spelling 10 (length coded)) + length coded) bits rest,
    ) refl

-- ---- blocks

pub none-again : (values bytes : List ℕ) (comps : ℕ) → length values ≡ 0 → bytes ≡ [] → Spells (block_at (length values) comps) bytes values
unfolding block_at
none-again [] bytes comps none empty = record {
  reads = λ place rest.
      ap (λ xs. Ok ([], reading place (xs ++ rest))) empty ∙ ap (λ n. Ok ([], reading n rest)) (let l : length bytes ≡ 0 = ap length empty in let e : place ≡ place + length bytes = omega (arith, l) in e);
}
none-again (v ∷ vs) bytes comps none empty = absurd (omega (arith, none))

pub raw-again : (values bytes : List ℕ) (comps : ℕ) → 0 < length values → length values ≤ MAX_VALUES → greatest_count values < 2 ^ 18 → bytes ≡ raw_bytes values → length bytes < 2 ^ 64
    → Spells (block_at (length values) comps) bytes values
unfolding raw_bytes coded_bytes
raw-again values bytes comps some few small is short =
    let counts : List ℕ = counts_of values in
    let l : ℕ = raw_length counts in
    let bits : ℕ = precision l in
    let probs : List ℕ = normal counts bits in
    let table : HasTable counts bits = raw-table values counts l bits refl some few small refl refl in
    let whole : sum probs ≡ 2 ^ bits = normal-sum counts bits table in
    let len : length probs ≡ length counts = normal-length counts bits in
    let high : bits ≤ 20 = omega arith in
    let room : 2 ^ bits ≤ 2 ^ 20 = pow_mono {i = bits} {j = 20} high in
    let text : List ℕ = table_bytes probs in
    let spells : Spells (table_at bits) text probs = table_at-Spells bits probs (omega (arith, len, table.some)) (omega (arith, len, table.few)) (omega (arith, whole, room)) whole in
    let coded : List ℕ = all_spelled 4 (2 ^ bits) (map (interval_of probs) values) in
    let number : List ℕ = spelling 10 (length coded) in
    let good : IsCoded bits probs values coded = is-coded bits probs values high whole (used-positive values counts probs refl (λ s. normal-positive counts bits s)) in
    let size : length bytes ≡ 1 + (1 + (length text + (length number + length coded))) =
    ap length is ∙ (let a = length-append text (number ++ coded) in let b = length-append number coded in omega (arith, a, b)) in
    subst (λ xs. Spells (block_at (length values) comps) xs values) (sym is) (record {
      reads = λ place rest.
          ap (λ xs. block_at (length values) comps (reading place (1 ∷ l ∷ xs))) (append_assoc text (number ++ coded) rest ∙ ap (λ xs. text ++ xs) (append_assoc number coded rest))
          ∙ raw-reads (length values) comps place l probs values coded text rest good.state some (omega arith) (omega arith) spells (omega (arith, size, short)) good.starts good.gives
          ∙ ap (λ n. Ok (values, reading n rest)) (
          let e : length bytes ≡ length (1 ∷ l ∷ text ++ (number ++ coded)) = ap length is in
          let f : place + 1 + 1 + length text + length number + length coded ≡ place + length (1 ∷ l ∷ text ++ (number ++ coded)) = omega (arith, size, e) in f);
    })

pub tagged-again : (values bytes : List ℕ) (comps : ℕ) → length values % comps ≡ 0 → 0 < length values → length values ≤ MAX_VALUES → ((k : ℕ) → get_or values k 0 < 2 ^ 32)
    → bytes ≡ tagged_bytes values comps → length bytes < 2 ^ 64 → Spells (block_at (length values) comps) bytes values
unfolding tagged_bytes coded_bytes
tagged-again values bytes comps divides some few each is short =
    let lengths : List ℕ = lengths_of comps values in
    let counts : List ℕ = counts_of lengths in
    let bits : ℕ = precision 5 in
    let probs : List ℕ = normal counts bits in
    let table : HasTable counts bits = tagged-table values lengths counts comps bits refl refl refl divides some few each in
    let whole : sum probs ≡ 2 ^ bits = normal-sum counts bits table in
    let len : length probs ≡ length counts = normal-length counts bits in
    let room : 2 ^ bits ≤ 2 ^ 20 = omega arith in
    let text : List ℕ = table_bytes probs in
    let spells : Spells (table_at bits) text probs = table_at-Spells bits probs (omega (arith, len, table.some)) (omega (arith, len, table.few)) (omega (arith, whole, room)) whole in
    let coded : List ℕ = all_spelled 4 (2 ^ bits) (map (interval_of probs) lengths) in
    let number : List ℕ = spelling 10 (length coded) in
    let good : IsCoded bits probs lengths coded = is-coded bits probs lengths (omega arith) whole (used-positive lengths counts probs refl (λ s. normal-positive counts bits s)) in
    let ws : List ℕ = widths comps lengths in
    let fit : HasWidths ws values = widths-fit values comps divides each in
    let put : List ℕ = value_bits ws values in
    let last : List ℕ = packed put in
    let again = packed-again put (AreBits-value_bits ws values) in
    let gives : next_symbols (length values / comps) bits probs good.state ≡ lengths =
    ap (λ n. next_symbols n bits probs good.state) (sym (length-lengths_of values comps)) ∙ good.gives in
    let reads : (rest : List ℕ) (long short : ℕ) → values_in_groups long short ws (bits_of (last ++ rest)) ≡ Ok values =
    λ rest long short. ap (values_in_groups long short ws) (bits_of-append last rest ∙ ap (λ xs. xs ++ bits_of rest) again.1 ∙ append_assoc put again.0 (bits_of rest))
    ∙ values_in-bits long short ws values (again.0 ++ bits_of rest) fit in
    let taken : bytes_for (sum ws) ≡ length last = ap bytes_for (sym (length-value_bits ws values fit)) ∙ sym (length-packed put) in
    let size : length bytes ≡ 1 + (length text + (length number + length coded)) + length last =
    ap length is ∙ (let a = length-append text (number ++ coded) in let b = length-append number coded in let d = length-append (0 ∷ text ++ (number ++ coded)) last in omega (arith, a, b, d)) in
    subst (λ xs. Spells (block_at (length values) comps) xs values) (sym is) (record {
      reads = λ place rest.
          ap (λ xs. block_at (length values) comps (reading place xs))
          (append_assoc (0 ∷ text ++ (number ++ coded)) last rest ∙ append_assoc (0 ∷ text) (number ++ coded) (last ++ rest) ∙ ap (λ xs. 0 ∷ (text ++ xs)) (append_assoc number coded (last ++ rest)))
          ∙ tagged-reads (length values) comps place probs lengths values coded text last rest good.state some spells (omega (arith, size, short)) good.starts gives (reads rest) taken
          ∙ ap (λ n. Ok (values, reading n rest)) (
          let e : length bytes ≡ length ((0 ∷ text ++ (number ++ coded)) ++ last) = ap length is in
          let f : place + 1 + length text + length number + length coded + length last ≡ place + length ((0 ∷ text ++ (number ++ coded)) ++ last) = omega (arith, size, e) in f);
    })
