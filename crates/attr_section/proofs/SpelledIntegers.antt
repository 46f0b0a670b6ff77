-- Integers that are read back from their bytes.
use Rattle.std.proofs.Common.{◌≡◌, ℕ, zero, suc, ◌+◌, ◌-◌, ◌*◌, ◌/◌, ◌%◌, ◌^◌, ◌<◌, ◌≤◌, ◌==◌, ◌&&◌, max, Bool, true, false, ℤ, pos, negsuc, ◌-ℤ◌, ◌≤ℤ◌, FitsSigned, List, [], ◌∷◌, ◌++◌, length, map, flat_map, nat_lt, nat_le, int_le, int_lt, if◌then◌else◌, Ok, refl, ◌∙◌, ap, subst, inl, inr, append_assoc, length-append, arith}
use Rattle.std.specs.Int.{w32, cast_unsigned, cast_signed, int_min, int_max}
use Rattle.std.specs.List.{All, fold}
use Rattle.std.proofs.lemmas.Bool.{cases_lt}
use Rattle.std.proofs.lemmas.Int.{ints, to_z-of_z, fold-int_min_bounds, fold-int_max_bounds}
use Rattle.std.proofs.lemmas.List.{length-map}
use Rattle.std.proofs.lemmas.List.Elements.{All-head, All-tail, All-cons, All-weaker, All-nil}
use Rattle.drc_base.specs.declared.kinds.Kind.TheVariants as kind
use Rattle.drc_base.specs.Steps.{◌>>=◌}
use Rattle.drc_bits.specs.Reading.{Reading, Item, many_at}
use Rattle.drc_bits.specs.Numbers.{number_at, signed_at, little_endian}
use Rattle.drc_bits.specs.Bits.{low_bytes}
use Rattle.drc_bits.specs.Spells.{Spells}
use Rattle.drc_bits.proofs.Spelled.{Spells-none, Spells-then, Spells-must, Spells-number, Spells-byte}
use Rattle.predict.specs.Wrap.{Range, CanWrap}
use Rattle.predict.specs.Restored.{corrections}
use Rattle.predict.proofs.Restoring.{length-corrections}
use Rattle.symbol_coding.specs.Block.{block_at, block_bytes}
use Rattle.attr_section.specs.Values.{signed_of, plain_value_at, byte_width_at, plain_values_at, compressed_values_at, integers_at, can_wrap, range_at}
use Rattle.predict.specs.Symbols.{zigzag_of}
use Rattle.attr_section.specs.WrittenParts.{greatest_symbol, byte_width, plain_bytes, symbols_bytes, integers_bytes, range_of, signed_bytes, range_bytes}
use Rattle.attr_section.proofs.Spelling.{Spells-map}

-- a symbol gives its integer back
pub signed_of-symbol_of : (x : ℤ) → signed_of (zigzag_of x) ≡ x
signed_of-symbol_of (pos n) =
    let even : (2 * n) % 2 ≡ 0 = omega arith in
    let half : (2 * n) / 2 ≡ n = omega arith in
    rw (even, half) refl
signed_of-symbol_of (negsuc n) =
    let odd : (2 * n + 1) % 2 ≡ 1 = omega arith in
    let half : (2 * n + 1) / 2 ≡ n = omega arith in
    rw (odd, half) refl

pub signed_of-symbols : (values : List ℤ) → map signed_of (map zigzag_of values) ≡ values
signed_of-symbols [] = refl
signed_of-symbols (x ∷ values) = rw (signed_of-symbol_of x, signed_of-symbols values) refl

length-low_bytes : (n v : ℕ) → length (low_bytes n v) ≡ n
length-low_bytes zero v = refl
length-low_bytes (suc n) v = omega (arith, length-low_bytes n (v / 256))

little_endian-low_bytes : (n v : ℕ) → v < 256 ^ n → little_endian (low_bytes n v) ≡ v
little_endian-low_bytes zero v fits = omega (arith, fits)
little_endian-low_bytes (suc n) v fits = omega (arith, little_endian-low_bytes n (v / 256) (omega (arith, fits)))

pub Spells-low_bytes : (n v : ℕ) → v < 256 ^ n → Spells (number_at n) (low_bytes n v) v
Spells-low_bytes n v fits =
    subst (λ x. Spells (number_at n) (low_bytes n v) x) (little_endian-low_bytes n v fits) (Spells-number n (low_bytes n v) (length-low_bytes n v))

-- the greatest is at least the first and each
greatest-bounds : (a : ℕ) (xs : List ℕ) → (a ≤ fold max a xs) × All (λ x. x ≤ fold max a xs) xs
greatest-bounds a [] = (omega arith, All-nil (λ x. x ≤ a))
greatest-bounds a (x ∷ xs) =
    let h = greatest-bounds (max a x) xs in
    (omega (arith, h.0), All-cons (λ y. y ≤ fold max (max a x) xs) x xs (omega (arith, h.0)) h.1)

width_fits : (s g : ℕ) → s ≤ g → g < 2 ^ 32 → s < 256 ^ byte_width g
width_fits s g below fits = elim (cases_lt g 256) [
  | inl a ↦ let t : nat_lt g 256 ≡ true = grind (arith, a) in rw t (omega arith)
  | inr a ↦ let t : nat_lt g 256 ≡ false = grind (arith, a) in rw t (elim (cases_lt g 65536) [
    | inl b ↦ let u : nat_lt g 65536 ≡ true = grind (arith, b) in rw u (omega arith)
    | inr b ↦ let u : nat_lt g 65536 ≡ false = grind (arith, b) in rw u (elim (cases_lt g 16777216) [
      | inl c ↦ let v : nat_lt g 16777216 ≡ true = grind (arith, c) in rw v (omega arith)
      | inr c ↦ let v : nat_lt g 16777216 ≡ false = grind (arith, c) in rw v (omega arith)
    ])
  ])
]

greatest-fits : (a m : ℕ) (xs : List ℕ) → a < m → All (λ x. x < m) xs → fold max a xs < m
greatest-fits a m [] first all = first
greatest-fits a m (x ∷ xs) first all =
    let here : x < m = All-head (λ y. y < m) x xs all in
    greatest-fits (max a x) m xs (omega arith) (All-tail (λ y. y < m) x xs all)

-- several items of one kind, each of which is read back
pub Spells-all : {A B : Type 0} (item : Reading → Item A) (bytes : B → List ℕ) (value : B → A) (xs : List B)
    → All (λ x. Spells item (bytes x) (value x)) xs → Spells (many_at item (length xs)) (flat_map bytes xs) (map value xs)
unfolding many_at
Spells-all item bytes value [] each = Spells-none []
Spells-all item bytes value (x ∷ xs) each =
    Spells-then item (λ v c. many_at item (length xs) c >>= λ vs. Ok (v ∷ vs.0, vs.1)) (bytes x) (flat_map bytes xs) (value x) (value x ∷ map value xs)
    (All-head (λ x. Spells item (bytes x) (value x)) x xs each)
    (Spells-map (λ vs. value x ∷ vs) (many_at item (length xs)) (flat_map bytes xs) (map value xs)
    (Spells-all item bytes value xs (All-tail (λ x. Spells item (bytes x) (value x)) x xs each)))

-- symbols as they are
Spells-plain : (symbols : List ℕ) → All (λ s. s < 2 ^ 32) symbols → Spells (plain_values_at (length symbols)) (plain_bytes symbols) (map signed_of symbols)
unfolding plain_values_at plain_bytes plain_value_at byte_width_at
Spells-plain symbols fit =
    let g = greatest_symbol symbols in
    let w = byte_width g in
    let fits : g < 2 ^ 32 = greatest-fits 0 (2 ^ 32) symbols (omega arith) fit in
    let width : (nat_le 1 w && nat_le w 4) ≡ true = width_passes g in
    Spells-then byte_width_at (λ v c. many_at (plain_value_at v) (length symbols) c) (w ∷ []) (flat_map (low_bytes w) symbols) w (map signed_of symbols)
    (Spells-must kind.ByteWidth (λ w. nat_le 1 w && nat_le w 4) (number_at 1) (w ∷ []) w width (Spells-byte w))
    (Spells-all (plain_value_at w) (low_bytes w) signed_of symbols
    (All-weaker (λ s. s ≤ g) (λ s. Spells (plain_value_at w) (low_bytes w s) (signed_of s))
    (λ s below. Spells-map signed_of (number_at w) (low_bytes w s) s (Spells-low_bytes w s (width_fits s g below fits)))
    symbols (greatest-bounds 0 symbols).1))
  where
    width_passes : (g : ℕ) → (nat_le 1 (byte_width g) && nat_le (byte_width g) 4) ≡ true
    width_passes g = elim (nat_lt g 256) as (λ t. (nat_le 1 (if t then 1 else (if nat_lt g 65536 then 2 else (if nat_lt g 16777216 then 3 else 4))) && nat_le (if t then 1 else (if nat_lt g 65536 then 2 else (if nat_lt g 16777216 then 3 else 4))) 4) ≡ true) [
      | true ↦ refl
      | false ↦ elim (nat_lt g 65536) as (λ t. (nat_le 1 (if t then 2 else (if nat_lt g 16777216 then 3 else 4)) && nat_le (if t then 2 else (if nat_lt g 16777216 then 3 else 4)) 4) ≡ true) [
        | true ↦ refl
        | false ↦ elim (nat_lt g 16777216) as (λ t. (nat_le 1 (if t then 3 else 4) && nat_le (if t then 3 else 4) 4) ≡ true) [ true ↦ refl | false ↦ refl ]
      ]
    ]

-- symbols as they are, behind the byte that says so
pub Spells-plain_symbols : (comps : ℕ) (symbols : List ℕ) → All (λ s. s < 2 ^ 32) symbols
    → Spells (integers_at comps (length symbols)) (symbols_bytes true comps symbols) (map signed_of symbols)
unfolding integers_at
Spells-plain_symbols comps symbols fit =
    Spells-then (number_at 1) (λ k c. if k == 0 then plain_values_at (length symbols) c else compressed_values_at comps (length symbols) c)
    (0 ∷ []) (plain_bytes symbols) 0 (map signed_of symbols) (Spells-byte 0) (Spells-plain symbols fit)

-- symbols in a block, behind the byte that says so
pub Spells-compressed_symbols : (comps : ℕ) (symbols : List ℕ) → Spells (block_at (length symbols) comps) (block_bytes symbols comps) symbols
    → Spells (integers_at comps (length symbols)) (symbols_bytes false comps symbols) (map signed_of symbols)
unfolding integers_at compressed_values_at
Spells-compressed_symbols comps symbols block =
    Spells-then (number_at 1) (λ k c. if k == 0 then plain_values_at (length symbols) c else compressed_values_at comps (length symbols) c)
    (1 ∷ []) (block_bytes symbols comps) 1 (map signed_of symbols) (Spells-byte 1)
    (Spells-map (λ s. map signed_of s) (block_at (length symbols) comps) (block_bytes symbols comps) symbols block)

-- the symbols of integers are read back as the integers
pub Spells-integers : (plain : Bool) (comps : ℕ) (values : List ℤ)
    → Spells (integers_at comps (length (map zigzag_of values))) (symbols_bytes plain comps (map zigzag_of values)) (map signed_of (map zigzag_of values))
    → Spells (integers_at comps (length values)) (integers_bytes plain comps values) values
unfolding integers_bytes
Spells-integers plain comps values spells =
    subst (λ n. Spells (integers_at comps n) (symbols_bytes plain comps (map zigzag_of values)) values) (length-map values zigzag_of)
    (subst (λ vs. Spells (integers_at comps (length (map zigzag_of values))) (symbols_bytes plain comps (map zigzag_of values)) vs) (signed_of-symbols values) spells)

-- a signed number of 32 bits
pub Spells-signed : (x : ℤ) → FitsSigned w32 x → Spells signed_at (signed_bytes x) x
Spells-signed x fits =
    let small : cast_unsigned w32 x < 256 ^ 4 = unsigned_small x fits in
    subst (λ y. Spells signed_at (signed_bytes x) y) (to_z-of_z w32 x fits)
    (Spells-map (λ n. cast_signed w32 n) (number_at 4) (signed_bytes x) (cast_unsigned w32 x) (Spells-low_bytes 4 (cast_unsigned w32 x) small))
  where
    unsigned_small : (x : ℤ) → FitsSigned w32 x → cast_unsigned w32 x < 256 ^ 4
    unsigned_small (pos n) fits = omega (arith, fits.sfits)
    unsigned_small (negsuc n) fits = omega arith

-- a range in which corrections can wrap
pub Spells-range : (r : Range) → CanWrap r → FitsSigned w32 r.low → FitsSigned w32 r.high → Spells range_at (range_bytes r) r
unfolding range_at
Spells-range r can low high =
    let passes : can_wrap r ≡ true = wraps r can in
    record {
      reads = λ place rest.
          let first = (Spells-signed r.low low).reads place (signed_bytes r.high ++ rest) in
          let second = (Spells-signed r.high high).reads (place + length (signed_bytes r.low)) rest in
          let after : place + length (signed_bytes r.low) + length (signed_bytes r.high) ≡ place + length (range_bytes r) = omega (arith, length-append (signed_bytes r.low) (signed_bytes r.high)) in
          ap (λ bytes. range_at (record { place = place; rest = bytes })) (append_assoc (signed_bytes r.low) (signed_bytes r.high) rest)
          ∙ rw (first, second, passes, after) refl;
    }
  where
    wraps : (r : Range) → CanWrap r → can_wrap r ≡ true
    wraps r can =
        let first : int_le r.low r.high ≡ true = grind (arith, ints, can.ordered) in
        let second : int_lt (r.high -ℤ r.low) (pos (2 ^ 31 - 1)) ≡ true = grind (arith, ints, can.narrow) in
        rw (first, second) refl

-- the corrections of values by a prediction, as many as the values
pub Spells-corrections : (plain : Bool) (comps : ℕ) (f : List ℤ → ℤ) (values : List ℤ)
    → Spells (integers_at comps (length (corrections f (range_of values) values))) (integers_bytes plain comps (corrections f (range_of values) values)) (corrections f (range_of values) values)
    → Spells (integers_at comps (length values)) (integers_bytes plain comps (corrections f (range_of values) values)) (corrections f (range_of values) values)
Spells-corrections plain comps f values integers =
    let r = range_of values in
    subst (λ n. Spells (integers_at comps n) (integers_bytes plain comps (corrections f r values)) (corrections f r values)) (length-corrections f r values) integers

-- values lie in their range
pub range_of-bounds : (values : List ℤ) → All (λ x. ((range_of values).low ≤ℤ x) × (x ≤ℤ (range_of values).high)) values
range_of-bounds [] = All-nil (λ x. (pos 0 ≤ℤ x) × (x ≤ℤ pos 0))
range_of-bounds (v ∷ values) =
    let low = fold-int_min_bounds v values (fold int_min v values) refl in
    let high = fold-int_max_bounds v values (fold int_max v values) refl in
    All-cons (λ x. (fold int_min v values ≤ℤ x) × (x ≤ℤ fold int_max v values)) v values (low.0, high.0) (λ k d h. (low.1 k d h, high.1 k d h))

fits_between : (low high x : ℤ) → FitsSigned w32 low → FitsSigned w32 high → low ≤ℤ x → x ≤ℤ high → FitsSigned w32 x
fits_between low high x low_fits high_fits above below = search (arith, ints)

-- values between two numbers of 32 bits have 32 bits
pub fits_within : (low high : ℤ) (values : List ℤ) → FitsSigned w32 low → FitsSigned w32 high → All (λ x. (low ≤ℤ x) × (x ≤ℤ high)) values
    → All (FitsSigned w32) values
fits_within low high values low_fits high_fits within =
    All-weaker (λ x. (low ≤ℤ x) × (x ≤ℤ high)) (FitsSigned w32) (λ x h. fits_between low high x low_fits high_fits h.0 h.1) values within
