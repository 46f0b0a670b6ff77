-- Items that are read back from their bytes: numbers, tests, and one item after another.
use Rattle.std.proofs.Common.{◌≡◌, ℕ, zero, suc, ◌+◌, ◌*◌, ◌/◌, ◌^◌, ◌<◌, Bool, true, false, ℤ, pos, negsuc, FitsSigned, List, [], ◌∷◌, ◌++◌, length, take, drop, Ok, nat_lt, refl, sym, ◌∙◌, ap, subst, append_assoc, length-append, arith, map, flat_map}
use Rattle.std.specs.Int.{w32, cast_signed, cast_unsigned}
use Rattle.std.specs.List.{All}
use Rattle.std.proofs.lemmas.Int.{to_z-of_z}
use Rattle.std.proofs.lemmas.List.{take_at, drop_at}
use Rattle.std.proofs.lemmas.List.Elements.{All-head, All-tail}
use Rattle.drc_base.specs.declared.kinds.Kind.{Kind}
use Rattle.drc_base.specs.Steps.{◌>>=◌}
use Rattle.drc_bits.specs.Reading.{Reading, Item, must, many_at, bytes_at}
use Rattle.drc_bits.specs.Numbers.{number_at, signed_at, little_endian}
use Rattle.drc_bits.specs.Bits.{low_bytes}
use Rattle.drc_bits.specs.Varint.{var32_at, var64_at, spelling}
use Rattle.drc_bits.specs.Spells.{Spells}
use Rattle.drc_bits.proofs.Groups.{varint-spelling}

-- the reading behind these bytes
abbrev pub behind_bytes : ℕ → List ℕ → List ℕ → Reading
behind_bytes place bytes rest = record { place = place + length bytes; rest = rest }

-- nothing is read
pub Spells-none : {A : Type 0} (x : A) → Spells (λ c. Ok (x, c)) [] x
Spells-none {A} x = record { reads = λ place rest. ap (λ n. Ok (x, record { place = n; rest = rest })) (let e : place ≡ place + 0 = omega arith in e) }

-- one item, then what follows it
pub Spells-then : {A B : Type 0} (item : Reading → Item A) (next : A → Reading → Item B) (a b : List ℕ) (x : A) (y : B)
    → Spells item a x → Spells (next x) b y → Spells (λ c. item c >>= λ r. next r.0 r.1) (a ++ b) y
Spells-then item next a b x y first second = record {
  reads = λ place rest.
      ap (λ bytes. item (record { place = place; rest = bytes }) >>= λ r. next r.0 r.1) (append_assoc a b rest)
      ∙ ap (λ r. r >>= λ r. next r.0 r.1) (first.reads place (b ++ rest))
      ∙ second.reads (place + length a) rest
      ∙ ap (λ n. Ok (y, record { place = n; rest = rest })) (let e : place + length a + length b ≡ place + length (a ++ b) = omega (arith, length-append a b) in e);
}

-- an item that is stated differently
pub Spells-same : {A : Type 0} (item same : Reading → Item A) (bytes : List ℕ) (x : A) → ((c : Reading) → same c ≡ item c) → Spells item bytes x → Spells same bytes x
Spells-same item same bytes x is spells = record { reads = λ place rest. is (record { place = place; rest = bytes ++ rest }) ∙ spells.reads place rest }

-- a value that passes its test
pub Spells-must : {A : Type 0} (kind : Kind) (test : A → Bool) (item : Reading → Item A) (bytes : List ℕ) (x : A)
    → test x ≡ true → Spells item bytes x → Spells (must kind test item) bytes x
Spells-must kind test item bytes x passes spells = record { reads = λ place rest. rw (spells.reads place rest, passes) refl }

-- a value that is changed after it is read
pub Spells-map : {A B : Type 0} (f : A → B) (item : Reading → Item A) (bytes : List ℕ) (x : A) → Spells item bytes x
    → Spells (λ c. item c >>= λ r. Ok (f r.0, r.1)) bytes (f x)
Spells-map f item bytes x spells = record { reads = λ place rest. rw (spells.reads place rest) refl }

-- n bytes
pub Spells-bytes : (bytes : List ℕ) → Spells (bytes_at (length bytes)) bytes bytes
Spells-bytes bytes = record {
  reads = λ place rest.
      let enough : nat_lt (length (bytes ++ rest)) (length bytes) ≡ false = grind (arith, length-append bytes rest) in
      let front : take (length bytes) (bytes ++ rest) ≡ bytes = take_at bytes rest (length bytes) refl in
      let back : drop (length bytes) (bytes ++ rest) ≡ rest = drop_at bytes rest (length bytes) refl in
      rw (enough, front, back) refl;
}

-- a number of n bytes
pub Spells-number : (n : ℕ) (bytes : List ℕ) → length bytes ≡ n → Spells (number_at n) bytes (little_endian bytes)
Spells-number n bytes len = record {
  reads = λ place rest.
      ap (λ m. number_at m (record { place = place; rest = bytes ++ rest })) (sym len)
      ∙ rw ((Spells-bytes bytes).reads place rest) refl;
}

length-low_bytes : (n v : ℕ) → length (low_bytes n v) ≡ n
length-low_bytes zero v = refl
length-low_bytes (suc n) v = omega (arith, length-low_bytes n (v / 256))

little_endian-low_bytes : (n v : ℕ) → v < 256 ^ n → little_endian (low_bytes n v) ≡ v
little_endian-low_bytes zero v fits = omega (arith, fits)
little_endian-low_bytes (suc n) v fits = omega (arith, little_endian-low_bytes n (v / 256) (omega (arith, fits)))

-- a number in its n low bytes
pub Spells-low_bytes : (n v : ℕ) → v < 256 ^ n → Spells (number_at n) (low_bytes n v) v
Spells-low_bytes n v fits =
    subst (λ x. Spells (number_at n) (low_bytes n v) x) (little_endian-low_bytes n v fits) (Spells-number n (low_bytes n v) (length-low_bytes n v))

-- a signed number of 32 bits
pub Spells-signed : (x : ℤ) → FitsSigned w32 x → Spells signed_at (low_bytes 4 (cast_unsigned w32 x)) x
Spells-signed x fits =
    let few : cast_unsigned w32 x < 256 ^ 4 = unsigned_small x fits in
    subst (λ y. Spells signed_at (low_bytes 4 (cast_unsigned w32 x)) y) (to_z-of_z w32 x fits)
    (Spells-map (λ n. cast_signed w32 n) (number_at 4) (low_bytes 4 (cast_unsigned w32 x)) (cast_unsigned w32 x) (Spells-low_bytes 4 (cast_unsigned w32 x) few))
  where
    unsigned_small : (x : ℤ) → FitsSigned w32 x → cast_unsigned w32 x < 256 ^ 4
    unsigned_small (pos n) fits = omega (arith, fits.sfits)
    unsigned_small (negsuc n) fits = omega arith

-- one byte
pub Spells-byte : (b : ℕ) → Spells (number_at 1) (b ∷ []) b
Spells-byte b = record {
  reads = λ place rest.
      (Spells-number 1 (b ∷ []) refl).reads place rest
      ∙ ap (λ v. Ok (v, behind_bytes place (b ∷ []) rest)) (let e : b + 256 * 0 ≡ b = omega arith in e);
}

-- a varint of 32 bits
pub Spells-var32 : (v : ℕ) → v < 2 ^ 32 → Spells var32_at (spelling 5 v) v
Spells-var32 v fits = record {
  reads = λ place rest.
      rw (varint-spelling 4 (2 ^ 32) v rest (omega arith) fits)
      (ap (λ after. Ok (v, record { place = place + length (spelling 5 v); rest = after })) (drop_at (spelling 5 v) rest (length (spelling 5 v)) refl));
}

-- a varint of 64 bits
pub Spells-var64 : (v : ℕ) → v < 2 ^ 64 → Spells var64_at (spelling 10 v) v
Spells-var64 v fits = record {
  reads = λ place rest.
      rw (varint-spelling 9 (2 ^ 64) v rest (omega arith) fits)
      (ap (λ after. Ok (v, record { place = place + length (spelling 10 v); rest = after })) (drop_at (spelling 10 v) rest (length (spelling 10 v)) refl));
}

-- several items of one kind
pub Spells-many : {A B : Type 0} (item : Reading → Item A) (bytes : B → List ℕ) (value : B → A) (xs : List B)
    → ((x : B) → Spells item (bytes x) (value x)) → Spells (many_at item (length xs)) (flat_map bytes xs) (map value xs)
unfolding many_at
Spells-many item bytes value [] each = Spells-none []
Spells-many {A} item bytes value (x ∷ xs) each =
    Spells-then item (λ v c. many_at item (length xs) c >>= λ vs. Ok (v ∷ vs.0, vs.1)) (bytes x) (flat_map bytes xs) (value x) (value x ∷ map value xs) (each x)
    (record { reads = λ place rest. rw ((Spells-many item bytes value xs each).reads place rest) refl })

-- several items of one kind, each of which is read back
pub Spells-all : {A B : Type 0} (item : Reading → Item A) (bytes : B → List ℕ) (value : B → A) (xs : List B)
    → All (λ x. Spells item (bytes x) (value x)) xs → Spells (many_at item (length xs)) (flat_map bytes xs) (map value xs)
unfolding many_at
Spells-all item bytes value [] each = Spells-none []
Spells-all item bytes value (x ∷ xs) each =
    Spells-then item (λ v c. many_at item (length xs) c >>= λ vs. Ok (v ∷ vs.0, vs.1)) (bytes x) (flat_map bytes xs) (value x) (value x ∷ map value xs)
    (All-head (λ x. Spells item (bytes x) (value x)) x xs each)
    (Spells-map (λ vs. value x ∷ vs) (many_at item (length xs)) (flat_map bytes xs) (map value xs)
    (Spells-all item bytes value xs (All-tail (λ x. Spells item (bytes x) (value x)) x xs each)))
