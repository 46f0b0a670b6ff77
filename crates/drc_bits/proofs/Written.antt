-- What was written is read again, whatever follows.
use Rattle.std.proofs.Common.{◌≡◌, ℕ, ◌+◌, ◌^◌, ◌<◌, ◌≤◌, List, [], ◌∷◌, ◌++◌, length, Ok, refl, ap, ◌∙◌, arith, le-ltb}
use Rattle.std.proofs.lemmas.Bool.{cond-false}
use Rattle.std.proofs.lemmas.List.{take_at, drop_at, length-append}
use Rattle.drc_base.specs.Steps.{◌>>=◌}
use Rattle.drc_bits.specs.Reading.{Reading, advanced, bytes_at}
use Rattle.drc_bits.specs.Numbers.{little_endian, number_at}
use Rattle.drc_bits.specs.Varint.{varint, var32_at, var64_at, as_item, spelling}
use Rattle.drc_bits.proofs.Groups.{varint-spelling}

-- a place in these bytes
abbrev pub reading : ℕ → List ℕ → Reading
reading place rest = record { place = place; rest = rest }

pub advanced-front : (place : ℕ) (xs rest : List ℕ) → advanced (length xs) (reading place (xs ++ rest)) ≡ reading (place + length xs) rest
advanced-front place xs rest = ap (reading (place + length xs)) (drop_at xs rest (length xs) refl)

pub bytes_at-front : (place : ℕ) (xs rest : List ℕ) → bytes_at (length xs) (reading place (xs ++ rest)) ≡ Ok (xs, reading (place + length xs) rest)
bytes_at-front place xs rest =
    let l : length xs ≤ length (xs ++ rest) = omega (arith, length-append xs rest) in
    cond-false _ _ _ (le-ltb (length (xs ++ rest)) (length xs) l)
    ∙ rw (take_at xs rest (length xs) refl, advanced-front place xs rest) refl

pub number_at-byte : (place b : ℕ) (rest : List ℕ) → number_at 1 (reading place (b ∷ rest)) ≡ Ok (b, reading (place + 1) rest)
number_at-byte place b rest =
    let h : bytes_at 1 (reading place (b ∷ rest)) ≡ Ok (b ∷ [], reading (place + 1) rest) = bytes_at-front place (b ∷ []) rest in
    ap (λ x. x >>= λ y. Ok (little_endian y.0, y.1)) h ∙ ap (λ (n : ℕ). Ok (n, reading (place + 1) rest)) (omega arith)

pub var32_at-front : (place v : ℕ) (xs rest : List ℕ) → varint 5 (2 ^ 32) (xs ++ rest) ≡ Ok (v, length xs) →
    var32_at (reading place (xs ++ rest)) ≡ Ok (v, reading (place + length xs) rest)
var32_at-front place v xs rest e = ap (as_item (reading place (xs ++ rest))) e ∙ rw (advanced-front place xs rest) refl

pub var64_at-front : (place v : ℕ) (xs rest : List ℕ) → varint 10 (2 ^ 64) (xs ++ rest) ≡ Ok (v, length xs) →
    var64_at (reading place (xs ++ rest)) ≡ Ok (v, reading (place + length xs) rest)
var64_at-front place v xs rest e = ap (as_item (reading place (xs ++ rest))) e ∙ rw (advanced-front place xs rest) refl

-- the shortest varints are read again
pub var32_at-spelling : (place v : ℕ) (rest : List ℕ) → v < 2 ^ 32 → var32_at (reading place (spelling 5 v ++ rest)) ≡ Ok (v, reading (place + length (spelling 5 v)) rest)
var32_at-spelling place v rest h = var32_at-front place v (spelling 5 v) rest (varint-spelling 4 (2 ^ 32) v rest (omega arith) h)

pub var64_at-spelling : (place v : ℕ) (rest : List ℕ) → v < 2 ^ 64 → var64_at (reading place (spelling 10 v ++ rest)) ≡ Ok (v, reading (place + length (spelling 10 v)) rest)
var64_at-spelling place v rest h = var64_at-front place v (spelling 10 v) rest (varint-spelling 9 (2 ^ 64) v rest (omega arith) h)
