-- Worked examples of bits, computed.
use Rattle.std.proofs.Common.{◌≡◌, [], ◌∷◌, ◌+◌, Ok, Err, Some, None, refl}
use Rattle.drc_base.specs.declared.kinds.Kind.TheVariants as kind
use Rattle.drc_base.specs.Steps.{◌>>=◌}
use Rattle.drc_bits.specs.Reading.{start_of, chain_at}
use Rattle.drc_bits.specs.Numbers.{number_at}
use Rattle.drc_bits.specs.Bits.{low_bits, bits_at, bits_of, next_bits, packed}

-- the bits of the bytes 5 and 128
two_bytes : bits_of (5 ∷ 128 ∷ []) ≡ 1 ∷ 0 ∷ 1 ∷ 0 ∷ 0 ∷ 0 ∷ 0 ∷ 0 ∷ 0 ∷ 0 ∷ 0 ∷ 0 ∷ 0 ∷ 0 ∷ 0 ∷ 1 ∷ []
unfolding bits_of low_bits
two_bytes = refl

-- nine bits fill two bytes; the numbers 5, 0 and 300 in nine bits each are the bytes 5 0 176 4
nine_bits : packed (1 ∷ 0 ∷ 0 ∷ 0 ∷ 0 ∷ 0 ∷ 0 ∷ 0 ∷ 1 ∷ []) ≡ 1 ∷ 1 ∷ []
unfolding packed
nine_bits = refl

third : next_bits 9 (record { bytes = 5 ∷ 0 ∷ 176 ∷ 4 ∷ []; taken = 18 }) ≡ Some 300
unfolding bits_of low_bits
third = refl

-- too few bits are left
fourth : next_bits 9 (record { bytes = 5 ∷ 0 ∷ 176 ∷ 4 ∷ []; taken = 27 }) ≡ None
unfolding bits_of low_bits
fourth = refl

-- ten bits end with their second byte; eighteen aren't there
ten_bits : bits_at 10 (start_of (5 ∷ 2 ∷ 7 ∷ [])) ≡ Ok (1 ∷ 0 ∷ 1 ∷ 0 ∷ 0 ∷ 0 ∷ 0 ∷ 0 ∷ 0 ∷ 1 ∷ [], record { place = 2; rest = 7 ∷ [] })
unfolding bits_of low_bits
ten_bits = refl

too_many_bits : bits_at 18 (start_of (5 ∷ 2 ∷ [])) ≡ Err (record { kind = kind.Short; at = 0 })
too_many_bits = refl

-- running sums of bytes
sums : chain_at (λ before c. number_at 1 c >>= λ b. Ok (before + b.0, b.1)) 3 10 (start_of (1 ∷ 2 ∷ 3 ∷ 9 ∷ [])) ≡ Ok (11 ∷ 13 ∷ 16 ∷ [], record { place = 3; rest = 9 ∷ [] })
unfolding chain_at
sums = refl
