-- Worked examples, computed.
use Rattle.std.proofs.Common.{◌≡◌, [], ◌∷◌, Some, None, refl}
use Rattle.rans_core.specs.Coder.{Interval, all_spelled, drained, end_bytes, state_pushed, started}

-- of 4096 slots the first 3072 and the other 1024
low : Interval
low = record { cum = 0; prob = 3072 }

high : Interval
high = record { cum = 3072; prob = 1024 }

-- low high low low, from the coded bytes of the symbols 0 1 0 0
four : all_spelled 4 4096 (low ∷ high ∷ low ∷ low ∷ []) ≡ 0 ∷ 36 ∷ 130 ∷ []
unfolding low high drained end_bytes state_pushed
four = refl

-- nothing is coded as the byte 0
nothing : all_spelled 4 4096 [] ≡ 0 ∷ []
unfolding end_bytes
nothing = refl

-- a number with each tag: 63, 64, 2 ^ 14, 2 ^ 22
one_byte : end_bytes 63 ≡ 63 ∷ []
unfolding end_bytes
one_byte = refl

two_bytes : end_bytes 64 ≡ 64 ∷ 64 ∷ []
unfolding end_bytes
two_bytes = refl

three_bytes : end_bytes 16384 ≡ 0 ∷ 64 ∷ 128 ∷ []
unfolding end_bytes
three_bytes = refl

four_bytes : end_bytes 4194304 ≡ 0 ∷ 0 ∷ 64 ∷ 192 ∷ []
unfolding end_bytes
four_bytes = refl

-- no bytes, a missing byte, and a number of 255 bases are no start; one less is
no_bytes : started 4 16384 [] ≡ None
no_bytes = refl

no_second_byte : started 4 16384 (64 ∷ []) ≡ None
no_second_byte = refl

too_large : started 4 16384 (0 ∷ 192 ∷ 191 ∷ []) ≡ None
too_large = refl

largest : started 4 16384 (255 ∷ 191 ∷ 191 ∷ []) ≡ Some (record { number = 4194303; bytes = [] })
largest = refl
