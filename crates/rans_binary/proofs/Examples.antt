-- Worked examples of blocks, computed.
use Rattle.std.proofs.Common.{◌≡◌, true, false, [], ◌∷◌, Err, refl}
use Rattle.drc_base.specs.declared.kinds.Kind.TheVariants as kind
use Rattle.drc_bits.specs.Reading.{start_of}
use Rattle.drc_bits.specs.Varint.{spelling, varint}
use Rattle.rans_core.specs.Coder.{drained, end_bytes, state_pushed}
use Rattle.rans_binary.specs.Blocks.{block, bit_block_at}

-- the blocks of no bit, of the bit 0, of the bit 1 and of two bits 0
none : block [] ≡ 1 ∷ 1 ∷ 0 ∷ []
unfolding block spelling drained end_bytes state_pushed
none = refl

zero_bit : block (false ∷ []) ≡ 255 ∷ 1 ∷ 17 ∷ []
unfolding block spelling drained end_bytes state_pushed
zero_bit = refl

one_bit : block (true ∷ []) ≡ 1 ∷ 1 ∷ 16 ∷ []
unfolding block spelling drained end_bytes state_pushed
one_bit = refl

two_zero_bits : block (false ∷ false ∷ []) ≡ 255 ∷ 1 ∷ 34 ∷ []
unfolding block spelling drained end_bytes state_pushed
two_zero_bits = refl

-- no slot for a zero, and a tag of two bytes where there is one
no_zeros : bit_block_at (start_of (0 ∷ 1 ∷ 17 ∷ [])) ≡ Err (record { kind = kind.BadProb; at = 0 })
unfolding bit_block_at
no_zeros = refl

bad_tag : bit_block_at (start_of (255 ∷ 1 ∷ 64 ∷ [])) ≡ Err (record { kind = kind.BadStart; at = 2 })
unfolding bit_block_at varint
bad_tag = refl
