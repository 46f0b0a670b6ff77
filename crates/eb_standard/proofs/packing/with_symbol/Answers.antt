use Rattle.std.proofs.Common.{◌≡◌, ◌+◌, ◌*◌, ◌^◌, ◌++◌, ◌∙◌, ◌%◌, bit_or, refl, ap, arith}
use Rattle.drc_bits.specs.Bits.{low_bits}
use Rattle.drc_bits.proofs.BitLists.{low_bits-add}
use Rattle.drc_bits.proofs.Buffers.{or_above, sum_fits}
use Rattle.eb_standard.proofs.packing.with_symbol.Goals as goal
use Rattle.eb_standard.proofs.packing.with_symbol.Goals.{After-code_of-code}

-- the number is a sum
sum_is : (c : After-code_of-code) → bit_or c.args.word (c.code_of-code.result.0 * 2 ^ c.args.count % 2 ^ 64) ≡ c.args.word + c.code_of-code.result.0 * 2 ^ c.args.count
sum_is c =
    or_above c.args.word c.args.count c.code_of-code.result.1 c.code_of-code.result.0 c.code_of-code.result.0 refl c.requires.word c.code_of-code.ensures.fits
    (omega (arith, c.requires.count, c.code_of-code.ensures.few))

pub returns-clause-bits : goal.returns-clause-bits
returns-clause-bits c =
    ap (low_bits (c.args.count + c.code_of-code.result.1)) (sum_is c)
    ∙ low_bits-add c.args.count c.code_of-code.result.1 c.args.word c.code_of-code.result.0 c.requires.word
    ∙ ap (λ bits. low_bits c.args.count c.args.word ++ bits) c.code_of-code.ensures.bits

pub returns-clause-fits : goal.returns-clause-fits
returns-clause-fits c =
    rw (sum_is c) (sum_fits c.args.word c.args.count c.code_of-code.result.1 c.code_of-code.result.0 c.requires.word c.code_of-code.ensures.fits)
