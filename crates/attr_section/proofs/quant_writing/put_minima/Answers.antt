use Rattle.std.proofs.Common.{◌<◌, ◌^◌, length, get_or, arith, rules}
use Rattle.std.proofs.lemmas.List.{get_or_default}
use Rattle.drc_bits.specs.Bits.{low_bytes}
use Rattle.attr_section.proofs.Loops.{appended-more, all-more}
use Rattle.attr_section.proofs.quant_writing.put_minima.Goals as goal

pub loop-minimum-preserved : goal.loop-minimum-preserved
loop-minimum-preserved c =
    let within : c.loop-minimum.minimum-index < length c.args.minima.now = omega arith in
    let minimum = get_or c.args.minima.now c.loop-minimum.minimum-index 0 in
    let at = get_or_default c.args.minima.now c.loop-minimum.minimum-index 0 minimum within in
    let fits : minimum < 2 ^ 32 = search rules in (
      appended-more (low_bytes 4) c.args.minima.now c.loop-minimum.minimum-index minimum c.args.out.now.items c.loop-minimum.out.items c.put_u32.new.out.items within at c.loop-minimum.invariant.0 c.in_ok-put_u32.ensures,
      all-more (λ m. m < 2 ^ 32) c.args.minima.now c.loop-minimum.minimum-index minimum within at c.loop-minimum.invariant.1 fits,
    )
