use Rattle.std.proofs.Common.{◌<◌, length, arith, subst}
use Rattle.attr_section.specs.WrittenParts.{flags_bytes, FlagsSpelled}
use Rattle.attr_section.proofs.Loops.{appended-more, all-more}
use Rattle.attr_section.proofs.flag_writing.put_flag_lists.Goals as goal

pub loop-flags-preserved : goal.loop-flags-preserved
loop-flags-preserved c =
    let within : c.loop-flags.flags-index < length c.args.lists.now = omega arith in
    let flags = c.flags-item.result in (
      appended-more flags_bytes c.args.lists.now c.loop-flags.flags-index flags c.args.out.now.items c.loop-flags.out.items c.put_flags.new.out.items within c.flags-item.is c.loop-flags.invariant.0
          (rw c.as_slice.ensures.items at c.in_ok-put_flags.ensures.bytes),
      all-more FlagsSpelled c.args.lists.now c.loop-flags.flags-index flags within c.flags-item.is c.loop-flags.invariant.1 (subst FlagsSpelled c.as_slice.ensures.items c.in_ok-put_flags.ensures.again),
    )
