-- Each side writes its flag, and counts where that is a bit.
use Rattle.std.proofs.Common.{ap, ◌∙◌, map, arith}
use Rattle.corner_table.specs.Table.{glued_in}
use Rattle.seams.specs.Seams.{flag_at}
use Rattle.seams.proofs.Bits.{length-below}
use Rattle.seams.proofs.Blocks.{bits_written, bits_end}
use Rattle.seams.proofs.writing.put_bits.Goals as goal

pub bounds-bits-count : goal.bounds-bits-count
bounds-bits-count c =
    let l = length-below c.args.faces c.loop-side.side (glued_in c.args.across.now) c.loop-side.auto.side-end in
    let r = c.requires.room in
    omega arith

pub loop-side-preserved : goal.loop-side-preserved
loop-side-preserved c =
    let l = length-below c.args.faces c.loop-side.side (glued_in c.args.across.now) c.loop-side.auto.side-end in
    let r = c.requires.room in
    let w = bits_written (glued_in c.args.across.now) c.loop-side.side c.loop-side.count c.bits_at-count.result c.args.seam.now c.loop-side.bits c.flag_of.result c.bits_at-count.ensures c.flag_of.ensures (omega arith)
    c.loop-side.invariant.count c.loop-side.invariant.bits in
    record { count = w.0; bits = w.1 }

pub returns : goal.returns
returns c =
    let n = c.loop-side-test.false in
    let e = c.loop-side.auto.side-end in
    c.loop-side.invariant.bits ∙ ap (map (flag_at c.args.seam.now)) (bits_end c.args.faces c.loop-side.side (glued_in c.args.across.now) (omega arith))
