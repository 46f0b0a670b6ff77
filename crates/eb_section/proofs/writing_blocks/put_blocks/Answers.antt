use Rattle.std.proofs.Common.{Bool, Vec, Global}
use Rattle.rans_binary.specs.Blocks.{IsBlockOf, block}
use Rattle.eb_section.proofs.WrittenLoops.{next-mapped}
use Rattle.eb_section.proofs.writing_blocks.put_blocks.Goals as goal

pub loop-i-preserved : goal.loop-i-preserved
loop-i-preserved c =
    let n = next-mapped (λ (s : Vec Bool Global). s.items) block (λ bits. IsBlockOf bits (block bits)) c.args.lists.now c.loop-i.i c.index-lists-i.result c.as_slice.result.now
    c.args.out.now.items c.loop-i.out.items c.put_block.new.out.items c.loop-i-test.true c.index-lists-i.is c.as_slice.ensures.value
    c.loop-i.invariant.bytes c.loop-i.invariant.coded c.in_ok-put_block.ensures.bytes c.in_ok-put_block.ensures.coded in
    record { bytes = n.bytes_are; coded = n.all }
