use Rattle.std.proofs.Common.{◌<◌, [], length, arith}
use Rattle.eb_section.specs.Written.{list_bytes}
use Rattle.eb_section.specs.CodedBlocks.{IsSymbolBlock}
use Rattle.eb_section.proofs.WrittenLoops.{next-written}
use Rattle.eb_section.proofs.writing_valence.put_lists.Goals as goal

pub loop-context-preserved : goal.loop-context-preserved
loop-context-preserved c =
    let below : c.loop-context.context < length c.args.lists.now = omega (arith, c.requires.all, c.loop-context-test.true) in
    let n = next-written list_bytes IsSymbolBlock c.args.lists.now c.loop-context.context c.list.result.now [] c.args.out.now.items c.loop-context.out.items c.put_list.new.out.items
    below c.list.ensures c.loop-context.invariant.bytes c.loop-context.invariant.coded c.in_ok-put_list.ensures.bytes c.in_ok-put_list.ensures.coded in
    record { bytes = n.bytes_are; coded = n.all }
