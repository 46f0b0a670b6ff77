use Rattle.std.proofs.Common.{◌<◌, length, sym, ◌∙◌, arith}
use Rattle.attr_section.specs.TablePositions.{read_in}
use Rattle.drc_container.specs.reading.AsRead.{group_on}
use Rattle.drc_container.proofs.lemmas.reading.PositionsAmong.{from-none, behind-more}
use Rattle.drc_container.proofs.reading.positions.positions_behind.Goals as goal

pub loop-k-init : goal.loop-k-init
loop-k-init c = sym (from-none (read_in c.args.found) c.args.heads.now)

pub loop-k-preserved : goal.loop-k-preserved
loop-k-preserved c =
    let within : c.loop-k.k < length c.args.decoder.now.values.items = omega (arith, c.loop-k-test.true, c.len-k-end.ensures) in
    let inside : c.loop-k.k < length c.args.heads.now = omega (arith, within, c.requires) in
    behind-more (read_in c.args.found) (read_in c.loop-k.positions) (read_in c.with_attribute-positions.result) c.args.heads.now (group_on c.args.whole.now c.args.decoder.now)
    c.loop-k.k c.index-heads-k.result c.as_slice.result.now c.index.result.now c.classes_of-classes.result.now c.as_slice-in-loop-k.result.now inside within c.index-heads-k.is
    (c.as_slice.ensures.items ∙ c.index.ensures) c.classes_of-classes.ensures c.as_slice-in-loop-k.ensures.items c.loop-k.invariant c.with_attribute-positions.ensures
