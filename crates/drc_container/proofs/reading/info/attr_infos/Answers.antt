use Rattle.std.proofs.Common.{arith}
use Rattle.drc_container.proofs.lemmas.reading.AttrInfos.{attr_infos-end}
use Rattle.drc_container.proofs.reading.info.attr_infos.Goals as goal

pub returns : goal.returns
returns c =
    attr_infos-end c.args.entries c.loop-k.k c.args.heads.now c.args.values.now _ _ c.loop-k.invariant
    (omega (arith, c.loop-k-test.false, c.min-k-end.ensures))
