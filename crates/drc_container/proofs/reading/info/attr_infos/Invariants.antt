use Rattle.std.proofs.Common.{◌≡◌, ◌++◌, drop}
use Rattle.drc_container.specs.reading.Meaning.{attr_infos}
use Rattle.drc_container.proofs.reading.info.attr_infos.Given as goal

abbrev pub invariant-loop-k : goal.invariant-loop-k
invariant-loop-k l =
    l.info.items ++ attr_infos l.entries (drop l.k l.heads) (drop l.k l.values)
    ≡ attr_infos l.entries l.heads l.values
