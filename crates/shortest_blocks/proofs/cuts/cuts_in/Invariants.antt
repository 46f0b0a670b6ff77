use Rattle.std.proofs.Common.{◌≡◌, sum, take}
use Rattle.shortest_blocks.specs.Cuts.{cuts_below}
use Rattle.shortest_blocks.proofs.cuts.cuts_in.Given as goal

abbrev pub invariant-loop-last : goal.invariant-loop-last
invariant-loop-last l = record {
  cuts : l.cuts.items ≡ cuts_below l.counts l.all l.comps l.last;
  groups : l.groups ≡ sum (take l.last l.counts);
}
