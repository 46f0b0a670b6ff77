use Rattle.std.proofs.Common.{◌≤◌, length}
use Rattle.drc_base.proofs.Appending.{Written}
use Rattle.drc_base.proofs.writing.write_all.Given as goal

abbrev pub invariant-loop-rest : goal.invariant-loop-rest
invariant-loop-rest g l =
    let sink = g.O.Sink in
    Written (sink.held l.fn.out) (sink.held l.out) l.bytes l.rest × (sink.faults l.fn.out ≤ sink.faults l.out)

abbrev pub decreases-loop-rest : goal.decreases-loop-rest
decreases-loop-rest g l = length l.rest
