use Rattle.std.proofs.Common.{◌≤◌, ◌-◌, vec_len}
use Rattle.drc_base.specs.Sources.{Gave}
use Rattle.drc_base.proofs.reading.read_by.Given as goal

abbrev pub invariant-loop-n : goal.invariant-loop-n
invariant-loop-n g l =
    let source = g.I.Source in
    Gave (source.left l.fn.input) (source.left l.input) (source.given l.fn.input) (source.given l.input) l.bytes.items
    × (source.faults l.fn.input ≤ source.faults l.input) × (vec_len l.bytes ≤ l.most)

abbrev pub decreases-loop-n : goal.decreases-loop-n
decreases-loop-n g l = l.most - vec_len l.bytes
