use Rattle.std.proofs.Common.{◌≡◌, [], length, drop, take}
use Rattle.attr_section.specs.Each.{each_at}
use Rattle.attr_section.specs.Attributes.{next_completed_at, comps_of}
use Rattle.attr_section.proofs.quants.read_quants.Given as goal

abbrev pub invariant-loop-k : goal.invariant-loop-k
invariant-loop-k l =
    (each_at (next_completed_at l.values) l.quantised.items (drop l.k l.heads) l.c ≡ each_at (next_completed_at l.values) [] l.heads l.fn.c)
    × (comps_of l.quantised.items ≡ comps_of (take l.k l.heads))
    × (length l.quantised.items ≡ l.k)
