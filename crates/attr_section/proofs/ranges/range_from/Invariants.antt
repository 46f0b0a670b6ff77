use Rattle.std.proofs.Common.{◌≡◌, take}
use Rattle.std.specs.Int.{int_min, int_max}
use Rattle.std.specs.List.{fold}
use Rattle.attr_section.proofs.ranges.range_from.Given as goal

abbrev pub invariant-loop-value : goal.invariant-loop-value
invariant-loop-value l =
    (l.low ≡ fold int_min l.fn.first (take l.value-index l.rest))
    × (l.high ≡ fold int_max l.fn.first (take l.value-index l.rest))
