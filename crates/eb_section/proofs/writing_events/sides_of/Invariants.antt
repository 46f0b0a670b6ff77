use Rattle.std.proofs.Common.{◌≡◌, map, take}
use Rattle.eb_section.specs.Written.{side_bit}
use Rattle.eb_section.proofs.writing_events.sides_of.Given as goal

abbrev pub invariant-loop-i : goal.invariant-loop-i
invariant-loop-i l = l.bits ≡ map side_bit (take l.i l.events)
