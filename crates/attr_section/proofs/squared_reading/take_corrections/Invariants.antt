use Rattle.std.proofs.Common.{◌≡◌, ◌++◌, take, drop, map}
use Rattle.attr_section.specs.Squared.{correction_of}
use Rattle.attr_section.proofs.squared_reading.take_corrections.Given as goal

abbrev pub invariant-loop-k : goal.invariant-loop-k
invariant-loop-k l = l.integers ≡ map correction_of (take l.k l.fn.integers) ++ drop l.k l.fn.integers
