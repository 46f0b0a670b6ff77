use Rattle.std.proofs.Common.{◌≡◌, drop}
use Rattle.ply_text.specs.Numbers.{hex_after}
use Rattle.ply_text.proofs.Patterns.{IsHexOf}
use Rattle.ply_text.proofs.bit_patterns.pattern_of.Given as goal

-- the digits that are left, after those so far, give the number
abbrev pub invariant-loop-i : goal.invariant-loop-i
invariant-loop-i l = (hex_after l.value (drop l.i l.token) ≡ hex_after 0 l.token) × IsHexOf l.value l.i
