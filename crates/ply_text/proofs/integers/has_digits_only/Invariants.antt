use Rattle.std.proofs.Common.{◌≡◌, drop}
use Rattle.std.specs.List.{list_all}
use Rattle.ply_text.specs.Numbers.{is_digit}
use Rattle.ply_text.proofs.integers.has_digits_only.Given as goal

-- it depends on the bytes that are left
abbrev pub invariant-loop-i : goal.invariant-loop-i
invariant-loop-i l = list_all is_digit (drop l.i l.text) ≡ list_all is_digit l.text
