use Rattle.std.proofs.Common.{◌≡◌, map, drop, string_bytes}
use Rattle.drc_app.specs.Progress.{line_from, line_of}
use Rattle.drc_app.proofs.command_lines.command_of.Given as goal

abbrev pub invariant-loop-i : goal.invariant-loop-i
invariant-loop-i l = line_from l.i l.progress (map string_bytes (drop l.i l.words)) ≡ line_of (map string_bytes l.words)
