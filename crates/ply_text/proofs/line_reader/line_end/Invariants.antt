use Rattle.ply_text.proofs.Cutting.{IsPlain}
use Rattle.ply_text.proofs.line_reader.line_end.Given as goal

-- no LF so far
abbrev pub invariant-loop-i : goal.invariant-loop-i
invariant-loop-i l = IsPlain l.text l.i
