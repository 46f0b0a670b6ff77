use Rattle.std.proofs.Common.{◌≡◌, drop}
use Rattle.ply_text.specs.Tokens.{tokens_of}
use Rattle.ply_text.proofs.blanks.token_start.Given as goal

-- the blanks so far changed nothing
abbrev pub invariant-loop-i : goal.invariant-loop-i
invariant-loop-i l = tokens_of (drop l.place l.line) ≡ tokens_of (drop l.i l.line)
