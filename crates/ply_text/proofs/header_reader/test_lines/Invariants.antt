use Rattle.std.proofs.Common.{◌≡◌, ◌+◌, length, map}
use Rattle.ply_text.specs.Tokens.{tokens_of}
use Rattle.ply_text.specs.DeclaredLines.{declared_from}
use Rattle.ply_text.specs.Header.{no_draft}
use Rattle.ply_text.proofs.OutlineSteps.{Declares}
use Rattle.ply_text.proofs.header_reader.test_lines.Given as goal

-- the lines that are left, after a draft that has the outline so far, declare what all do
abbrev pub invariant-loop-line : goal.invariant-loop-line
invariant-loop-line l = record {
  declares : Declares l.profile.number l.at l.outline (map tokens_of l.lines) (declared_from l.profile.number 2 no_draft (map tokens_of l.fn.lines));
  room : l.at + length l.lines ≡ 2 + length l.fn.lines;
}

abbrev pub decreases-loop-line : goal.decreases-loop-line
decreases-loop-line l = length l.lines
