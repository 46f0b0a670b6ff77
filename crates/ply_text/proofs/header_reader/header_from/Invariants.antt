use Rattle.std.proofs.Common.{◌≡◌, ◌+◌, ◌≤◌, length, map}
use Rattle.ply_text.specs.Tokens.{tokens_of}
use Rattle.ply_text.specs.Draft.{draft_of}
use Rattle.ply_text.specs.IsHeader.{IsDraft}
use Rattle.ply_text.specs.Header.{no_draft, header_from}
use Rattle.ply_text.proofs.header_reader.header_from.Given as goal

-- the lines that are left, after what is declared so far, give the header
abbrev pub invariant-loop-line : goal.invariant-loop-line
invariant-loop-line l =
    (header_from l.profile.number l.at (draft_of l.draft) (map tokens_of l.lines) ≡ header_from l.profile.number 2 no_draft (map tokens_of l.fn.lines))
    × (l.at + length l.lines ≡ 2 + length l.fn.lines)
    × (2 ≤ l.at)
    × IsDraft (draft_of l.draft)

abbrev pub decreases-loop-line : goal.decreases-loop-line
decreases-loop-line l = length l.lines
