use Rattle.std.proofs.Common.{◌≡◌, ◌≤◌, ◌<◌, ◌-◌, ◌++◌, false, length, map, drop, get_or}
use Rattle.ply_text.specs.Tokens.{is_blank, tokens_of}
use Rattle.ply_text.proofs.line_tokens.first_tokens.Given as goal

-- the tokens found and those that are left are those of the line; as long as these are few, no room was taken
abbrev pub invariant-loop-place : goal.invariant-loop-place
invariant-loop-place l =
    (map (λ token. token.now) l.found.items ++ tokens_of (drop l.place l.line) ≡ tokens_of l.line)
    × (l.place ≤ length l.line)
    × (l.place < length l.line → is_blank (get_or l.line l.place 0) ≡ false)
    × (length (tokens_of l.line) ≤ 8 → l.found.capacity ≡ 8)
    × (length l.found.items ≤ l.most)

abbrev pub decreases-loop-place : goal.decreases-loop-place
decreases-loop-place l = length l.line - l.place
