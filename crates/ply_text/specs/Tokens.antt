-- The tokens of a line of ASCII PLY (PLY 1.0: words with blanks between them).
use Rattle.std.specs.Prelude.{ℕ, Bool, ◌||◌, List, length, map, nat_lt, ◌==◌}
use Rattle.std.specs.List.{filter, slice_split}
use Rattle.std.specs.Str.Lines.{lines}

-- a space or a tab
abbrev pub is_blank : ℕ → Bool
is_blank c = c == 32 || c == 9

-- the tokens of a line: the parts between blanks that aren't empty
unfoldable pub tokens_of : List ℕ → List (List ℕ)
tokens_of line = filter (λ part. nat_lt 0 (length part)) (slice_split is_blank line)

-- each line's tokens. Lines end at an LF, and lose a CR right before it; a last line without an LF counts where it isn't empty
unfoldable pub token_lines : List ℕ → List (List (List ℕ))
token_lines text = map tokens_of (lines text)
