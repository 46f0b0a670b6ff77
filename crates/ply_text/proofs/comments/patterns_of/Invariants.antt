use Rattle.std.proofs.Common.{◌≡◌, ◌++◌, length}
use Rattle.std.specs.Prelude.{option_map}
use Rattle.ply_text.specs.Comments.{patterns_of}
use Rattle.ply_text.proofs.comments.patterns_of.Given as goal

-- the patterns so far and those of the tokens that are left are all
abbrev pub invariant-loop-token : goal.invariant-loop-token
invariant-loop-token l = option_map (λ more. l.patterns.items ++ more) (patterns_of l.tokens) ≡ patterns_of l.fn.tokens

abbrev pub decreases-loop-token : goal.decreases-loop-token
decreases-loop-token l = length l.tokens
