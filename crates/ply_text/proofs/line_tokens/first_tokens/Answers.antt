use Rattle.std.proofs.Common.{map, arith}
use Rattle.std.proofs.lemmas.List.{length-map}
use Rattle.ply_text.proofs.Splitting.{all_taken, enough_taken, few_taken}
use Rattle.ply_text.proofs.line_tokens.first_tokens.Goals as goal

pub returns-then-len-most-clause-tokens : goal.returns-then-len-most-clause-tokens
returns-then-len-most-clause-tokens c =
    enough_taken (map (λ token. token.now) c.loop-place.found.items) _ _ c.args.most (omega (arith, length-map c.loop-place.found.items (λ token. token.now))) c.loop-place.invariant.0

pub returns-clause-tokens : goal.returns-clause-tokens
returns-clause-tokens c =
    few_taken _ _ c.args.most (omega (arith, length-map c.loop-place.found.items (λ token. token.now)))
    (all_taken (map (λ token. token.now) c.loop-place.found.items) _ c.args.line.now c.loop-place.place (omega arith) c.loop-place.invariant.0)
