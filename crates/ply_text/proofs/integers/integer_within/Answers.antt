use Rattle.std.proofs.Common.{ℕ, List, ap, ◌∙◌}
use Rattle.std.specs.Prelude.{pos, neg_ℤ, option_map}
use Rattle.std.proofs.lemmas.List.{take_rest}
use Rattle.ply_text.specs.Numbers.{natural_within}
use Rattle.ply_text.proofs.Signs.{minus_is}
use Rattle.ply_text.proofs.integers.integer_within.Goals as goal

pub returns-then-token-eq45 : goal.returns-then-token-eq45
returns-then-token-eq45 c =
    c.minus_within.ensures ∙ ap (λ (t : List ℕ). option_map (λ n. neg_ℤ (pos n)) (natural_within c.args.below t)) (take_rest c.args.token.now 1) ∙ minus_is c.args.below c.args.most c.args.token.now c.if-token-eq45.true
